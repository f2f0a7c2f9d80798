-- What the digits that a text begins with say of its number.
use Rattle.std.{proofs.{Common.{◌≡◌, ◌∙◌, ◌<◌, ◌≤◌, ◌+◌, ◌-◌, ◌*◌, ◌^◌, ◌⊎◌, ◌&&◌, ℕ, Bool, List, [], ◌∷◌, ◌++◌, length, slice_index, take, drop, sym, ap, true, false, arith, rules, inl, inr, zero, suc, refl}, lemmas.Bool.Decides.nat_tests, lemmas.Fmt.{decimal-digits_value, decimal_digit, decimal_is_IsNumeral, decimal_nonempty, digits_decimal, digits_value-decimal, first_decimal}, lemmas.List.{take-append-drop, take_more}, lemmas.Str.Parse.{IsNumeralModel, digit_at, numerals_by_fold}}, specs.{Char.is_ascii_digit, Fmt.decimal, Str.all_ascii_digits}}
use Rattle.tc_text.specs.{Inside.AreDigits, Inside.Counted, Inside.NoDigitFirst, Inside.read_on, Reading.EndsNumber}

own : IsNumeralModel (λ ds. all_ascii_digits ds ≡ true) (read_on 0)
own = numerals_by_fold _ (search rules) read_on (search rules)

-- ---- digits, one at a time

pub both : (a b : Bool) → (a && b) ≡ true → (a ≡ true) × (b ≡ true)
both true true e = (refl, refl)
both true false e = absurd cc
both false b e = absurd cc

from_both : (a b : Bool) → a ≡ true → b ≡ true → (a && b) ≡ true
from_both true true e f = refl
from_both true false e f = absurd cc
from_both false b e f = absurd cc

digits_more : (ds : List ℕ) (c : ℕ) → all_ascii_digits ds ≡ true → is_ascii_digit c ≡ true → all_ascii_digits (ds ++ c ∷ []) ≡ true
digits_more [] c all one = from_both (is_ascii_digit c) true one refl
digits_more (d ∷ ds) c all one = let two = both (is_ascii_digit d) (all_ascii_digits ds) all in from_both (is_ascii_digit d) (all_ascii_digits (ds ++ c ∷ [])) two.0 (digits_more ds c two.1 one)

read_on_more : (n : ℕ) (ds : List ℕ) (c : ℕ) → read_on n (ds ++ c ∷ []) ≡ 10 * read_on n ds + (c - 48)
read_on_more n [] c = refl
read_on_more n (d ∷ ds) c = read_on_more (10 * n + (d - 48)) ds c

is_digit : (d : ℕ) → d ≤ 9 → is_ascii_digit (48 + d) ≡ true
is_digit d low = grind (arith, nat_tests)

digit_above : (b : ℕ) → is_ascii_digit b ≡ true → b < 48 → ⊥
digit_above b digit low = grind (arith, nat_tests)

-- ---- how far the digits are read

-- the digits with one more, and their value
pub one_more : (text : List ℕ) (place number d : ℕ) → Counted text place number → place < length text → slice_index text place ≡ 48 + d → d ≤ 9 → (all_ascii_digits (take (place + 1) text) ≡ true) × (number * 10 + d ≡ read_on 0 (take (place + 1) text))
one_more text place number d so low is small =
    let more : take (place + 1) text ≡ take place text ++ (48 + d) ∷ [] = take_more text place 0 low ∙ ap (λ b. take place text ++ b ∷ []) is in
    let value : read_on 0 (take place text ++ (48 + d) ∷ []) ≡ 10 * read_on 0 (take place text) + d = read_on_more 0 (take place text) (48 + d) ∙ ap (λ k. 10 * read_on 0 (take place text) + k) (omega arith) in
    (ap all_ascii_digits more ∙ digits_more (take place text) (48 + d) so.digits (is_digit d small), let at = so.value in omega (arith, value, ap (read_on 0) more, at))

pub counted_more : (text : List ℕ) (place number d : ℕ) → Counted text place number → place < length text → slice_index text place ≡ 48 + d → d ≤ 9 → number * 10 + d < 2 ^ 32 → Counted text (place + 1) (number * 10 + d)
counted_more text place number d so low is small fits =
    let two = one_more text place number d so low is small in
    record { within = omega arith; digits = two.0; value = two.1; fits = fits }

-- ---- the digits of a text are those of its number

read_on_above : (n : ℕ) (cs : List ℕ) → n ≤ read_on n cs
read_on_above n [] = omega arith
read_on_above n (c ∷ cs) = let more = read_on_above (10 * n + (c - 48)) cs in omega (arith, more)

first_of : (x y : ℕ) (xs ys : List ℕ) → x ∷ xs ≡ y ∷ ys → (x ≡ y) × (xs ≡ ys)
first_of x y xs ys e = (cc, cc)

prefix_below : (m : ℕ) (ds rest xs after : List ℕ) → all_ascii_digits ds ≡ true → EndsNumber after → ds ++ rest ≡ xs ++ after → read_on m ds ≤ read_on m xs
prefix_below m [] rest xs after all ends e = read_on_above m xs
prefix_below m (d ∷ ds) rest [] after all ends e = absurd (digit_above d (both (is_ascii_digit d) (all_ascii_digits ds) all).0 (ends d (ds ++ rest) (sym e)))
prefix_below m (d ∷ ds) rest (x ∷ xs) after all ends e =
    let two = first_of d x (ds ++ rest) (xs ++ after) e in
    rw (sym two.0) (prefix_below (10 * m + (d - 48)) ds rest xs after (both (is_ascii_digit d) (all_ascii_digits ds) all).1 ends two.1)

same_digits : (ds rest xs after : List ℕ) → all_ascii_digits ds ≡ true → all_ascii_digits xs ≡ true → NoDigitFirst rest → EndsNumber after → ds ++ rest ≡ xs ++ after → (ds ≡ xs) × (rest ≡ after)
same_digits [] rest [] after all every none ends e = (refl, e)
same_digits [] rest (x ∷ xs) after all every none ends e = absurd (none x (xs ++ after) e (both (is_ascii_digit x) (all_ascii_digits xs) every).0)
same_digits (d ∷ ds) rest [] after all every none ends e = absurd (digit_above d (both (is_ascii_digit d) (all_ascii_digits ds) all).0 (ends d (ds ++ rest) (sym e)))
same_digits (d ∷ ds) rest (x ∷ xs) after all every none ends e =
    let two = first_of d x (ds ++ rest) (xs ++ after) e in
    let others = same_digits ds rest xs after (both (is_ascii_digit d) (all_ascii_digits ds) all).1 (both (is_ascii_digit x) (all_ascii_digits xs) every).1 none ends two.1 in
    (ap (λ b. b ∷ ds) two.0 ∙ ap (λ l. x ∷ l) others.0, others.1)

pub spelled_digits : (n : ℕ) → n < 2 ^ 32 → (all_ascii_digits (decimal n) ≡ true) × (read_on 0 (decimal n) ≡ n)
spelled_digits n fits = let wide : n < 2 ^ 64 = omega arith in (digits_decimal own n wide, digits_value-decimal own n wide)

-- a number too large is no spelling's
pub never_large : (text : List ℕ) (place number d n : ℕ) (after : List ℕ) → Counted text place number → place < length text → slice_index text place ≡ 48 + d → d ≤ 9 → 2 ^ 32 ≤ number * 10 + d → n < 2 ^ 32 → EndsNumber after → text ≡ decimal n ++ after → ⊥
never_large text place number d n after so low is small large fits ends e =
    let two = one_more text place number d so low is small in
    let below = prefix_below 0 (take (place + 1) text) (drop (place + 1) text) (decimal n) after two.0 ends (take-append-drop (place + 1) text ∙ e) in
    let same = (spelled_digits n fits).1 in
    omega (arith, two.1, below, same, large, fits)

pub all_digits : (text : List ℕ) (place number n : ℕ) (after : List ℕ) → Counted text place number → NoDigitFirst (drop place text) → n < 2 ^ 32 → EndsNumber after → text ≡ decimal n ++ after → (take place text ≡ decimal n) × (drop place text ≡ after)
all_digits text place number n after so none fits ends e = same_digits (take place text) (drop place text) (decimal n) after so.digits (spelled_digits n fits).0 none ends (take-append-drop place text ∙ e)

pub that_number : (text : List ℕ) (place number n : ℕ) (after : List ℕ) → Counted text place number → NoDigitFirst (drop place text) → n < 2 ^ 32 → EndsNumber after → text ≡ decimal n ++ after → (number ≡ n) × (drop place text ≡ after)
that_number text place number n after so none fits ends e =
    let two = all_digits text place number n after so none fits ends e in
    (so.value ∙ ap (read_on 0) two.0 ∙ (spelled_digits n fits).1, two.1)

spelled_short : (n : ℕ) (bs : List ℕ) → n < 2 ^ 32 → bs ≡ decimal n → slice_index bs 0 ≡ 48 → length bs ≤ 1
spelled_short zero bs fits e = rw e (search (rules, decimal_digit))
spelled_short (suc n) bs fits e = let large : 48 < slice_index (decimal (suc n)) 0 = first_decimal (suc n) (omega arith) (omega arith) in rw e (λ digit. omega arith)

pub never_wrong : (n : ℕ) (bs : List ℕ) → n < 2 ^ 32 → bs ≡ decimal n → (length bs ≡ 0) ⊎ ((slice_index bs 0 ≡ 48) × (1 < length bs)) → ⊥
never_wrong n bs fits e (inl empty) =
    let wide : n < 2 ^ 64 = omega arith in
    let some : 0 < length bs = rw e (decimal_nonempty n wide) in omega (arith, some, empty)
never_wrong n bs fits e (inr zero_first) = let low = spelled_short n bs fits e zero_first.0 in omega (arith, low, zero_first.1)

pub spelled : (text : List ℕ) (place number : ℕ) → Counted text place number → 0 < length (take place text) → (slice_index (take place text) 0 ≡ 48 → length (take place text) ≤ 1) → text ≡ decimal number ++ drop place text
spelled text place number so some short =
    let low : read_on 0 (take place text) < 2 ^ 64 = (let at = so.value in let fits = so.fits in omega (arith, at, fits)) in
    let is : decimal (read_on 0 (take place text)) ≡ take place text = decimal-digits_value own (take place text) so.digits some (λ zero_first. let few = short zero_first in omega (arith, few, some)) low in
    sym (take-append-drop place text) ∙ ap (λ l. l ++ drop place text) (sym is ∙ ap decimal (sym so.value))

-- the first digit of a number, and the others
pub digit_first : (n : ℕ) → n < 2 ^ 32 → (d : ℕ) × ((ds : List ℕ) × (decimal n ≡ d ∷ ds) × (48 ≤ d) × (d ≤ 57))
digit_first n fits =
    let wide : n < 2 ^ 64 = omega arith in
    let some : 0 < length (decimal n) = decimal_nonempty n wide in
    let digit : (48 ≤ slice_index (decimal n) 0) × (slice_index (decimal n) 0 ≤ 57) = digit_at (decimal n) 0 (decimal_is_IsNumeral n wide).0.1 some in
    parts (decimal n) some digit
  where
    parts : (ds : List ℕ) → 0 < length ds → (48 ≤ slice_index ds 0) × (slice_index ds 0 ≤ 57) → (d : ℕ) × ((rest : List ℕ) × (ds ≡ d ∷ rest) × (48 ≤ d) × (d ≤ 57))
    parts [] some digit = absurd (omega (arith, some))
    parts (d ∷ rest) some digit = (d, (rest, refl, digit.0, digit.1))

-- no number begins with a letter
pub no_letter : (n b : ℕ) (rest after : List ℕ) → n < 2 ^ 32 → 57 < b → decimal n ++ rest ≡ b ∷ after → ⊥
no_letter n b rest after fits letter e =
    let first = digit_first n fits in
    let same : first.0 ≡ b = (first_of first.0 b (first.1.0 ++ rest) after (ap (λ l. l ++ rest) (sym first.1.1) ∙ e)).0 in
    omega (arith, same, first.1.3, letter)

-- ---- how many digits come first

-- one digit more
pub digits_further : (text : List ℕ) (place d : ℕ) → all_ascii_digits (take place text) ≡ true → place < length text → slice_index text place ≡ 48 + d → d ≤ 9 → all_ascii_digits (take (place + 1) text) ≡ true
digits_further text place d all low is small =
    let more : take (place + 1) text ≡ take place text ++ (48 + d) ∷ [] = take_more text place 0 low ∙ ap (λ b. take place text ++ b ∷ []) is in
    ap all_ascii_digits more ∙ digits_more (take place text) (48 + d) all (is_digit d small)

-- a text has one number of first digits
same_run : (ds rest xs after : List ℕ) → all_ascii_digits ds ≡ true → all_ascii_digits xs ≡ true → NoDigitFirst rest → NoDigitFirst after → ds ++ rest ≡ xs ++ after → ds ≡ xs
same_run [] rest [] after all every none ends e = refl
same_run [] rest (x ∷ xs) after all every none ends e = absurd (none x (xs ++ after) e (both (is_ascii_digit x) (all_ascii_digits xs) every).0)
same_run (d ∷ ds) rest [] after all every none ends e = absurd (ends d (ds ++ rest) (sym e) (both (is_ascii_digit d) (all_ascii_digits ds) all).0)
same_run (d ∷ ds) rest (x ∷ xs) after all every none ends e =
    let two = first_of d x (ds ++ rest) (xs ++ after) e in
    let others = same_run ds rest xs after (both (is_ascii_digit d) (all_ascii_digits ds) all).1 (both (is_ascii_digit x) (all_ascii_digits xs) every).1 none ends two.1 in
    ap (λ b. b ∷ ds) two.0 ∙ ap (λ l. x ∷ l) others

pub counted_all : (text : List ℕ) (place number end : ℕ) → Counted text place number → NoDigitFirst (drop place text) → AreDigits text end → Counted text end number
counted_all text place number end so none are =
    let same : take place text ≡ take end text = same_run (take place text) (drop place text) (take end text) (drop end text) so.digits are.digits none are.ended (take-append-drop place text ∙ sym (take-append-drop end text)) in
    record { within = are.within; digits = are.digits; value = so.value ∙ ap (read_on 0) same; fits = so.fits }
