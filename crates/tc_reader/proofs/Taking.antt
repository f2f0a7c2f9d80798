-- Taking the first line of a text.
use Rattle.std.{proofs.{Common.{ℕ, suc, ◌≡◌, ◌∙◌, ◌+◌, ◌-◌, ◌<◌, ◌≤◌, Bool, true, false, List, [], ◌∷◌, ◌++◌, length, take, drop, refl, sym, ap, get_or, arith, drop-cons}, lemmas.{Bool.Decides.nat_tests, Grind.get_or_default_zero, List.{Splits.{length-slice_split, slice_split_at, slice_split_none}, Sums.count_by-le-length, append-nil, get_or-take, length-drop, length-take-le, take-append-drop, take_all}}}, specs.{Prelude.{◌==◌, if◌then◌else◌, slice_index, All, Some, None}, List.slice_split}}
use Rattle.memchr.specs.Find.{IsFirstByte, is_byte}
use Rattle.tc_reader.specs.{Inside.{is_newline, without_end}, Text.lines}

-- no byte of the text is a line feed
abbrev pub HasNoEnd : List ℕ → Type 0
HasNoEnd text = All (λ b. is_newline b ≡ false) text

at_last : (text : List ℕ) (n : ℕ) → length text ≡ n + 1 → without_end text ≡ (if slice_index text n == 10 then take n text else text)
at_last text n long = let e : length text - 1 ≡ n = omega (arith, long) in rw e refl

cut_on : (b c : ℕ) (rest : List ℕ) → without_end (b ∷ c ∷ rest) ≡ b ∷ without_end (c ∷ rest)
cut_on b c rest = at_last (b ∷ c ∷ rest) (suc (length rest)) (omega arith) ∙ by (slice_index (c ∷ rest) (length rest) == 10) ∙ sym (ap (λ xs. b ∷ xs) (at_last (c ∷ rest) (length rest) (omega arith)))
  where
    by : (x : Bool) → (if x then take (suc (length rest)) (b ∷ c ∷ rest) else b ∷ c ∷ rest) ≡ b ∷ (if x then take (length rest) (c ∷ rest) else c ∷ rest)
    by true = refl
    by false = refl

cut_after : (front : List ℕ) (c : ℕ) (rest : List ℕ) → without_end (front ++ c ∷ rest) ≡ front ++ without_end (c ∷ rest)
cut_after [] c rest = refl
cut_after (b ∷ []) c rest = cut_on b c rest
cut_after (b ∷ d ∷ front) c rest = cut_on b d (front ++ c ∷ rest) ∙ ap (λ xs. b ∷ xs) (cut_after (d ∷ front) c rest)

some_lines : (text : List ℕ) → 1 ≤ length text → lines text ≡ slice_split is_newline (without_end text)
unfolding lines
some_lines text some = by (length text == 0) (grind (arith, nat_tests, some))
  where
    by : (b : Bool) → b ≡ false → (if b then [] else slice_split is_newline (without_end text)) ≡ slice_split is_newline (without_end text)
    by false e = refl
    by true e = absurd cc

shorter : (text : List ℕ) → length (without_end text) ≤ length text
shorter text = by (slice_index text (length text - 1) == 10)
  where
    by : (b : Bool) → length (if b then take (length text - 1) text else text) ≤ length text
    by true = omega (arith, length-take-le (length text - 1) text (omega arith))
    by false = omega arith

-- a text has no more lines than bytes, and one
pub few_lines : (text : List ℕ) → length (lines text) ≤ length text + 1
unfolding lines
few_lines text = by (length text == 0)
  where
    by : (b : Bool) → length (if b then [] else slice_split is_newline (without_end text)) ≤ length text + 1
    by true = omega arith
    by false = omega (arith, length-slice_split is_newline (without_end text), count_by-le-length is_newline (without_end text), shorter text)

longer : (front : List ℕ) (c : ℕ) (rest : List ℕ) → 1 ≤ length (front ++ c ∷ rest)
longer [] c rest = omega arith
longer (b ∷ front) c rest = omega arith

lone_end : without_end (10 ∷ []) ≡ []
lone_end = at_last (10 ∷ []) 0 refl

pub lines_next : (front rest : List ℕ) → HasNoEnd front → lines (front ++ 10 ∷ rest) ≡ front ∷ lines rest
unfolding lines
lines_next front [] none =
    some_lines (front ++ 10 ∷ []) (longer front 10 []) ∙ ap (slice_split is_newline) (cut_after front 10 [] ∙ ap (λ xs. front ++ xs) lone_end ∙ append-nil front) ∙ slice_split_none is_newline front none
lines_next front (c ∷ rest) none =
    some_lines (front ++ 10 ∷ c ∷ rest) (longer front 10 (c ∷ rest)) ∙ ap (slice_split is_newline) (cut_after front 10 (c ∷ rest) ∙ ap (λ xs. front ++ xs) (cut_on 10 c rest))
    ∙ slice_split_at is_newline front 10 (without_end (c ∷ rest)) none refl ∙ ap (λ xs. front ∷ xs) (sym (some_lines (c ∷ rest) (omega arith)))

not_true : (b : Bool) → (b ≡ true → ⊥) → b ≡ false
not_true true f = absurd (f refl)
not_true false f = refl

all_before : (text : List ℕ) (k : ℕ) → ((i : ℕ) → i < k → is_newline (slice_index text i) ≡ false) → k ≤ length text → HasNoEnd (take k text)
all_before text k f le i d lt =
    let low : i < k = omega (arith, lt, length-take-le k text le) in
    let same : get_or (take k text) i d ≡ slice_index text i = get_or-take k text i d low ∙ get_or_default_zero text i d (omega (arith, low, le)) in
    ap is_newline same ∙ f i low

is_ten : (b : ℕ) → is_newline b ≡ true → b ≡ 10
is_ten b e = grind (arith, nat_tests, e)

-- the text up to its first line feed has none, and the rest follows
cut_at : (text : List ℕ) (k : ℕ) → IsFirstByte (is_byte 10) text (Some k) → HasNoEnd (take k text) × (text ≡ take k text ++ 10 ∷ drop (k + 1) text)
cut_at text k is =
    let next : suc k ≡ k + 1 = omega arith in
    let end : drop k text ≡ 10 ∷ drop (k + 1) text =
    drop-cons text k 0 is.0.high ∙ ap (λ n. slice_index text k ∷ drop n text) next ∙ ap (λ b. b ∷ drop (k + 1) text) (is_ten (slice_index text k) is.1) in (
      all_before text k (λ i lt. not_true _ (is.0.before i (omega arith) lt)) (omega (arith, is.0.high)),
      sym (take-append-drop k text) ∙ ap (λ xs. take k text ++ xs) end,
    )

-- what is left after it, as a part of the text
left_whole : (text : List ℕ) (k : ℕ) → take (length text - (k + 1)) (drop (k + 1) text) ≡ drop (k + 1) text
left_whole text k = take_all (length text - (k + 1)) (drop (k + 1) text) (omega (arith, length-drop (k + 1) text))

first_taken : (text : List ℕ) (k : ℕ) → IsFirstByte (is_byte 10) text (Some k) → lines text ≡ take k text ∷ lines (drop (k + 1) text)
first_taken text k is =
    let two = cut_at text k is in
    ap lines two.1 ∙ lines_next (take k text) (drop (k + 1) text) two.0

-- the same, with what is left as a part of the text
pub first_cut : (text : List ℕ) (k : ℕ) → IsFirstByte (is_byte 10) text (Some k) → lines text ≡ take k text ∷ lines (take (length text - (k + 1)) (drop (k + 1) text))
first_cut text k is = first_taken text k is ∙ ap (λ rest. take k text ∷ lines rest) (sym (left_whole text k))

pub last_taken : (text : List ℕ) → 1 ≤ length text → IsFirstByte (is_byte 10) text None → lines text ≡ text ∷ []
last_taken [] some is = absurd (omega (arith, some))
last_taken (b ∷ text) some is =
    let none : HasNoEnd (b ∷ text) = λ i d lt. ap is_newline (get_or_default_zero (b ∷ text) i d lt) ∙ not_true _ (is i (omega arith) lt) in
    let last : is_newline (slice_index (b ∷ text) (length text)) ≡ false = not_true _ (is (length text) (omega arith) (omega arith)) in
    let whole : without_end (b ∷ text) ≡ b ∷ text = at_last (b ∷ text) (length text) (omega arith) ∙ by _ last in
    some_lines (b ∷ text) some ∙ ap (slice_split is_newline) whole ∙ slice_split_none is_newline (b ∷ text) none
  where
    by : (x : Bool) → x ≡ false → (if x then take (length text) (b ∷ text) else b ∷ text) ≡ b ∷ text
    by false e = refl
    by true e = absurd cc

pub none_taken : lines [] ≡ []
unfolding lines
none_taken = refl

pub ruleset taking_rules = (last_taken, none_taken)
