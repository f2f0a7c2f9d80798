-- The lines of evidence that are no entries, and how they differ from others.
use Rattle.std.{proofs.{Common.{ℕ, ◌≡◌, ◌≢◌, ◌∙◌, ◌<◌, ◌≤◌, ◌+◌, ◌^◌, Bool, true, false, All, IsTrue, inl, inr, List, [], ◌∷◌, ◌++◌, codes, length, take, get_or, ap, sym, refl, append_assoc, arith}, lemmas.{Bool.Decides.nat_tests, List.{Elements.{All-head, All-tail}, take_more}}}, specs.{Char.is_ascii_digit, Cmp.Derive.both_true, Fmt.decimal, Str.all_ascii_digits}}
use Rattle.tc_rules.specs.Prelude.{Verdict, Run, name_of, IsName, Entry, Op}
use Rattle.tc_text.{specs.{Inside.NoLow, Prelude.{lines_of, EndsLine, EndsNumber, is_plain, op_text, reply_text}}, proofs.Lemmas.{Digits.{both, digit_first, no_letter, spelled_digits}, LinesOf.{line_ended, same_cut}}}
use Rattle.tc_blocks.{specs.{HistoryBlock.{end_text, entry_text}, HistoryText.IsEntry, Inside.{ArePlain, NoPlainFirst, mark_text}, Line.{line_text, naming_text, said_text}, Text.IsLine, declared.{header.Kind.Kind, line.Line.Line}}, proofs.Lemmas.Bytes.{AreAllPlain, BeginsWith, begins_with, naming_quiet, plain_no_lf, quiet_plain, said_plain}}

pub first_is : (x y : ℕ) (xs ys : List ℕ) → x ∷ xs ≡ y ∷ ys → x ≡ y
first_is x y xs ys e = cc

-- a space ends a name
pub space_ends : (rest : List ℕ) → EndsNumber (32 ∷ rest)
space_ends rest = λ b after e. let same : ◌≡◌ {A = ℕ} 32 b = first_is 32 b rest after e in omega (arith, same)

others_are : (x y : ℕ) (xs ys : List ℕ) → x ∷ xs ≡ y ∷ ys → xs ≡ ys
others_are x y xs ys e = cc

-- ---- the name of a behaviour

naming_assoc : (k : ℕ) (name rest : List ℕ) → naming_text k name ++ rest ≡ codes "behaviour " ++ (decimal k ++ (32 ∷ (name ++ rest)))
naming_assoc k name rest = ap (λ l. codes "behaviour " ++ l) (append_assoc (decimal k) (32 ∷ name) rest)

pub naming_spelled : (text r1 r2 r3 r4 behind : List ℕ) (k : ℕ) (name : List ℕ) → text ≡ codes "behaviour " ++ r1 → r1 ≡ decimal k ++ r2 → r2 ≡ 32 ∷ r3 → r3 ≡ name ++ r4 → EndsLine r4 behind → k < 2 ^ 32 → IsName name →
    lines_of text ≡ naming_text k name ∷ lines_of behind
naming_spelled text r1 r2 r3 r4 behind k name word number space named ends fits is =
    ap lines_of (word ∙ (ap (λ l. codes "behaviour " ++ l) (number ∙ ap (λ l. decimal k ++ l) (space ∙ ap (λ l. 32 ∷ l) named)) ∙ sym (naming_assoc k name r4)))
    ∙ line_ended (naming_text k name) r4 behind (λ e. cc) (plain_no_lf (naming_text k name) (quiet_plain (naming_text k name) (naming_quiet k name fits is))) ends

-- the text is that of a name, and a line's end is after it
pub begins_with_naming : (text : List ℕ) (k : ℕ) (name : List ℕ) (others : List (List ℕ)) → lines_of text ≡ naming_text k name ∷ others → BeginsWith text (λ rest. codes "behaviour " ++ (decimal k ++ (32 ∷ (name ++ rest)))) others
begins_with_naming text k name others lines = begins_with text (naming_text k name) _ others (naming_assoc k name) lines

pub behind_word : (xs ys : List ℕ) → codes "behaviour " ++ xs ≡ codes "behaviour " ++ ys → xs ≡ ys
behind_word xs ys e = cc

pub same_naming : (run : Run) (name : List ℕ) (k : ℕ) (that : List ℕ) → run.0 ≡ k → name ≡ that → ◌≡◌ {A = Run × List ℕ} (run, name) (record { 0 = k }, that)
same_naming run name k that number named = rw (number, named) refl

-- ---- what a run says

said_assoc : (refused : Bool) (k : ℕ) (sentence rest : List ℕ) → said_text refused k sentence ++ rest ≡ decimal k ++ (mark_text refused ++ (sentence ++ rest))
said_assoc refused k sentence rest =
    append_assoc (decimal k) (mark_text refused ++ sentence) rest ∙ ap (λ l. decimal k ++ l) (append_assoc (mark_text refused) sentence rest)

-- a space comes first
mark_first : (refused : Bool) (rest : List ℕ) → (more : List ℕ) × (mark_text refused ++ rest ≡ 32 ∷ more)
mark_first false rest = (35 ∷ 32 ∷ rest, refl)
mark_first true rest = (33 ∷ 32 ∷ rest, refl)

pub mark_ends : (refused : Bool) (rest : List ℕ) → EndsNumber (mark_text refused ++ rest)
mark_ends refused rest = λ b after e. let first = mark_first refused rest in let same : ◌≡◌ {A = ℕ} 32 b = first_is 32 b first.0 after (sym first.1 ∙ e) in omega (arith, same)

some_said : (refused : Bool) (k : ℕ) (sentence : List ℕ) → k < 2 ^ 32 → said_text refused k sentence ≢ []
some_said refused k sentence fits = λ e. let first = digit_first k fits in let is = sym (ap (λ l. l ++ (mark_text refused ++ sentence)) first.1.1) ∙ e in cc

all_plain : (bs : List ℕ) → ArePlain bs → AreAllPlain bs
all_plain [] plain = refl
all_plain (b ∷ bs) plain = both_true plain.0 (all_plain bs plain.1)

pub said_spelled : (text r1 r2 r3 behind : List ℕ) (refused : Bool) (k : ℕ) (sentence : List ℕ) → text ≡ decimal k ++ r1 → r1 ≡ mark_text refused ++ r2 → r2 ≡ sentence ++ r3 → EndsLine r3 behind → k < 2 ^ 32 → ArePlain sentence →
    lines_of text ≡ said_text refused k sentence ∷ lines_of behind
said_spelled text r1 r2 r3 behind refused k sentence number mark said ends fits plain =
    ap lines_of (number ∙ (ap (λ l. decimal k ++ l) (mark ∙ ap (λ l. mark_text refused ++ l) said) ∙ sym (said_assoc refused k sentence r3)))
    ∙ line_ended (said_text refused k sentence) r3 behind (some_said refused k sentence fits) (plain_no_lf (said_text refused k sentence) (said_plain refused k sentence fits (all_plain sentence plain))) ends

-- the text is that of what a run says, and a line's end is after it
pub begins_with_said : (text : List ℕ) (refused : Bool) (k : ℕ) (sentence : List ℕ) (others : List (List ℕ)) → lines_of text ≡ said_text refused k sentence ∷ others → BeginsWith text (λ rest. decimal k ++ (mark_text refused ++ (sentence ++ rest))) others
begins_with_said text refused k sentence others lines = begins_with text (said_text refused k sentence) _ others (said_assoc refused k sentence) lines

-- ---- where the bytes from 32 to 126 end

plain_more : (xs : List ℕ) (x : ℕ) → ArePlain xs → is_plain x ≡ true → ArePlain (xs ++ x ∷ [])
plain_more [] x all one = (one, tt)
plain_more (y ∷ ys) x all one = (all.0, plain_more ys x all.1 one)

pub plain_take : (xs : List ℕ) (i d : ℕ) → i < length xs → ArePlain (take i xs) → is_plain (get_or xs i d) ≡ true → ArePlain (take (i + 1) xs)
plain_take xs i d below all one = rw (take_more xs i d below) (plain_more (take i xs) (get_or xs i d) all one)

pub ends_plain : (rest behind : List ℕ) → EndsLine rest behind → NoPlainFirst rest
ends_plain rest behind (inl last) = λ b after e. let none = sym last.0 ∙ e in absurd cc
ends_plain rest behind (inr more) = λ b after e. let same : ◌≡◌ {A = ℕ} 10 b = first_is 10 b behind after (sym more ∙ e) in rw (sym same) refl

unplain : (b : ℕ) → is_plain b ≡ true → is_plain b ≡ false → ⊥
unplain b is other = let e = sym is ∙ other in cc

-- a text has one place before which all bytes are from 32 to 126, and after which none or another comes first
pub same_plain : (sentence rest before after : List ℕ) → ArePlain sentence → NoPlainFirst rest → ArePlain before → NoPlainFirst after → sentence ++ rest ≡ before ++ after → (before ≡ sentence) × (after ≡ rest)
same_plain [] rest [] after all ends all' ends' e = (refl, sym e)
same_plain [] rest (b ∷ bs) after all ends all' ends' e = absurd (unplain b all'.0 (ends b (bs ++ after) e))
same_plain (x ∷ xs) rest [] after all ends all' ends' e = absurd (unplain x all.0 (ends' x (xs ++ rest) (sym e)))
same_plain (x ∷ xs) rest (b ∷ bs) after all ends all' ends' e =
    let same = first_is x b (xs ++ rest) (bs ++ after) e in
    let two = same_plain xs rest bs after all.1 ends all'.1 ends' (others_are x b (xs ++ rest) (bs ++ after) e) in
    (let tail = two.0 in cc, two.1)

pub sentence_plain : (bs : List ℕ) → All (λ b. IsTrue (is_plain b)) bs → ArePlain bs
sentence_plain [] all = tt
sentence_plain (b ∷ bs) all = (All-head (λ x. IsTrue (is_plain x)) b bs all, sentence_plain bs (All-tail (λ x. IsTrue (is_plain x)) b bs all))

-- ---- lines of different kinds

-- the digits of a number are not low
digits_high : (ds : List ℕ) → all_ascii_digits ds ≡ true → NoLow ds
digits_high [] all = tt
digits_high (d ∷ ds) all = let two = both (is_ascii_digit d) (all_ascii_digits ds) all in (high d two.0, digits_high ds two.1)
  where
    high : (b : ℕ) → is_ascii_digit b ≡ true → 48 ≤ b
    high b digit = grind (arith, nat_tests)

-- after two numbers that end with a space the same comes
behind_numbers : (n m : ℕ) (xs ys : List ℕ) → n < 2 ^ 32 → m < 2 ^ 32 → decimal n ++ (32 ∷ xs) ≡ decimal m ++ (32 ∷ ys) → xs ≡ ys
behind_numbers n m xs ys one two e =
    let cut = same_cut (decimal n) (32 ∷ xs) (decimal m) (32 ∷ ys) (digits_high (decimal n) (spelled_digits n one).0) (space_ends xs) (digits_high (decimal m) (spelled_digits m two).0) (space_ends ys) e in
    let tail = cut.1 in cc

-- an operation begins with a letter
op_letter : (op : Op) (rest : List ℕ) → (b : ℕ) × ((more : List ℕ) × (op_text op ++ rest ≡ b ∷ more) × (97 ≤ b))
op_letter (Op.Create alive name) rest = (99, (_, refl, omega arith))
op_letter (Op.Kill g) rest = (107, (_, refl, omega arith))
op_letter (Op.Running t) rest = (114, (_, refl, omega arith))
op_letter (Op.Alive t) rest = (97, (_, refl, omega arith))
op_letter (Op.Done t) rest = (100, (_, refl, omega arith))
op_letter (Op.Killed t) rest = (107, (_, refl, omega arith))
op_letter (Op.Wait false t) rest = (119, (_, refl, omega arith))
op_letter (Op.Wait true t) rest = (119, (_, refl, omega arith))
op_letter (Op.Wake false t) rest = (119, (_, refl, omega arith))
op_letter (Op.Wake true t) rest = (119, (_, refl, omega arith))
op_letter Op.GetVerdict rest = (103, (_, refl, omega arith))
op_letter Op.Finish rest = (102, (_, refl, omega arith))
op_letter _ rest = (115, (_, refl, omega arith))

-- the mark is no letter
mark_low : (refused : Bool) (rest : List ℕ) → (b : ℕ) × ((more : List ℕ) × (mark_text refused ++ rest ≡ 32 ∷ b ∷ more) × (b ≤ 35))
mark_low false rest = (35, (32 ∷ rest, refl, omega arith))
mark_low true rest = (33, (32 ∷ rest, refl, omega arith))

entry_parts : (e : Entry) → entry_text e ≡ decimal e.caller.0 ++ (32 ∷ (op_text e.op ++ (codes " -> " ++ reply_text e.reply)))
entry_parts e = append_assoc (decimal e.caller.0) (32 ∷ op_text e.op) (codes " -> " ++ reply_text e.reply)

-- no entry is what a run says
pub entry_not_said : (f : ℕ) (e : Entry) (refused : Bool) (k : ℕ) (sentence : List ℕ) → IsEntry f e → k < 2 ^ 32 → entry_text e ≢ said_text refused k sentence
entry_not_said f e refused k sentence fits low = λ same.
    let caller = fits.caller in
    let mark = mark_low refused sentence in
    let letter = op_letter e.op (codes " -> " ++ reply_text e.reply) in
    let tails = behind_numbers e.caller.0 k (op_text e.op ++ (codes " -> " ++ reply_text e.reply)) (mark.0 ∷ mark.1.0) (omega (arith, caller)) low
    (sym (entry_parts e) ∙ (same ∙ ap (λ l. decimal k ++ l) mark.1.1)) in
    let byte : letter.0 ≡ mark.0 = first_is letter.0 mark.0 letter.1.0 mark.1.0 (sym letter.1.1 ∙ tails) in
    omega (arith, byte, letter.1.2, mark.1.2)

-- no entry is the name of a behaviour
pub entry_not_naming : (f : ℕ) (e : Entry) (k : ℕ) (name : List ℕ) → IsEntry f e → entry_text e ≢ naming_text k name
entry_not_naming f e k name fits = λ same.
    let low = fits.caller in
    no_letter e.caller.0 98 _ (codes "ehaviour " ++ (decimal k ++ (codes " " ++ name))) (omega (arith, low)) (omega arith) (sym (entry_parts e) ∙ same)

-- nothing that a run says is the name of a behaviour
pub said_not_naming : (refused : Bool) (j : ℕ) (sentence : List ℕ) (k : ℕ) (name : List ℕ) → j < 2 ^ 32 → said_text refused j sentence ≢ naming_text k name
said_not_naming refused j sentence k name low = λ same.
    no_letter j 98 (mark_text refused ++ sentence) (codes "ehaviour " ++ (decimal k ++ (codes " " ++ name))) low (omega arith) same

-- no line inside a block is a last line
pub line_no_end : (kind : Kind) (n : ℕ) (before : List Line) (l : Line) (v : Verdict) → n < 2 ^ 16 → IsLine kind n before l → line_text l ≢ end_text v
line_no_end kind n before (Line.Named run name) v small fits = λ same. let byte : ◌≡◌ {A = ℕ} 98 101 = ap (λ (l : List ℕ). get_or l 0 0) same in omega (arith, byte)
line_no_end kind n before (Line.Entry e) v small fits = λ same.
    let low = fits.caller in
    no_letter e.caller.0 101 _ (codes "nd " ++ name_of v) (omega (arith, low)) (omega arith) (sym (entry_parts e) ∙ same)
line_no_end kind n before (Line.Remark run sentence) v small fits = λ same.
    let few = fits.1 in
    no_letter run.0 101 (codes " # " ++ sentence) (codes "nd " ++ name_of v) (omega (arith, few, small)) (omega arith) same
line_no_end kind n before (Line.Refused run sentence) v small fits = λ same.
    let few = fits.1 in
    no_letter run.0 101 (codes " ! " ++ sentence) (codes "nd " ++ name_of v) (omega (arith, few, small)) (omega arith) same
