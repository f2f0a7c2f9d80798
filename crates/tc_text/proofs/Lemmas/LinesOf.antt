-- Lines, and what follows them.
use Rattle.std.{proofs.{Common.{◌≡◌, ◌≢◌, ◌∙◌, ◌==◌, inl, inr, ℕ, List, [], ◌∷◌, ◌++◌, Bool, true, false, if◌then◌else◌, length, ◌<◌, sym, ap, refl, arith, ◌^◌, codes, Some, rules, ◌+◌, ◌≤◌, IsTrue, All, take, get_or}, lemmas.Bool.Decides.nat_tests, lemmas.List.Elements.{All-head, All-tail}, lemmas.List.{length-append, take_more}}, specs.{List.{onto_first, AllByRecursion}, Fmt.decimal, Char.is_ascii_digit, Str.all_ascii_digits}}
use Rattle.tc_text.{specs.{MoveList.{lines_of, Move}, Reading.{EndsLine, EndsMove, EndsNumber}, Spelling.{IsOp, move_text, IsGroup, IsTarget, group_text, op_text, target_text}, Inside.{AreComps, IsMove, IsMoveTakenBy, NoLow, args_text, behaviours_line, move_line}}, proofs.{Operands.{IsThatNumber, ends_nothing}, Lemmas.Digits.{both, digit_first, spelled_digits}}}
use Rattle.tc_entry.specs.{Prelude.{Run, IsBehaviours, name_of, given, UserVerdict, IsName, is_name_byte}, declared.op.Op.Op, declared.comp.Comp.Comp, declared.op.Group.Group, declared.op.Target.Target}
use Rattle.tc_entry.proofs.Lemmas.Names.{name_parts}

-- no byte is LF
abbrev pub NoLf : List ℕ → Type 0
NoLf [] = Unit {0}
NoLf (b ∷ bs) = ((b == 10) ≡ false) × NoLf bs

pub no_lf-append : (xs ys : List ℕ) → NoLf xs → NoLf ys → NoLf (xs ++ ys)
no_lf-append [] ys plain others = others
no_lf-append (x ∷ xs) ys plain others = (plain.0, no_lf-append xs ys plain.1 others)

no_lf : (b : ℕ) (bs : List ℕ) → (b == 10) ≡ false → lines_of (b ∷ bs) ≡ onto_first b (lines_of bs)
no_lf b bs e = ap (λ t. if t then [] ∷ lines_of bs else onto_first b (lines_of bs)) e

line_of : (l rest : List ℕ) → NoLf l → lines_of (l ++ 10 ∷ rest) ≡ l ∷ lines_of rest
line_of [] rest plain = refl
line_of (b ∷ bs) rest plain = no_lf b (bs ++ 10 ∷ rest) plain.0 ∙ ap (onto_first b) (line_of bs rest plain.1)

last_line : (b : ℕ) (bs : List ℕ) → NoLf (b ∷ bs) → lines_of ((b ∷ bs) ++ []) ≡ (b ∷ bs) ∷ []
last_line b [] plain = no_lf b [] plain.0
last_line b (c ∷ cs) plain = no_lf b ((c ∷ cs) ++ []) plain.0 ∙ ap (onto_first b) (last_line c cs plain.1)

-- a line with its end
pub line_ended : (line rest behind : List ℕ) → line ≢ [] → NoLf line → EndsLine rest behind → lines_of (line ++ rest) ≡ line ∷ lines_of behind
line_ended [] rest behind some plain ends = absurd (some refl)
line_ended (b ∷ bs) rest behind some plain (inl last) = ap (λ r. lines_of ((b ∷ bs) ++ r)) last.0 ∙ last_line b bs plain ∙ ap (λ r. (b ∷ bs) ∷ lines_of r) (sym last.1)
line_ended (b ∷ bs) rest behind some plain (inr more) = ap (λ r. lines_of ((b ∷ bs) ++ r)) more ∙ line_of (b ∷ bs) behind plain

-- ---- the first line of a text

-- the text is this line, its end and the other lines
pub record BeginsWithLine (text line : List ℕ) (others : List (List ℕ)) : Type 0 where
  pub rest : List ℕ
  pub behind : List ℕ
  pub parts : text ≡ line ++ rest
  pub ends : EndsLine rest behind
  pub lines : lines_of behind ≡ others

onto_some : (b : ℕ) (ls : List (List ℕ)) → onto_first b ls ≢ []
onto_some b [] = λ e. cc
onto_some b (l ∷ ls) = λ e. cc

pub no_line : (text : List ℕ) → lines_of text ≡ [] → text ≡ []
no_line [] e = refl
no_line (b ∷ bs) e = absurd (by_test (b == 10) e)
  where
    by_test : (t : Bool) → (if t then [] ∷ lines_of bs else onto_first b (lines_of bs)) ≡ [] → ⊥
    by_test true e = cc
    by_test false e = onto_some b (lines_of bs) e

pub not_empty : (text : List ℕ) → 0 < length text → text ≢ []
not_empty [] some = absurd (omega (arith, some))
not_empty (b ∷ bs) some = λ e. cc

is_lf : (b : ℕ) → (b == 10) ≡ true → b ≡ 10
is_lf b e = grind (arith, nat_tests)

pub first_line : (text line : List ℕ) (others : List (List ℕ)) → lines_of text ≡ line ∷ others → BeginsWithLine text line others
first_line [] line others e = absurd cc
first_line (b ∷ bs) line others e = by_test (b == 10) refl e (λ l ls same. first_line bs l ls same)
  where
    by_lines : (ls : List (List ℕ)) → lines_of bs ≡ ls → onto_first b ls ≡ line ∷ others → ((l : List ℕ) (ls : List (List ℕ)) → lines_of bs ≡ l ∷ ls → BeginsWithLine bs l ls) → BeginsWithLine (b ∷ bs) line others
    by_lines [] none e more =
        let nothing : bs ≡ [] = no_line bs none in
        let this : b ∷ [] ≡ line = cc in
        let no_others : [] ≡ others = cc in
        record { rest = []; behind = []; parts = ap (λ l. b ∷ l) nothing ∙ ap (λ l. l ++ []) this; ends = inl (refl, refl); lines = no_others }
    by_lines (l ∷ ls) some e more =
        let found = more l ls some in
        let this : b ∷ l ≡ line = cc in
        let same : ls ≡ others = cc in
        record { rest = found.rest; behind = found.behind; parts = ap (λ x. b ∷ x) found.parts ∙ ap (λ x. x ++ found.rest) this; ends = found.ends; lines = found.lines ∙ same }

    by_test : (t : Bool) → (b == 10) ≡ t → (if t then [] ∷ lines_of bs else onto_first b (lines_of bs)) ≡ line ∷ others → ((l : List ℕ) (ls : List (List ℕ)) → lines_of bs ≡ l ∷ ls → BeginsWithLine bs l ls) → BeginsWithLine (b ∷ bs) line others
    by_test true lf e more =
        let this : [] ≡ line = cc in
        let same : lines_of bs ≡ others = cc in
        record { rest = b ∷ bs; behind = bs; parts = ap (λ x. x ++ (b ∷ bs)) this; ends = inr (ap (λ x. x ∷ bs) (is_lf b lf)); lines = same }
    by_test false lf e more = by_lines (lines_of bs) refl e more

-- a text that is not empty has a first line
pub some_line : (text : List ℕ) → text ≢ [] → (line : List ℕ) × ((others : List (List ℕ)) × (lines_of text ≡ line ∷ others))
some_line text some = by_lines (lines_of text) refl
  where
    by_lines : (ls : List (List ℕ)) → lines_of text ≡ ls → (line : List ℕ) × ((others : List (List ℕ)) × (lines_of text ≡ line ∷ others))
    by_lines [] none = absurd (some (no_line text none))
    by_lines (l ∷ ls) is = (l, (ls, is))

pub same_behind : (rest a b : List ℕ) → EndsLine rest a → EndsLine rest b → a ≡ b
same_behind rest a b (inl x) (inl y) = x.1 ∙ sym y.1
same_behind rest a b (inl x) (inr y) = absurd (let e = sym x.0 ∙ y in cc)
same_behind rest a b (inr x) (inl y) = absurd (let e = sym y.0 ∙ x in cc)
same_behind rest a b (inr x) (inr y) = let e = sym x ∙ y in cc

-- ---- lines that are written are read again

-- the text that ends each of these lines with LF
abbrev pub ended_lines : List (List ℕ) → List ℕ
ended_lines [] = []
ended_lines (l ∷ ls) = l ++ 10 ∷ ended_lines ls

pub lines-ended_lines : (ls : List (List ℕ)) → AllByRecursion NoLf ls → lines_of (ended_lines ls) ≡ ls
lines-ended_lines [] plain = refl
lines-ended_lines (l ∷ ls) plain = line_of l (ended_lines ls) plain.0 ∙ ap (λ x. l ∷ x) (lines-ended_lines ls plain.1)

-- a line may end after a move
not_low : (b : ℕ) → is_name_byte b ≡ true → 48 ≤ b
not_low b allowed = grind (arith, nat_tests)

none_low : (bs : List ℕ) → All (λ b. IsTrue (is_name_byte b)) bs → NoLow bs
none_low [] all = tt
none_low (b ∷ bs) all = (not_low b (All-head (λ x. IsTrue (is_name_byte x)) b bs all), none_low bs (All-tail (λ x. IsTrue (is_name_byte x)) b bs all))

pub name_not_low : (name : List ℕ) → IsName name → NoLow name
name_not_low name is = none_low name (name_parts name is).allowed

no_feed : (b : ℕ) → 48 ≤ b → (b == 10) ≡ false
no_feed b high = grind (arith, nat_tests)

low_plain : (bs : List ℕ) → NoLow bs → NoLf bs
low_plain [] none = tt
low_plain (b ∷ bs) none = (no_feed b none.0, low_plain bs none.1)

pub name_plain : (name : List ℕ) → IsName name → NoLf name
name_plain name is = low_plain name (name_not_low name is)

more : (xs : List ℕ) (x : ℕ) → NoLow xs → 48 ≤ x → NoLow (xs ++ x ∷ [])
more [] x none high = (high, tt)
more (y ∷ ys) x none high = (none.0, more ys x none.1 high)

pub no_low_take : (xs : List ℕ) (i d : ℕ) → i < length xs → NoLow (take i xs) → 48 ≤ get_or xs i d → NoLow (take (i + 1) xs)
no_low_take xs i d below none high = rw (take_more xs i d below) (more (take i xs) (get_or xs i d) none high)

first_is : (x y : ℕ) (xs ys : List ℕ) → x ∷ xs ≡ y ∷ ys → x ≡ y
first_is x y xs ys e = cc

others_are : (x y : ℕ) (xs ys : List ℕ) → x ∷ xs ≡ y ∷ ys → xs ≡ ys
others_are x y xs ys e = cc

-- a text has one place before which no byte is low, and after which one is or none comes
pub same_cut : (name rest before after : List ℕ) → NoLow name → EndsNumber rest → NoLow before → EndsNumber after → name ++ rest ≡ before ++ after → (before ≡ name) × (after ≡ rest)
same_cut [] rest [] after none ends none' ends' e = (refl, sym e)
same_cut [] rest (b ∷ bs) after none ends none' ends' e = let low = ends b (bs ++ after) e in absurd (let high = none'.0 in omega (arith, low, high))
same_cut (x ∷ xs) rest [] after none ends none' ends' e = let low = ends' x (xs ++ rest) (sym e) in absurd (let high = none.0 in omega (arith, low, high))
same_cut (x ∷ xs) rest (b ∷ bs) after none ends none' ends' e =
    let same = first_is x b (xs ++ rest) (bs ++ after) e in
    let two = same_cut xs rest bs after none.1 ends none'.1 ends' (others_are x b (xs ++ rest) (bs ++ after) e) in
    (let tail = two.0 in cc, two.1)

digit_plain : (b : ℕ) → is_ascii_digit b ≡ true → (b == 10) ≡ false
digit_plain b digit = grind (arith, nat_tests)

digits_plain : (ds : List ℕ) → all_ascii_digits ds ≡ true → NoLf ds
digits_plain [] all = tt
digits_plain (d ∷ ds) all = let two = both (is_ascii_digit d) (all_ascii_digits ds) all in (digit_plain d two.0, digits_plain ds two.1)

pub number_plain : (n : ℕ) → n < 2 ^ 32 → NoLf (decimal n)
number_plain n fits = digits_plain (decimal n) (spelled_digits n fits).0

group_plain : (g : Group) → IsGroup g → NoLf (group_text g)
group_plain (Group.One c) fits = number_plain c.0 fits
group_plain Group.All fits = search rules

target_plain : (t : Target) → IsTarget t → NoLf (target_text t)
target_plain (Target.One c) fits = number_plain c.0 fits
target_plain _ fits = search rules

args_plain : (cs : List Comp) → AreComps cs → NoLf (args_text cs)
args_plain [] fits = tt
args_plain (c ∷ cs) fits = (refl, no_lf-append (decimal c.0) (args_text cs) (number_plain c.0 fits.0) (args_plain cs fits.1))

setting_plain : (v : UserVerdict) → NoLf (name_of (given v))
setting_plain UserVerdict.None = search rules
setting_plain _ = search rules

op_plain : (op : Op) → IsOp op → NoLf (op_text op)
op_plain (Op.Create false (Some name)) fits = no_lf-append (codes "create named ") name (search rules) (name_plain name fits)
op_plain (Op.Create true (Some name)) fits = no_lf-append (codes "create alive named ") name (search rules) (name_plain name fits)
op_plain (Op.Start c run args) fits =
    no_lf-append (codes "start ") _ (search rules)
    (no_lf-append (decimal c.0) _ (number_plain c.0 fits.0) (refl, no_lf-append (decimal run.0) (args_text args) (number_plain run.0 (let low = fits.1 in omega (arith, low))) (args_plain args fits.3)))
op_plain (Op.Stop g) fits = no_lf-append (codes "stop ") (group_text g) (search rules) (group_plain g fits)
op_plain (Op.Kill g) fits = no_lf-append (codes "kill ") (group_text g) (search rules) (group_plain g fits)
op_plain (Op.Running t) fits = no_lf-append (codes "running ") (target_text t) (search rules) (target_plain t fits)
op_plain (Op.Alive t) fits = no_lf-append (codes "alive ") (target_text t) (search rules) (target_plain t fits)
op_plain (Op.Done t) fits = no_lf-append (codes "done ") (target_text t) (search rules) (target_plain t fits)
op_plain (Op.Killed t) fits = no_lf-append (codes "killed ") (target_text t) (search rules) (target_plain t fits)
op_plain (Op.Wait false t) fits = no_lf-append (codes "wait done ") (target_text t) (search rules) (target_plain t fits)
op_plain (Op.Wait true t) fits = no_lf-append (codes "wait killed ") (target_text t) (search rules) (target_plain t fits)
op_plain (Op.Wake false t) fits = no_lf-append (codes "wake done ") (target_text t) (search rules) (target_plain t fits)
op_plain (Op.Wake true t) fits = no_lf-append (codes "wake killed ") (target_text t) (search rules) (target_plain t fits)
op_plain (Op.SetVerdict v) fits = no_lf-append (codes "setverdict ") (name_of (given v)) (search rules) (setting_plain v)
op_plain _ fits = search rules

pub move_plain : (run : ℕ) (op : Op) → run < 2 ^ 16 → IsOp op → NoLf (move_text run op)
move_plain run op low fits = no_lf-append (decimal run) (codes " " ++ op_text op) (number_plain run (omega arith)) (refl, op_plain op fits)

pub behaviours_plain : (n : ℕ) → IsBehaviours n → NoLf (behaviours_line n)
behaviours_plain n few = no_lf-append (codes "behaviours ") (decimal n) (search rules) (number_plain n (let low = few.1 in omega (arith, low)))

pub some_behaviours : (n : ℕ) → behaviours_line n ≢ []
some_behaviours n = λ e. cc

pub some_move : (run : ℕ) (op : Op) → run < 2 ^ 16 → move_text run op ≢ []
some_move run op low = λ e. let first = digit_first run (omega arith) in let is = sym (ap (λ l. l ++ (codes " " ++ op_text op)) first.1.1) ∙ e in cc

-- a byte of a name is a digit, a letter or an underscore
pub ends_line : (rest behind : List ℕ) → EndsLine rest behind → EndsMove rest
ends_line rest behind (inl last) = rw last.0 ends_nothing
ends_line rest behind (inr more) = rw more (
  λ b after e. let same : ◌≡◌ {A = ℕ} 10 b = first_is 10 b behind after e in omega (arith, same),
  λ b after e. let same : ◌≡◌ {A = ℕ} 10 32 = first_is 10 32 behind (b ∷ after) e in absurd (omega (arith, same)),
)

pub move_spelled : (text rest behind : List ℕ) (m : Move) → text ≡ move_text m.0.0 m.1 ++ rest → IsMove m → EndsLine rest behind → lines_of text ≡ move_line m ∷ lines_of behind
move_spelled text rest behind m spelled fits ends = ap lines_of spelled ∙ line_ended (move_line m) rest behind (some_move m.0.0 m.1 fits.0) (move_plain m.0.0 m.1 fits.0 fits.1) ends

-- no move
pub never_move : (text : List ℕ) → ((run : ℕ) (op : Op) (rest : List ℕ) → run < 2 ^ 16 → IsOp op → EndsMove rest → text ≡ move_text run op ++ rest → ⊥)
    → (m : Move) (others : List (List ℕ)) → IsMove m → lines_of text ≡ move_line m ∷ others → ⊥
never_move text never m others fits lines =
    let begins = first_line text (move_line m) others lines in
    never m.0.0 m.1 begins.rest fits.0 fits.1 (ends_line begins.rest begins.behind begins.ends) begins.parts

-- what is read is that, and the end of the line and these lines are after it
pub record IsThat {A : Type 0} (one that : A) (rest : List ℕ) (others : List (List ℕ)) : Type 0 where
  pub same : one ≡ that
  pub behind : List ℕ
  pub ends : EndsLine rest behind
  pub lines : lines_of behind ≡ others

ends_at : (x y behind : List ℕ) → x ≡ y → EndsLine y behind → EndsLine x behind
ends_at x y behind e ends = rw e ends

-- what reading a move shows: it is that of each spelling that the text begins with
abbrev pub IsThatSpelled : List ℕ → Move → List ℕ → Type 0
IsThatSpelled text one rest = (run : ℕ) (op : Op) (after : List ℕ) → run < 2 ^ 16 → IsOp op → EndsMove after → text ≡ move_text run op ++ after → (one.0.0 ≡ run) × (one.1 ≡ op) × (rest ≡ after)

pub that_line : (text rest : List ℕ) (one : Move) → IsThatSpelled text one rest → (m : Move) (others : List (List ℕ)) → IsMove m → lines_of text ≡ move_line m ∷ others → IsThat one m rest others
that_line text rest one only m others fits lines =
    let begins = first_line text (move_line m) others lines in
    let three = only m.0.0 m.1 begins.rest fits.0 fits.1 (ends_line begins.rest begins.behind begins.ends) begins.parts in
    record { same = same_move one.0 m.0.0 one.1 m.1 three.0 three.1; behind = begins.behind; ends = ends_at rest begins.rest begins.behind three.2 begins.ends; lines = begins.lines }
  where
    move : ℕ → Op → Move
    move k o = (record { 0 = k }, o)

    same_move : (r : Run) (n : ℕ) (x y : Op) → r.0 ≡ n → x ≡ y → ◌≡◌ {A = Move} (r, x) (record { 0 = n }, y)
    same_move r n x y number same = ap (λ (k : ℕ). move k x) number ∙ ap (λ (o : Op). move n o) same

shorter : (text front rest behind : List ℕ) → front ≢ [] → text ≡ front ++ rest → EndsLine rest behind → length behind < length text
shorter text [] rest behind some is ends = absurd (some refl)
shorter text (b ∷ bs) rest behind some is (inl last) = let all = ap length is in let none = ap length last.1 in omega (arith, all, none, length-append bs rest)
shorter text (b ∷ bs) rest behind some is (inr more) = let all = ap length is in let rests = ap length more in omega (arith, all, rests, length-append bs rest)

-- the move that the first line spells is taken
pub line_taken : {T : Type 0} (stands : ℕ → List Move → T → Type 0) (text rest behind : List ℕ) (m : Move) (value value' : T) → text ≡ move_text m.0.0 m.1 ++ rest → IsMove m → IsThatSpelled text m rest → EndsLine rest behind
    → ((n : ℕ) (moves : List Move) → stands n moves value → stands n (moves ++ m ∷ []) value') → IsMoveTakenBy stands text value value' behind
line_taken stands text rest behind m value value' spelled fits only ends taken = record {
  move = m;
  spelled = move_spelled text rest behind m spelled fits ends;
  fits = fits;
  less = shorter text (move_text m.0.0 m.1) rest behind (some_move m.0.0 m.1 fits.0) spelled ends;
  only = λ n others right lines. let that = that_line text rest m only n others right lines in (that.same, ap lines_of (same_behind rest behind that.behind ends that.ends) ∙ that.lines);
  taken = taken;
}

-- ---- the first line of a list

behaviours_assoc : (n : ℕ) (rest : List ℕ) → behaviours_line n ++ rest ≡ codes "behaviours " ++ (decimal n ++ rest)
behaviours_assoc n rest = refl

pub behaviours_spelled : (text behind rest end : List ℕ) (n : ℕ) → text ≡ codes "behaviours " ++ behind → behind ≡ decimal n ++ rest → IsBehaviours n → EndsLine rest end → lines_of text ≡ behaviours_line n ∷ lines_of end
behaviours_spelled text behind rest end n word number few ends =
    ap lines_of (word ∙ ap (λ l. codes "behaviours " ++ l) number ∙ sym (behaviours_assoc n rest)) ∙ line_ended (behaviours_line n) rest end (some_behaviours n) (behaviours_plain n few) ends

behind_word : (xs ys : List ℕ) → codes "behaviours " ++ xs ≡ codes "behaviours " ++ ys → xs ≡ ys
behind_word xs ys e = cc

pub no_word : (text : List ℕ) → ((after : List ℕ) → text ≢ codes "behaviours " ++ after) → (n : ℕ) (others : List (List ℕ)) → lines_of text ≡ behaviours_line n ∷ others → ⊥
no_word text none n others lines =
    let begins = first_line text (behaviours_line n) others lines in
    none (decimal n ++ begins.rest) (begins.parts ∙ behaviours_assoc n begins.rest)

pub no_behaviours : (text behind : List ℕ) → text ≡ codes "behaviours " ++ behind → ((n : ℕ) (rest : List ℕ) → n < 2 ^ 32 → EndsNumber rest → behind ≡ decimal n ++ rest → ⊥) → (n : ℕ) (others : List (List ℕ)) → IsBehaviours n → lines_of text ≡ behaviours_line n ∷ others → ⊥
no_behaviours text behind word never n others few lines =
    let begins = first_line text (behaviours_line n) others lines in
    let low = few.1 in
    never n begins.rest (omega (arith, low)) (ends_line begins.rest begins.behind begins.ends).0 (behind_word behind _ (sym word ∙ begins.parts ∙ behaviours_assoc n begins.rest))

pub that_first : (text behind rest : List ℕ) (number : ℕ) → text ≡ codes "behaviours " ++ behind → IsThatNumber behind number rest → (n : ℕ) (others : List (List ℕ)) → IsBehaviours n → lines_of text ≡ behaviours_line n ∷ others → IsThat number n rest others
that_first text behind rest number word only n others few lines =
    let begins = first_line text (behaviours_line n) others lines in
    let low = few.1 in
    let two = only n begins.rest (omega (arith, low)) (ends_line begins.rest begins.behind begins.ends).0 (behind_word behind _ (sym word ∙ begins.parts ∙ behaviours_assoc n begins.rest)) in
    record { same = two.0; behind = begins.behind; ends = ends_at rest begins.rest begins.behind two.1 begins.ends; lines = begins.lines }
