-- How far a list of moves is read.
use Rattle.std.{proofs.{Common.{◌≡◌, ◌≢◌, ◌∙◌, ◌+◌, inl, inr, ℕ, List, [], ◌∷◌, ◌++◌, length, map, sym, ap, refl, append_assoc, arith}, lemmas.List.{append-nil, length-append, length-map}}, specs.List.AllByRecursion}
use Rattle.tc_entry.specs.Prelude.{IsBehaviours}
use Rattle.tc_text.{specs.{Inside.{IsMadeOfMoves, IsMove, IsNoMove, behaviours_line, list_lines, move_line}, MoveList.{IsListFault, IsMoveList, Move, lines_of}, declared.fault.{TextFault.TextFault, TextKind.TextKind}}, proofs.Lemmas.LinesOf.some_line}

-- the moves are the ones read, and those that the rest spells
pub record Remains (moves : List Move) (rest : List ℕ) (all : List Move) : Type 0 where
  pub tail : List Move
  pub parts : all ≡ moves ++ tail
  pub spelled : lines_of rest ≡ map move_line tail
  pub fits : AllByRecursion IsMove tail

-- these moves are read, and every list of moves that the text spells begins with them
pub record SoFar (text : List ℕ) (n : ℕ) (moves : List Move) (rest : List ℕ) : Type 0 where
  pub right : IsBehaviours n
  pub fits : AllByRecursion IsMove moves
  pub lines : lines_of text ≡ list_lines n moves ++ lines_of rest
  pub only : (k : ℕ) (ms : List Move) → IsMoveList text k ms → (n ≡ k) × Remains moves rest ms

-- what reading a first line of a list shows
abbrev pub IsThatNumberOfBehaviours : List ℕ → ℕ → List ℕ → Type 0
IsThatNumberOfBehaviours text number rest = (n : ℕ) (others : List (List ℕ)) → IsBehaviours n → lines_of text ≡ behaviours_line n ∷ others → (number ≡ n) × (lines_of rest ≡ others)

-- what reading a line as a move shows
abbrev pub IsThatMove : List ℕ → Move → List ℕ → Type 0
IsThatMove text one rest = (m : Move) (others : List (List ℕ)) → IsMove m → lines_of text ≡ move_line m ∷ others → (one ≡ m) × (lines_of rest ≡ others)

map-append : (xs ys : List Move) → map move_line (xs ++ ys) ≡ map move_line xs ++ map move_line ys
map-append [] ys = refl
map-append (x ∷ xs) ys = ap (λ l. move_line x ∷ l) (map-append xs ys)

moves_more : (ms : List Move) (m : Move) → AllByRecursion IsMove ms → IsMove m → AllByRecursion IsMove (ms ++ m ∷ [])
moves_more [] m all one = (one, tt)
moves_more (x ∷ xs) m all one = (all.0, moves_more xs m all.1 one)

pub begins : (text rest : List ℕ) (n : ℕ) → IsBehaviours n → lines_of text ≡ behaviours_line n ∷ lines_of rest → IsThatNumberOfBehaviours text n rest → SoFar text n [] rest
begins text rest n right lines only = record {
  right = right;
  fits = tt;
  lines = lines;
  only = λ k ms list. let two = only k (map move_line ms) list.behaviours list.lines in (two.0, record { tail = ms; parts = refl; spelled = two.1; fits = list.fits });
}

one_more : (rest after : List ℕ) (m : Move) (moves new all : List Move) → IsThatMove rest m after → new ≡ moves ++ m ∷ [] → lines_of rest ≢ [] → Remains moves rest all → Remains new after all
one_more rest after m moves new all only added some r = by_tail r.tail r.parts r.spelled r.fits
  where
    by_tail : (tail : List Move) → all ≡ moves ++ tail → lines_of rest ≡ map move_line tail → AllByRecursion IsMove tail → Remains new after all
    by_tail [] parts spelled fits = absurd (some spelled)
    by_tail (t ∷ ts) parts spelled fits =
        let two = only t (map move_line ts) fits.0 spelled in
        record {
          tail = ts;
          parts = parts ∙ ap (λ x. moves ++ (x ∷ ts)) (sym two.0) ∙ sym (append_assoc moves (m ∷ []) ts) ∙ ap (λ l. l ++ ts) (sym added);
          spelled = two.1;
          fits = fits.1;
        }

some_lines : (x : List ℕ) (xs lines : List (List ℕ)) → lines ≡ x ∷ xs → lines ≢ []
some_lines x xs lines e = λ none. let no = sym e ∙ none in cc

pub goes_on : (text : List ℕ) (n : ℕ) (moves new : List Move) (rest after : List ℕ) (m : Move) → SoFar text n moves rest → lines_of rest ≡ move_line m ∷ lines_of after → IsMove m → IsThatMove rest m after → new ≡ moves ++ m ∷ [] → SoFar text n new after
goes_on text n moves new rest after m so spelled fits only added = record {
  right = so.right;
  fits = rw added (moves_more moves m so.fits fits);
  lines =
      so.lines ∙ ap (λ l. list_lines n moves ++ l) spelled
      ∙ ap (λ l. behaviours_line n ∷ l) (sym (append_assoc (map move_line moves) (move_line m ∷ []) (lines_of after)) ∙ ap (λ l. l ++ lines_of after) (sym (map-append moves (m ∷ [])) ∙ ap (map move_line) (sym added)));
  only = λ k ms list. let so_far = so.only k ms list in (so_far.0, one_more rest after m moves new ms only added (some_lines (move_line m) (lines_of after) (lines_of rest) spelled) so_far.1);
}

others_are : (x y : List ℕ) (xs ys : List (List ℕ)) → x ∷ xs ≡ y ∷ ys → xs ≡ ys
others_are x y xs ys e = cc

-- the line after these is that of a move
move_after : (lines : List (List ℕ)) (bad : List ℕ) (more : List (List ℕ)) (all : List Move) → (lines ++ bad ∷ []) ++ more ≡ map move_line all → AllByRecursion IsMove all → (m : Move) × IsMove m × (bad ≡ move_line m)
move_after lines bad more [] e fits = absurd (none lines e)
  where
    none : (ls : List (List ℕ)) → (ls ++ bad ∷ []) ++ more ≡ [] → ⊥
    none [] e = cc
    none (l ∷ ls) e = cc
move_after [] bad more (m ∷ ms) e fits = (m, fits.0, this e)
  where
    this : bad ∷ more ≡ move_line m ∷ map move_line ms → bad ≡ move_line m
    this e = cc
move_after (l ∷ ls) bad more (m ∷ ms) e fits = move_after ls bad more ms (others_are l (move_line m) _ _ e) fits.1

pub bad_first : (text : List ℕ) → text ≢ [] → ((n : ℕ) (others : List (List ℕ)) → IsBehaviours n → lines_of text ≡ behaviours_line n ∷ others → ⊥) → IsListFault text (TextFault.At 1 TextKind.FirstLine)
bad_first text some never =
    let line = some_line text some in
    record {
      before = [];
      rest = line.0 ∷ line.1.0;
      lines = line.1.1;
      number = refl;
      right = (behaviours_line 1 ∷ [], (1, [], record { behaviours = (omega arith, omega arith); fits = tt; lines = refl }));
      fault = (λ can. let list = can.1.2 in let e = list.lines in never can.1.0 line.1.0 list.behaviours (line.1.1 ∙ ap (λ l. l ∷ line.1.0) cc), inl (refl, refl));
    }

pub bad_move : (text : List ℕ) (n count : ℕ) (moves : List Move) (rest : List ℕ) → count ≡ length moves → rest ≢ [] → SoFar text n moves rest → IsNoMove rest → IsListFault text (TextFault.At (count + 2) TextKind.Move)
bad_move text n count moves rest counted some so never =
    let line = some_line rest some in
    record {
      before = list_lines n moves;
      rest = line.0 ∷ line.1.0;
      lines = so.lines ∙ ap (λ l. list_lines n moves ++ l) line.1.1;
      number = let few = length-map moves move_line in omega (arith, counted, few);
      right = ([], (n, moves, record { behaviours = so.right; fits = so.fits; lines = append-nil (list_lines n moves) }));
      fault = (
        λ can.
            let list = can.1.2 in
            let that = move_after (map move_line moves) line.0 can.0 can.1.1 (others_are (behaviours_line n) (behaviours_line can.1.0) _ _ list.lines) list.fits in
            never that.0 line.1.0 that.1 (line.1.1 ∙ ap (λ l. l ∷ line.1.0) that.2),
        inr (refl, λ none. cc),
      );
    }

pub no_lines : (text : List ℕ) → text ≡ [] → IsListFault text (TextFault.At 1 TextKind.Early)
no_lines text none = record {
  before = [];
  rest = [];
  lines = ap lines_of none;
  number = refl;
  right = (behaviours_line 1 ∷ [], (1, [], record { behaviours = (omega arith, omega arith); fits = tt; lines = refl }));
  fault = (refl, λ list. refl);
}

pub no_list : (text : List ℕ) (n : ℕ) (moves : List Move) (rest : List ℕ) → rest ≢ [] → SoFar text n moves rest → IsNoMove rest → (k : ℕ) (ms : List Move) → IsMoveList text k ms → ⊥
no_list text n moves rest some so never k ms list = by_tail r.tail r.spelled r.fits
  where
    r : Remains moves rest ms
    r = (so.only k ms list).1

    by_tail : (tail : List Move) → lines_of rest ≡ map move_line tail → AllByRecursion IsMove tail → ⊥
    by_tail [] spelled inside = let line = some_line rest some in let e = sym line.1.1 ∙ spelled in cc
    by_tail (t ∷ ts) spelled inside = never t (map move_line ts) inside.0 spelled

pub is_done : (text : List ℕ) (n : ℕ) (moves : List Move) (rest : List ℕ) → SoFar text n moves rest → rest ≡ [] → IsMoveList text n moves
is_done text n moves rest so none = record { behaviours = so.right; fits = so.fits; lines = so.lines ∙ ap (λ r. list_lines n moves ++ lines_of r) none ∙ append-nil (list_lines n moves) }

pub is_all : (text : List ℕ) (n : ℕ) (moves : List Move) (rest : List ℕ) → SoFar text n moves rest → rest ≡ [] → (k : ℕ) (ms : List Move) → IsMoveList text k ms → (n ≡ k) × (moves ≡ ms)
is_all text n moves rest so none k ms list =
    let both = so.only k ms list in (both.0, by_tail both.1.tail both.1.parts both.1.spelled)
  where
    by_tail : (tail : List Move) → ms ≡ moves ++ tail → lines_of rest ≡ map move_line tail → moves ≡ ms
    by_tail [] parts spelled = sym (parts ∙ append-nil moves)
    by_tail (t ∷ ts) parts spelled = absurd (let e = sym (ap lines_of none) ∙ spelled in cc)

-- ---- what the moves make

-- some moves are read, and the value is what they make
pub record IsMadeSoFar {T : Type 0} (stands : ℕ → List Move → T → Type 0) (text : List ℕ) (n line : ℕ) (rest : List ℕ) (value : T) : Type 0 where
  pub moves : List Move
  pub read : SoFar text n moves rest
  pub made : stands n moves value
  pub line_is : line ≡ length moves + 2

pub made_none : {T : Type 0} (stands : ℕ → List Move → T → Type 0) (text : List ℕ) (n : ℕ) (rest : List ℕ) (value : T) → IsBehaviours n → lines_of text ≡ behaviours_line n ∷ lines_of rest →
    IsThatNumberOfBehaviours text n rest → stands n [] value → IsMadeSoFar stands text n 2 rest value
made_none stands text n rest value right lines only made = record { moves = []; read = begins text rest n right lines only; made = made; line_is = refl }

pub made_more : {T : Type 0} (stands : ℕ → List Move → T → Type 0) (text : List ℕ) (n line : ℕ) (rest after : List ℕ) (value value' : T) (m : Move) → IsMadeSoFar stands text n line rest value →
    lines_of rest ≡ move_line m ∷ lines_of after → IsMove m → IsThatMove rest m after →
    ((k : ℕ) (moves : List Move) → stands k moves value → stands k (moves ++ m ∷ []) value') → IsMadeSoFar stands text n (line + 1) after value'
made_more stands text n line rest after value value' m so spelled fits only takes =
    let here = so.line_is in
    record {
      moves = so.moves ++ m ∷ [];
      read = goes_on text n so.moves (so.moves ++ m ∷ []) rest after m so.read spelled fits only refl;
      made = takes n so.moves so.made;
      line_is = omega (arith, here, length-append so.moves (m ∷ []));
    }

pub made_all : {T : Type 0} (stands : ℕ → List Move → T → Type 0) (text : List ℕ) (n line : ℕ) (rest : List ℕ) (value : T) → IsMadeSoFar stands text n line rest value → rest ≡ [] → IsMadeOfMoves stands text value
made_all stands text n line rest value so none = (n, so.moves, is_done text n so.moves rest so.read none, so.made)

pub made_only : {T : Type 0} (stands : ℕ → List Move → T → Type 0) (text : List ℕ) (n line : ℕ) (rest : List ℕ) (value : T) → IsMadeSoFar stands text n line rest value → rest ≡ [] →
    (k : ℕ) (ms : List Move) → IsMoveList text k ms → stands k ms value
made_only stands text n line rest value so none k ms list =
    let two = is_all text n so.moves rest so.read none k ms list in
    let made = so.made in
    rw two.0 at (rw two.1 at made)

pub made_bad : {T : Type 0} (stands : ℕ → List Move → T → Type 0) (text : List ℕ) (n line : ℕ) (rest : List ℕ) (value : T) → IsMadeSoFar stands text n line rest value → rest ≢ [] → IsNoMove rest → IsListFault text (TextFault.At line TextKind.Move)
made_bad stands text n line rest value so some never = rw so.line_is (bad_move text n (length so.moves) so.moves rest refl some so.read never)
