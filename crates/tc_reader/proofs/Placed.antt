-- The places of names in a list, and lines that are in their places and within the limits.
use Rattle.std.{proofs.{Common.{ℕ, ◌≡◌, ◌≤◌, ◌<◌, ◌∙◌, ◌+◌, Bool, true, false, Ok, Err, List, [], ◌∷◌, ◌++◌, length, refl, sym, ap, arith, suc, cond, ltb, Some, None}, lemmas.{Bool.{Decides.nat_tests, le-ltb, lt-ltb, ltb-false, ltb-true}, List.{Sums.prefix_len-le-length, length-append, length-map}}}, specs.{Prelude.{is_some, not, if◌then◌else◌, ◌||◌}, List.{list_any, position, position_or_len}}}
use Rattle.tc_entry.specs.declared.limits.TheConstants.{ARGUMENTS, BEHAVIOURS}
use Rattle.tc_step.specs.declared.limits.TheConstants.{STEPS}
use Rattle.tc_reader.specs.{FirstPass.{argument_count, open_after, opened, passes_limit, placed, steps_in}, Inside.{names_of, place_in}, Names.{Word, add, all_of, among, index_of}, Scope.{Head, behaviours_before, bound, with_bound}, Words.is_text, declared.{kind.ScriptKind.ScriptKind, line.{Call.Call, Line.Line}, counts.Open.Open}}

-- each of the lines before
abbrev pub AllPlaced : List Line → Type 0
AllPlaced [] = Unit {0}
AllPlaced (l ∷ past) = (placed past l ≡ Ok l) × AllPlaced past

may_be : (past : List Line) (l : Line) → placed past l ≡ Ok l → is_some (open_after l (opened past)) ≡ true
may_be past l at = by (is_some (open_after l (opened past))) (passes_limit l past) at
  where
    by : (a b : Bool) → (if not a then Err ScriptKind.BadPlace else if b then Err ScriptKind.TooMany else Ok l) ≡ Ok l → a ≡ true
    by true b e = refl
    by false b e = absurd cc

-- it is after something that is open
pub not_nothing : (past : List Line) (l : Line) → placed past l ≡ Ok l → is_some (open_after l Open.Nothing) ≡ false → opened past ≡ Open.Nothing → ⊥
not_nothing past l at none e =
    let no : true ≡ false = sym (may_be past l at) ∙ ap (λ o. is_some (open_after l o)) e ∙ none in absurd cc

pub in_behaviour : (past : List Line) (call : Call) → placed past (Line.Step call) ≡ Ok (Line.Step call) → opened past ≡ Open.Behaviour
in_behaviour past call at = by (opened past) (may_be past (Line.Step call) at)
  where
    by : (o : Open) → is_some (open_after (Line.Step call) o) ≡ true → o ≡ Open.Behaviour
    by Open.Nothing e = absurd cc
    by Open.NewCase e = absurd cc
    by Open.Case e = absurd cc
    by Open.Behaviour e = refl

-- ---- limits

pub within_limits : (past : List Line) (l : Line) → placed past l ≡ Ok l → passes_limit l past ≡ false
within_limits past l is = by (is_some (open_after l (opened past))) (passes_limit l past) is
  where
    by : (a b : Bool) → (if not a then Err ScriptKind.BadPlace else if b then Err ScriptKind.TooMany else Ok l) ≡ Ok l → b ≡ false
    by false b e = absurd cc
    by true true e = absurd cc
    by true false e = refl

pub few_given : (past : List Line) (call : Call) → passes_limit (Line.Step call) past ≡ false → (steps_in past < STEPS) × (argument_count call ≤ ARGUMENTS)
few_given past call e = (grind (arith, nat_tests, e), grind (arith, nat_tests, e))

pub few_more : (past : List Line) (n : List ℕ) (ps : List (List ℕ)) → passes_limit (Line.Behaviour n ps) past ≡ false → (length (behaviours_before past) < BEHAVIOURS) × (length ps ≤ ARGUMENTS)
few_more past n ps e = (grind (arith, nat_tests, e), grind (arith, nat_tests, e))

pub few_behaviours : (past : List Line) → AllPlaced past → length (behaviours_before past) ≤ BEHAVIOURS
few_behaviours [] are = omega arith
few_behaviours (Line.TestCase n ∷ past) are = omega arith
few_behaviours (Line.Behaviour n ps ∷ past) are =
    let low = (few_more past n ps (within_limits past (Line.Behaviour n ps) are.0)).0 in
    let long = length-append (behaviours_before past) (n ∷ []) in
    omega (arith, low, long)
few_behaviours (_ ∷ past) are = few_behaviours past are.1

-- ---- how many names are bound

one_more : (n : Word) (ns : List Word) → length (add n ns) ≤ length ns + 1
one_more n ns = by (among n ns)
  where
    by : (b : Bool) → length (if b then ns else ns ++ n ∷ []) ≤ length ns + 1
    by true = omega arith
    by false = grind (arith, length-append ns (n ∷ []))

few_bound : (call : Call) (ns : List Word) → length (with_bound call ns) ≤ length ns + 1
few_bound (Call.Create n alive given_name) ns = one_more n ns
few_bound _ ns = omega arith

few_of_all : (ns ms : List Word) → length (all_of ns ms) ≤ length ns + length ms
few_of_all ns [] = omega arith
few_of_all ns (m ∷ ms) =
    let more = few_of_all (add m ns) ms in
    let one = one_more m ns in
    omega (arith, more, one)

pub few_names : (past : List Line) → AllPlaced past → length (bound past) ≤ ARGUMENTS + steps_in past
unfolding steps_in
few_names [] are = omega arith
few_names (Line.Behaviour n ps ∷ past) are =
    let all = few_of_all [] ps in
    let few = (few_more past n ps (within_limits past (Line.Behaviour n ps) are.0)).1 in
    omega (arith, all, few)
few_names (Line.Step call ∷ past) are =
    let one = few_bound call (bound past) in
    let next = few_names past are.1 in
    omega (arith, one, next)
few_names (_ ∷ past) are = few_names past are.1

pub absent_at_end : {X : Type 0} (p : X → Bool) (xs : List X) → position_or_len p xs ≤ length xs → position p xs ≡ None → position_or_len p xs ≡ length xs
absent_at_end p xs le none = by (ltb (position_or_len p xs) (length xs)) (λ e. omega (arith, ltb-false _ _ e)) none
  where
    by : {P : Type 0} (b : Bool) → (b ≡ false → P) → cond b (Some (position_or_len p xs)) None ≡ None → P
    by true f e = absurd cc
    by false f e = f refl

pub absent_head_at_end : (n : List ℕ) (hs : List Head) → position (is_text n) (names_of hs) ≡ None → index_of n (names_of hs) ≡ length hs
unfolding index_of
absent_head_at_end n hs none = absent_at_end (is_text n) (names_of hs) (prefix_len-le-length _ _) none ∙ length-map hs (λ h. h.0)

next_below : (a b : ℕ) (c : Bool) → ltb a b ≡ c → ltb (1 + a) (suc b) ≡ c
next_below a b true e = let lt = ltb-true a b e in lt-ltb (1 + a) (suc b) (omega (arith, lt))
next_below a b false e = let le = ltb-false a b e in le-ltb (1 + a) (suc b) (omega (arith, le))

below_is : {X : Type 0} (p : X → Bool) (xs : List X) → ltb (position_or_len p xs) (length xs) ≡ list_any p xs
below_is p [] = refl
below_is p (x ∷ xs) = by (p x) (below_is p xs)
  where
    by : (b : Bool) → ltb (position_or_len p xs) (length xs) ≡ list_any p xs → ltb (cond (not b) (1 + position_or_len p xs) 0) (suc (length xs)) ≡ (b || list_any p xs)
    by true same = lt-ltb 0 (suc (length xs)) (omega arith)
    by false same = next_below (position_or_len p xs) (length xs) (list_any p xs) same

pub place_is : (n : List ℕ) (ns : List (List ℕ)) → position (is_text n) ns ≡ place_in ns n
unfolding among index_of
place_is n ns = ap (λ b. cond b (Some (position_or_len (is_text n) ns)) None) (below_is (is_text n) ns)
