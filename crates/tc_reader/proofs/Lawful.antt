-- Each test case of lines without a fault starts its own behaviours, with their numbers of arguments.
use Rattle.std.{proofs.{Common.{ℕ, suc, ◌≡◌, ◌∙◌, ◌+◌, ◌≤◌, Bool, true, false, Option, Some, None, List, [], ◌∷◌, ◌++◌, length, map, All, refl, sym, ap, arith, rules, append_assoc, cond, Result, Ok, Err}, lemmas.{Bool.Decides.nat_tests, List.{Elements.All-cons, Folds.list_any-append, append-nil, length-map, map-append}}}, specs.{Prelude.{◌&&◌, ◌||◌, not, if◌then◌else◌, ◌==◌, is_some, slice_get, IfSome}, List.{list_any, position_or_len}, Map.lookup, Option.{option_map, option_map_or}}}
use Rattle.tc_entry.specs.declared.limits.TheConstants.{BEHAVIOURS}
use Rattle.tc_step.specs.Prelude.{ScriptView}
use Rattle.tc_reader.{specs.{Campaign.{IsCase, StartsOne, behaviours, cases, place, step_of, steps}, Inside.{signatures, AreCases, add_head, names_of, heads}, Names.{Word, all_of, among, has_twice, index_of}, Scope.{Head, behaviours_before, cases_before, heads_around, heads_with, parameters_of, with_bound}, SecondPass.misnamed, Words.is_text, declared.{kind.ScriptKind.ScriptKind, line.{Call.Call, Line.Line}}}, proofs.Binding.{differ, either, named_next, neither, no_fault, no_first, there}}

-- ---- a behaviour and its place

at_place : (n : Word) (hs : List Head) (k : ℕ) → parameters_of n hs ≡ Some k → option_map (λ h. h.1) (slice_get hs (index_of n (names_of hs))) ≡ Some k
unfolding parameters_of index_of
at_place n [] k e = absurd cc
at_place n (h ∷ hs) k e = by (is_text n h.0) (at_place n hs k) e
  where
    by : (b : Bool) → (lookup (is_text n) hs ≡ Some k → option_map (λ g. g.1) (slice_get hs (position_or_len (is_text n) (names_of hs))) ≡ Some k) → cond b (Some h.1) (lookup (is_text n) hs) ≡ Some k
        → option_map (λ g. g.1) (slice_get (h ∷ hs) (cond (not b) (1 + position_or_len (is_text n) (names_of hs)) 0)) ≡ Some k
    by true more e = e
    by false more e = let next : 1 + position_or_len (is_text n) (names_of hs) ≡ suc (position_or_len (is_text n) (names_of hs)) = omega arith in rw next (more e)

-- ---- the behaviours that are judged with are those of the campaign

none_used : (twice other main : Bool) → (if twice || other then Some ScriptKind.Twice else if main then Some ScriptKind.MainParameters else None) ≡ None → (twice ≡ false) × (main ≡ false)
none_used true other main e = absurd cc
none_used false true main e = absurd cc
none_used false false true e = absurd cc
none_used false false false e = (refl, refl)

heads_are : (gs hs : List Head) (past rest : List Line) → misnamed past rest ≡ None → names_of hs ≡ behaviours_before past → heads_with hs rest ≡ hs ++ signatures (behaviours gs rest)
heads_are gs hs past [] named same = sym (append-nil hs)
heads_are gs hs past (Line.TestCase n ∷ rest) named same = sym (append-nil hs)
heads_are gs hs past (Line.Behaviour n ps ∷ rest) named same =
    let two = named_next past (Line.Behaviour n ps) rest named in
    let new : among n (behaviours_before past) ≡ false = (none_used (among n (behaviours_before past)) _ _ two.0).0 in
    let absent : is_some (parameters_of n hs) ≡ false = there n hs ∙ ap (among n) same ∙ new in
    let grown : add_head n (length ps) hs ≡ hs ++ (n, length ps) ∷ [] = rw absent refl in
    let names : names_of (hs ++ (n, length ps) ∷ []) ≡ behaviours_before (Line.Behaviour n ps ∷ past) =
    map-append (λ h. h.0) hs ((n, length ps) ∷ []) ∙ ap (λ ns. ns ++ n ∷ []) same in
    ap (λ xs. heads_with xs rest) grown ∙ heads_are gs (hs ++ (n, length ps) ∷ []) (Line.Behaviour n ps ∷ past) rest two.1 names ∙ append_assoc hs ((n, length ps) ∷ []) (signatures (behaviours gs rest))
heads_are gs hs past (l ∷ rest) named same = heads_are gs hs (l ∷ past) rest (named_next past l rest named).1 same

-- ---- starts

equal_counts : (given expected : ℕ) → (if given == expected then None else Some ScriptKind.Arguments) ≡ None → expected ≡ given
equal_counts given expected e = by (given == expected) refl e
  where
    by : (b : Bool) → (given == expected) ≡ b → (if b then None else Some ScriptKind.Arguments) ≡ None → expected ≡ given
    by true same e = grind (arith, nat_tests, same)
    by false same e = absurd cc

right_count : (o : Option ℕ) (given : ℕ) → option_map_or (λ expected. if given == expected then None else Some ScriptKind.Arguments) o (Some ScriptKind.UnknownBehaviour) ≡ None → o ≡ Some given
right_count None given e = absurd cc
right_count (Some expected) given e = ap Some (equal_counts given expected e)

length-of_map : {X Y : Type 0} (f : X → Y) (xs : List X) → length (map f xs) ≡ length xs
length-of_map f xs = length-map xs f

starts_at : (hs : List Head) (ns : List Word) (past : List Line) (call : Call) (rest : List Line) → heads_around past (Line.Step call ∷ rest) ≡ hs → misnamed past (Line.Step call ∷ rest) ≡ None → StartsOne hs (step_of hs ns call)
unfolding step_of
starts_at hs ns past (Call.Start on b args) rest same named =
    let known = no_first _ ScriptKind.NoReference _ (named_next past (Line.Step (Call.Start on b args)) rest named).0 in
    let given = right_count (parameters_of b (heads_around past (Line.Step (Call.Start on b args) ∷ rest))) (length args) known.1 in
    at_place b hs (length args) (ap (parameters_of b) (sym same) ∙ given) ∙ ap Some (sym (length-of_map (place ns) args))
starts_at hs ns past _ rest same named = tt

starts_of : (hs : List Head) (ns : List Word) (past rest : List Line) → heads_around past rest ≡ hs → misnamed past rest ≡ None → All (StartsOne hs) (steps hs ns rest)
starts_of hs ns past [] same named = search rules
starts_of hs ns past (Line.Skipped ∷ rest) same named = starts_of hs ns (Line.Skipped ∷ past) rest same (named_next past Line.Skipped rest named).1
starts_of hs ns past (Line.Step call ∷ rest) same named =
    All-cons (StartsOne hs) (step_of hs ns call) (steps hs (with_bound call ns) rest) (starts_at hs ns past call rest same named)
    (starts_of hs (with_bound call ns) (Line.Step call ∷ past) rest same (named_next past (Line.Step call) rest named).1)
starts_of hs ns past (_ ∷ rest) same named = search rules

abbrev StartsAll : List Head → Word × ScriptView → Type 0
StartsAll hs b = All (StartsOne hs) b.1.steps

starts_in : (hs : List Head) (past rest : List Line) → heads_around past rest ≡ hs → misnamed past rest ≡ None → All (StartsAll hs) (behaviours hs rest)
starts_in hs past [] same named = search rules
starts_in hs past (Line.TestCase n ∷ rest) same named = search rules
starts_in hs past (Line.Behaviour n ps ∷ rest) same named =
    let left = (named_next past (Line.Behaviour n ps) rest named).1 in
    All-cons (StartsAll hs) (n, record { parameters = length ps; steps = steps hs (all_of [] ps) rest }) (behaviours hs rest)
    (starts_of hs (all_of [] ps) (Line.Behaviour n ps ∷ past) rest same left) (starts_in hs (Line.Behaviour n ps ∷ past) rest same left)
starts_in hs past (l ∷ rest) same named = starts_in hs (l ∷ past) rest same (named_next past l rest named).1

-- ---- the main component's behaviour

no_parameters : (ps : List Word) (ns : List Word) → ns ≡ [] → (length ns == 0 && not (length ps == 0)) ≡ false → length ps ≡ 0
no_parameters [] ns none e = refl
no_parameters (p ∷ ps) ns none e = let long : length ns ≡ 0 = ap length none in grind (arith, nat_tests, e, long)

main_is : (hs : List Head) (past rest : List Line) → behaviours_before past ≡ [] → misnamed past rest ≡ None → IfSome (slice_get (behaviours hs rest) 0) (λ b. b.1.parameters ≡ 0)
main_is hs past [] none named = search rules
main_is hs past (Line.TestCase n ∷ rest) none named = search rules
main_is hs past (Line.Behaviour n ps ∷ rest) none named = no_parameters ps (behaviours_before past) none (none_used (among n (behaviours_before past)) _ _ (named_next past (Line.Behaviour n ps) rest named).0).1
main_is hs past (l ∷ rest) none named = main_is hs (l ∷ past) rest none (named_next past l rest named).1

-- ---- distinct names

twice_after : (n : Word) (ns : List Word) → has_twice ns ≡ false → among n ns ≡ false → has_twice (ns ++ n ∷ []) ≡ false
unfolding among
twice_after n [] once new = refl
twice_after n (m ∷ ns) once new =
    let two = neither (among m ns) (has_twice ns) once in
    let other = neither (is_text n m) (list_any (is_text n) ns) new in
    either _ _ (list_any-append (is_text m) ns (n ∷ []) ∙ either _ _ two.0 (either _ _ (differ n m other.0) refl)) (twice_after n ns two.1 other.1)

behaviour_names : (gs : List Head) (past rest : List Line) → misnamed past rest ≡ None → has_twice (behaviours_before past) ≡ false → has_twice (behaviours_before past ++ map (λ b. b.0) (behaviours gs rest)) ≡ false
behaviour_names gs past [] named once = ap has_twice (append-nil (behaviours_before past)) ∙ once
behaviour_names gs past (Line.TestCase n ∷ rest) named once = ap has_twice (append-nil (behaviours_before past)) ∙ once
behaviour_names gs past (Line.Behaviour n ps ∷ rest) named once =
    let two = named_next past (Line.Behaviour n ps) rest named in
    let new : among n (behaviours_before past) ≡ false = (none_used (among n (behaviours_before past)) _ _ two.0).0 in
    ap has_twice (sym (append_assoc (behaviours_before past) (n ∷ []) (map (λ b. b.0) (behaviours gs rest))))
    ∙ behaviour_names gs (Line.Behaviour n ps ∷ past) rest two.1 (twice_after n (behaviours_before past) once new)
behaviour_names gs past (l ∷ rest) named once = behaviour_names gs (l ∷ past) rest (named_next past l rest named).1 once

pub case_names : (past rest : List Line) → misnamed past rest ≡ None → has_twice (cases_before past) ≡ false → has_twice (cases_before past ++ map (λ t. t.0) (cases rest)) ≡ false
case_names past [] named once = ap has_twice (append-nil (cases_before past)) ∙ once
case_names past (Line.TestCase n ∷ rest) named once =
    let two = named_next past (Line.TestCase n) rest named in
    let new : among n (cases_before past) ≡ false = no_fault _ ScriptKind.Twice two.0 in
    ap has_twice (sym (append_assoc (cases_before past) (n ∷ []) (map (λ t. t.0) (cases rest))))
    ∙ case_names (Line.TestCase n ∷ past) rest two.1 (twice_after n (cases_before past) once new)
case_names past (l ∷ rest) named once = case_names (l ∷ past) rest (named_next past l rest named).1 once

-- ---- test cases

case_is : (past : List Line) (n : Word) (rest : List Line) → length (heads rest) ≤ BEHAVIOURS → misnamed (Line.TestCase n ∷ past) rest ≡ None → IsCase (behaviours (heads rest) rest)
case_is past n rest few named =
    let same : heads rest ≡ signatures (behaviours (heads rest) rest) = heads_are (heads rest) [] (Line.TestCase n ∷ past) rest named refl in
    let long : length (heads rest) ≡ length (behaviours (heads rest) rest) = ap length same ∙ length-map (behaviours (heads rest) rest) (λ b. (b.0, b.1.parameters)) in
    record {
      few = omega (arith, few, long);
      distinct = behaviour_names (heads rest) (Line.TestCase n ∷ past) rest named refl;
      main = main_is (heads rest) (Line.TestCase n ∷ past) rest refl named;
      starts = rw (← same) (starts_in (heads rest) (Line.TestCase n ∷ past) rest refl named);
    }

pub cases_are : (past ls : List Line) → AreCases ls → misnamed past ls ≡ None → All (λ t. IsCase t.1) (cases ls)
cases_are past [] are named = search rules
cases_are past (Line.TestCase n ∷ rest) are named =
    let left = (named_next past (Line.TestCase n) rest named).1 in
    All-cons (λ t. IsCase t.1) (n, behaviours (heads rest) rest) (cases rest) (case_is past n rest are.0 left) (cases_are (Line.TestCase n ∷ past) rest are.2 left)
cases_are past (l ∷ rest) are named = cases_are (l ∷ past) rest are (named_next past l rest named).1

abbrev pub with_front : {B E : Type 0} → List B → Result (List B) E → Result (List B) E
with_front ys (Ok zs) = Ok (ys ++ zs)
with_front ys (Err e) = Err e
