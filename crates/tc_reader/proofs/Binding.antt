-- If the references of a behaviour are bound, each place of its steps is.
use Rattle.std.{proofs.{Common.{ℕ, suc, ◌≡◌, ◌∙◌, ◌+◌, ◌<◌, Bool, true, false, Option, Some, None, List, [], ◌∷◌, ◌++◌, length, map, All, nat_eq, refl, sym, ap, arith, rules, cond, ◌≤◌}, lemmas.{Bool.Decides.nat_tests, List.{Elements.All-cons, Folds.list_any-append, length-append, length-map, map-append}}, Math.Bool.{or-false, or_assoc}}, specs.{Prelude.{◌==◌, ◌||◌, not, if◌then◌else◌, is_some}, Cmp.Lexicographic.{bytes_decides, pointwise}, List.{list_any, position_or_len}, Option.{option_map, option_or}, Map.lookup}}
use Rattle.tc_step.specs.{declared.place.{GroupPlace.GroupPlace, Place.Place, TargetPlace.TargetPlace}, Prelude.{group_map, target_map, IsBound, AreBound, of_group, of_target}}
use Rattle.tc_reader.specs.{Campaign.{place, step_of, steps}, FirstPass.at_next, Names.{add, all_of, among, has_twice, index_of, Word}, Scope.{Head, behaviours_before, bound, cases_before, heads_around, parameters_of}, SecondPass.{is_unbound, misnamed, name_fault}, Words.is_text, Inside.{add_head, head_fault, names_of}, declared.{kind.ScriptKind.ScriptKind, line.{Call.Call, Line.Line}}}
use Rattle.indexmap.{specs.IndexMap.{IndexMap, insert_entry}, proofs.CallerLemmas.insert_entry-new}

pub named_next : (past : List Line) (l : Line) (rest : List Line) → misnamed past (l ∷ rest) ≡ None → (name_fault (cases_before past) (behaviours_before past) (bound past) (heads_around past (l ∷ rest)) l ≡ None) × (misnamed (l ∷ past) rest ≡ None)
named_next past l rest is = by (name_fault (cases_before past) (behaviours_before past) (bound past) (heads_around past (l ∷ rest)) l) is
  where
    by : (o : Option ScriptKind) → option_or (option_map (at_next past) o) (misnamed (l ∷ past) rest) ≡ None → (o ≡ None) × (misnamed (l ∷ past) rest ≡ None)
    by (Some kind) e = absurd cc
    by None e = (refl, e)

pub neither : (a b : Bool) → (a || b) ≡ false → (a ≡ false) × (b ≡ false)
neither false false e = (refl, refl)
neither false true e = absurd cc
neither true b e = absurd cc

-- ---- places

found_below : {X : Type 0} (p : X → Bool) (xs : List X) → list_any p xs ≡ true → position_or_len p xs < length xs
found_below p [] e = absurd cc
found_below p (x ∷ xs) e = by (p x) (found_below p xs) e
  where
    by : (b : Bool) → (list_any p xs ≡ true → position_or_len p xs < length xs) → (b || list_any p xs) ≡ true → cond (not b) (1 + position_or_len p xs) 0 < suc (length xs)
    by true low e = omega arith
    by false low e = let less = low e in omega (arith, less)

known : (b : Bool) → not b ≡ false → b ≡ true
known true e = refl
known false e = absurd cc

place_bound : (ns : List (List ℕ)) (r : Place (List ℕ)) → is_unbound ns r ≡ false → IsBound (length ns) (place ns r)
unfolding among index_of
place_bound ns (Place.Bound n) e = found_below (is_text n) ns (known (among n ns) e)
place_bound ns _ e = tt

all_bound : (ns : List (List ℕ)) (rs : List (Place (List ℕ))) → list_any (is_unbound ns) rs ≡ false → All (IsBound (length ns)) (map (place ns) rs)
all_bound ns [] e = search rules
all_bound ns (r ∷ rs) e =
    let two = neither (is_unbound ns r) (list_any (is_unbound ns) rs) e in
    All-cons (IsBound (length ns)) (place ns r) (map (place ns) rs) (place_bound ns r two.0) (all_bound ns rs two.1)

group_bound : (ns : List (List ℕ)) (g : GroupPlace (Place (List ℕ))) → list_any (is_unbound ns) (of_group g) ≡ false → All (IsBound (length ns)) (of_group (group_map (place ns) g))
group_bound ns (GroupPlace.One r) e = all_bound ns (r ∷ []) e
group_bound ns GroupPlace.All e = search rules

target_bound : (ns : List (List ℕ)) (t : TargetPlace (Place (List ℕ))) → list_any (is_unbound ns) (of_target t) ≡ false → All (IsBound (length ns)) (of_target (target_map (place ns) t))
target_bound ns (TargetPlace.One r) e = all_bound ns (r ∷ []) e
target_bound ns _ e = search rules

-- ---- what the lack of a fault says

-- neither the first nor another
pub no_first : (b : Bool) (kind : ScriptKind) (others : Option ScriptKind) → (if b then Some kind else others) ≡ None → (b ≡ false) × (others ≡ None)
no_first true kind others e = absurd cc
no_first false kind others e = (refl, e)

pub no_fault : (b : Bool) (kind : ScriptKind) → (if b then Some kind else None) ≡ None → b ≡ false
no_fault b kind e = (no_first b kind None e).0

-- ---- each name once

pub all_last : (ns ms : List Word) (n : Word) → all_of ns (ms ++ n ∷ []) ≡ add n (all_of ns ms)
all_last ns [] n = refl
all_last ns (m ∷ ms) n = all_last (add m ns) ms n

among_more : (n m : Word) (ns : List Word) → list_any (is_text n) (add m ns) ≡ (list_any (is_text n) ns || is_text n m)
unfolding among is_text
among_more n m ns = by (among m ns) refl
  where
    by : (b : Bool) → among m ns ≡ b → list_any (is_text n) (if b then ns else ns ++ m ∷ []) ≡ (list_any (is_text n) ns || is_text n m)
    by false e = list_any-append (is_text n) ns (m ∷ []) ∙ ap (λ b. list_any (is_text n) ns || b) (or-false (is_text n m))
    by true e = same (is_text n m) (bytes_decides n m).0
      where
        same : (b : Bool) → (b ≡ true → n ≡ m) → list_any (is_text n) ns ≡ (list_any (is_text n) ns || b)
        same false f = sym (or-false (list_any (is_text n) ns))
        same true f = rw (f refl, e) refl

among_all : (n : Word) (ns ms : List Word) → among n (all_of ns ms) ≡ (among n ns || among n ms)
unfolding among
among_all n ns [] = sym (or-false (among n ns))
among_all n ns (m ∷ ms) = among_all n (add m ns) ms ∙ ap (λ b. b || among n ms) (among_more n m ns) ∙ or_assoc (among n ns) (is_text n m) (among n ms)

pub among_each : (n : Word) (ms : List Word) → among n (all_of [] ms) ≡ among n ms
unfolding among
among_each n ms = among_all n [] ms

grows : (ns ms : List Word) → length ns ≤ length (all_of ns ms)
grows ns [] = omega arith
grows ns (m ∷ ms) = let next = grows (add m ns) ms in by (among m ns) next
  where
    by : (b : Bool) → length (if b then ns else ns ++ m ∷ []) ≤ length (all_of (add m ns) ms) → length ns ≤ length (all_of (add m ns) ms)
    by true less = less
    by false less = let long = length-append ns (m ∷ []) in omega (arith, less, long)

pub none_of_each : (ms : List Word) → (length (all_of [] ms) == 0) ≡ (length ms == 0)
unfolding among
none_of_each [] = refl
none_of_each (m ∷ ms) = let some : 1 ≤ length (all_of (m ∷ []) ms) = grows (m ∷ []) ms in grind (arith, nat_tests, some)

-- ---- names that are bound once each

pub add_new : (n : List ℕ) (ns : List (List ℕ)) → among n ns ≡ false → add n ns ≡ ns ++ n ∷ []
add_new n ns e = rw e refl

pub one_longer : (n : List ℕ) (ns : List (List ℕ)) → length (ns ++ n ∷ []) ≡ length ns + 1
one_longer n ns = length-append ns (n ∷ [])

-- none of these is among the others
abbrev AreNew : List (List ℕ) → List (List ℕ) → Type 0
AreNew ns [] = Unit {0}
AreNew ns (m ∷ ms) = (among m ns ≡ false) × AreNew ns ms

pub differ : (n m : List ℕ) → is_text n m ≡ false → is_text m n ≡ false
unfolding is_text
differ n m e = by (pointwise nat_eq m n) (bytes_decides m n).0
  where
    by : (b : Bool) → (b ≡ true → m ≡ n) → b ≡ false
    by true f = let yes : pointwise nat_eq n m ≡ true = (bytes_decides n m).1 (sym (f refl)) in absurd cc
    by false f = refl

pub either : (a b : Bool) → a ≡ false → b ≡ false → (a || b) ≡ false
either a b p q = rw (p, q) refl

new_after : (ns : List (List ℕ)) (n : List ℕ) (ms : List (List ℕ)) → AreNew ns ms → among n ms ≡ false → AreNew (ns ++ n ∷ []) ms
unfolding among
new_after ns n [] are e = tt
new_after ns n (m ∷ ms) are e =
    let two = neither (is_text n m) (list_any (is_text n) ms) e in
    (list_any-append (is_text m) ns (n ∷ []) ∙ either _ _ are.0 (either _ _ (differ n m two.0) refl), new_after ns n ms are.1 two.1)

all_length : (ns ps : List (List ℕ)) → has_twice ps ≡ false → AreNew ns ps → length (all_of ns ps) ≡ length ns + length ps
all_length ns [] e are = omega arith
all_length ns (m ∷ ms) e are =
    let two = neither (among m ms) (has_twice ms) e in
    let next = all_length (ns ++ m ∷ []) ms two.1 (new_after ns m ms are.1 two.0) in
    let here : length (all_of (add m ns) ms) ≡ length (all_of (ns ++ m ∷ []) ms) = ap (λ xs. length (all_of xs ms)) (add_new m ns are.0) in
    let long = one_longer m ns in
    here ∙ grind (arith, next, long)

new_to_none : (ps : List (List ℕ)) → AreNew [] ps
unfolding among
new_to_none [] = tt
new_to_none (m ∷ ms) = (refl, new_to_none ms)

-- ---- the steps of a behaviour

are_bound : (hs : List Head) (past rest : List Line) → misnamed past rest ≡ None → AreBound (length (bound past)) (steps hs (bound past) rest)
unfolding step_of
are_bound hs past [] named = tt
are_bound hs past (Line.Skipped ∷ rest) named = are_bound hs (Line.Skipped ∷ past) rest (named_next past Line.Skipped rest named).1
are_bound hs past (Line.Step (Call.Create n alive given_name) ∷ rest) named =
    let two = named_next past (Line.Step (Call.Create n alive given_name)) rest named in
    let new : add n (bound past) ≡ bound past ++ n ∷ [] = add_new n (bound past) (no_fault _ ScriptKind.Twice two.0) in
    let long : length (add n (bound past)) ≡ length (bound past) + 1 = ap length new ∙ one_longer n (bound past) in
    (search rules, rw (← long) (are_bound hs (Line.Step (Call.Create n alive given_name) ∷ past) rest two.1))
are_bound hs past (Line.Step (Call.Start on b args) ∷ rest) named =
    let two = named_next past (Line.Step (Call.Start on b args)) rest named in
    (all_bound (bound past) (on ∷ args) ((no_first _ ScriptKind.NoReference _ two.0).0), are_bound hs (Line.Step (Call.Start on b args) ∷ past) rest two.1)
are_bound hs past (Line.Step (Call.Stop g) ∷ rest) named =
    let two = named_next past (Line.Step (Call.Stop g)) rest named in
    (group_bound (bound past) g (no_fault _ ScriptKind.NoReference two.0), are_bound hs (Line.Step (Call.Stop g) ∷ past) rest two.1)
are_bound hs past (Line.Step (Call.Kill g) ∷ rest) named =
    let two = named_next past (Line.Step (Call.Kill g)) rest named in
    (group_bound (bound past) g (no_fault _ ScriptKind.NoReference two.0), are_bound hs (Line.Step (Call.Kill g) ∷ past) rest two.1)
are_bound hs past (Line.Step (Call.Ask s t) ∷ rest) named =
    let two = named_next past (Line.Step (Call.Ask s t)) rest named in
    (target_bound (bound past) t (no_fault _ ScriptKind.NoReference two.0), are_bound hs (Line.Step (Call.Ask s t) ∷ past) rest two.1)
are_bound hs past (Line.Step (Call.Wait killed t) ∷ rest) named =
    let two = named_next past (Line.Step (Call.Wait killed t)) rest named in
    (target_bound (bound past) t (no_fault _ ScriptKind.NoReference two.0), are_bound hs (Line.Step (Call.Wait killed t) ∷ past) rest two.1)
are_bound hs past (Line.Step call ∷ rest) named = (search rules, are_bound hs (Line.Step call ∷ past) rest (named_next past (Line.Step call) rest named).1)
are_bound hs past (_ ∷ rest) named = tt

-- those of a behaviour with these parameters
pub places_bound : (hs : List Head) (past : List Line) (n : List ℕ) (ps : List (List ℕ)) (rest : List Line) → name_fault (cases_before past) (behaviours_before past) (bound past) (heads_around past (Line.Behaviour n ps ∷ rest)) (Line.Behaviour n ps) ≡ None
    → misnamed (Line.Behaviour n ps ∷ past) rest ≡ None → AreBound (length ps) (steps hs (all_of [] ps) rest)
places_bound hs past n ps rest here named =
    let once = neither (among n (behaviours_before past)) (has_twice ps) (no_first _ ScriptKind.Twice _ here).0 in
    let long : length (all_of [] ps) ≡ length ps = all_length [] ps once.1 (new_to_none ps) ∙ omega arith in
    rw (← long) (are_bound hs (Line.Behaviour n ps ∷ past) rest named)

none_is : {X : Type 0} (o : Option X) → is_some o ≡ false → o ≡ None
none_is (Some x) e = absurd cc
none_is None e = refl

pub head_added : {S : Type 0} (m : IndexMap (List ℕ) ℕ S) (n key : List ℕ) (k : ℕ) → key ≡ n → is_some (parameters_of n m.entries) ≡ false
    → insert_entry (pointwise nat_eq) m.entries key k ≡ add_head n k m.entries
unfolding parameters_of is_text
head_added m n key k same e = rw (same, e) (insert_entry-new (pointwise nat_eq) m n k (none_is (lookup (pointwise nat_eq n) m.entries) e))

pub there : (n : Word) (hs : List Head) → is_some (parameters_of n hs) ≡ among n (names_of hs)
unfolding parameters_of among
there n [] = refl
there n (h ∷ hs) = by (is_text n h.0) (there n hs)
  where
    by : (b : Bool) → is_some (lookup (is_text n) hs) ≡ list_any (is_text n) (names_of hs) → is_some (cond b (Some h.1) (lookup (is_text n) hs)) ≡ (b || list_any (is_text n) (names_of hs))
    by true e = refl
    by false e = e

pub add_named : (n : Word) (k : ℕ) (hs : List Head) → names_of (add_head n k hs) ≡ add n (names_of hs)
add_named n k hs = by (is_some (parameters_of n hs)) (among n (names_of hs)) (there n hs)
  where
    by : (b c : Bool) → b ≡ c → names_of (if b then hs else hs ++ (n, k) ∷ []) ≡ (if c then names_of hs else names_of hs ++ n ∷ [])
    by true true e = refl
    by false false e = map-append (λ h. h.0) hs ((n, k) ∷ [])
    by true false e = absurd cc
    by false true e = absurd cc

pub head_more : (n : Word) (k : ℕ) (hs : List Head) → length (add_head n k hs) ≤ length hs + 1
head_more n k hs = by (is_some (parameters_of n hs))
  where
    by : (b : Bool) → length (if b then hs else hs ++ (n, k) ∷ []) ≤ length hs + 1
    by true = omega arith
    by false = grind (arith, length-append hs ((n, k) ∷ []))

pub head_is : (hs gs : List Head) (cs ns : List Word) (n : Word) (ps : List Word)
    → head_fault hs n ps ≡ name_fault cs (names_of hs) ns gs (Line.Behaviour n ps)
head_is hs gs cs ns n ps = rw (there n hs, length-map hs (λ h. h.0)) refl
