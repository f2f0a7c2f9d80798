-- What follows from what the table keeps.
use Rattle.std.{proofs.{Common.{ℕ, ◌≡◌, ◌<◌, ◌≤◌, ◌&&◌, ◌||◌, not, Bool, true, false, Some, None, is_some, nat_lt, List, [], ◌∷◌, length, map, drop, get_or, refl, ap, sym, ◌∙◌, arith}, lemmas.Bool.Decides.nat_tests, lemmas.List.Folds.list_all-map}, specs.List.{list_any, list_all}}
use Rattle.tc_entry.specs.{declared.comp.Comp.Comp, declared.entry.Entry.Entry, declared.op.Target.Target, Prelude.worst}
use Rattle.tc_rules.{specs.{Answers.{is_active, is_run_of}, Faults.{all_exist, components, target_names}, History.{comp_of, comps, exists, is_alive_type, is_in, ptcs}, Inside.Kept.{IsKept, run_of, state_of}, Inside.States.{all_below, all_killed, any_done, any_killed, none_lapsed, none_running, worst_local}, Local.{local, local_if_any, overall}, Phases.{is_excused, last_run, phase, phase_if_any}, Status.{alive, done, is_done, is_killed, is_running, killed, running}, Waiting.waiting, declared.awaited.Awaited.Awaited, declared.component_state.ComponentState.ComponentState, declared.run_state.RunState.RunState}, proofs.Lemmas.{Deciding.{and_left, and_yes}, Numbers.{length-numbers_from, is_in-numbers_from, map-numbers_from, drop-one-map}}}

map-map : {A B C : Type 0} (g : B → C) (f : A → B) (xs : List A) → map g (map f xs) ≡ map (λ x. g (f x)) xs
map-map g f [] = refl
map-map g f (x ∷ xs) = ap (λ ys. g (f x) ∷ ys) (map-map g f xs)

list_any-map : {A B : Type 0} (g : B → Bool) (f : A → B) (xs : List A) → list_any g (map f xs) ≡ list_any (λ x. g (f x)) xs
list_any-map g f [] = refl
list_any-map g f (x ∷ xs) = ap (λ b. g (f x) || b) (list_any-map g f xs)

pub list_all-same : {A : Type 0} (f g : A → Bool) (xs : List A) → ((x : A) → f x ≡ g x) → list_all f xs ≡ list_all g xs
list_all-same f g [] h = refl
list_all-same f g (x ∷ xs) h = rw (h x, list_all-same f g xs h)

one-true : (b : Bool) → (b && true) ≡ true → b ≡ true
one-true true h = refl
one-true false h = h

-- one passes if not all fail, and fails if not all pass; all fail if not one passes
any_not_all : {A : Type 0} (g : A → Bool) (xs : List A) → list_any g xs ≡ not (list_all (λ x. not (g x)) xs)
any_not_all g [] = refl
any_not_all g (x ∷ xs) = by_test (g x) (any_not_all g xs)
  where
    by_test : (t : Bool) → list_any g xs ≡ not (list_all (λ x. not (g x)) xs) → (t || list_any g xs) ≡ not (not t && list_all (λ x. not (g x)) xs)
    by_test true rest = refl
    by_test false rest = rest

fails_not_all : {A : Type 0} (g : A → Bool) (xs : List A) → list_any (λ x. not (g x)) xs ≡ not (list_all g xs)
fails_not_all g [] = refl
fails_not_all g (x ∷ xs) = by_test (g x) (fails_not_all g xs)
  where
    by_test : (t : Bool) → list_any (λ x. not (g x)) xs ≡ not (list_all g xs) → (not t || list_any (λ x. not (g x)) xs) ≡ not (t && list_all g xs)
    by_test true rest = rest
    by_test false rest = refl

fail_all : {A : Type 0} (g : A → Bool) (xs : List A) → list_all (λ x. not (g x)) xs ≡ not (list_any g xs)
fail_all g [] = refl
fail_all g (x ∷ xs) = by_test (g x) (fail_all g xs)
  where
    by_test : (t : Bool) → list_all (λ x. not (g x)) xs ≡ not (list_any g xs) → (not t && list_all (λ x. not (g x)) xs) ≡ not (t || list_any g xs)
    by_test true rest = refl
    by_test false rest = rest

masked : (a p x : Bool) → (not a || p || x) ≡ (not a || p || (a && x))
masked true p x = refl
masked false p x = refl

module _ {n : ℕ} {past : List Entry} {states : List ComponentState} {runs : List RunState} {over : Bool} where
  pub components_kept : IsKept n past states runs over → components past ≡ length states
  unfolding components
  components_kept kept = ap length kept.numbered ∙ length-numbers_from 0 (length states)

  pub exists_kept : (c : ℕ) → IsKept n past states runs over → exists past c ≡ nat_lt c (length states)
  unfolding exists
  exists_kept c kept =
      ap (is_in c) kept.numbered ∙ (is_in-numbers_from c 0 (length states) ∙ grind (arith, nat_tests))

  pub exists_if : (c : ℕ) → IsKept n past states runs over → c < length states → exists past c ≡ true
  exists_if c kept h = exists_kept c kept ∙ grind (arith, nat_tests)

  pub exists_unless : (c : ℕ) → IsKept n past states runs over → length states ≤ c → exists past c ≡ false
  exists_unless c kept h = exists_kept c kept ∙ grind (arith, nat_tests)

  pub phase_kept : (c : ℕ) (d : ComponentState) → IsKept n past states runs over → c < length states → phase_if_any past c ≡ Some (get_or states c d).phase
  unfolding phase_if_any
  phase_kept c d kept h = rw (exists_if c kept h, kept.each_state c d h)

  pub no_phase : (c : ℕ) → IsKept n past states runs over → length states ≤ c → phase_if_any past c ≡ None
  unfolding phase_if_any
  no_phase c kept h = rw (exists_unless c kept h)

  pub local_kept : (c : ℕ) (d : ComponentState) → IsKept n past states runs over → c < length states → local_if_any past c ≡ Some (get_or states c d).local
  unfolding local_if_any
  local_kept c d kept h = rw (exists_if c kept h, kept.each_state c d h)

  pub no_local : (c : ℕ) → IsKept n past states runs over → length states ≤ c → local_if_any past c ≡ None
  unfolding local_if_any
  no_local c kept h = rw (exists_unless c kept h)

  states_are : IsKept n past states runs over → states ≡ map (state_of past) (comps past)
  states_are kept =
      map-numbers_from (state_of past) 0 states (λ i d h. kept.each_state i d h ∙ ap (state_of past) (omega arith)) ∙ ap (map (state_of past)) (sym kept.numbered)

  any_kept : (g : ComponentState → Bool) → IsKept n past states runs over → list_any (λ c. g (state_of past c)) (ptcs past) ≡ list_any g (drop 1 states)
  any_kept g kept =
      sym (list_any-map g (state_of past) (ptcs past)) ∙ ap (list_any g) (sym (drop-one-map (state_of past) (comps past)) ∙ ap (drop 1) (sym (states_are kept)))

  pub all_kept : (g : ComponentState → Bool) → IsKept n past states runs over → list_all (λ c. g (state_of past c)) (ptcs past) ≡ list_all g (drop 1 states)
  all_kept g kept =
      sym (list_all-map g (state_of past) (ptcs past)) ∙ ap (list_all g) (sym (drop-one-map (state_of past) (comps past)) ∙ ap (drop 1) (sym (states_are kept)))

  pub all_exist_kept : (cs : List Comp) → IsKept n past states runs over → all_exist past cs ≡ all_below cs (length states)
  unfolding all_exist all_below
  all_exist_kept [] kept = refl
  all_exist_kept (c ∷ cs) kept = rw (exists_kept c.0 kept, all_exist_kept cs kept)

  -- a component that a call names exists
  pub one_exists : (c : Comp) → IsKept n past states runs over → all_exist past (c ∷ []) ≡ true → c.0 < length states
  unfolding all_exist
  one_exists c kept h = let e : nat_lt c.0 (length states) ≡ true = sym (exists_kept c.0 kept) ∙ one-true _ h in grind (arith, nat_tests)

  pub running_one : (c : Comp) (d : ComponentState) → IsKept n past states runs over → c.0 < length states → running past (Target.One c) ≡ is_running (get_or states c.0 d).phase
  unfolding running
  running_one c d kept h = rw (kept.each_state c.0 d h)

  pub alive_one : (c : Comp) (d : ComponentState) → IsKept n past states runs over → c.0 < length states → alive past (Target.One c) ≡ not (is_killed (get_or states c.0 d).phase)
  unfolding alive
  alive_one c d kept h = rw (kept.each_state c.0 d h)

  pub done_one : (c : Comp) (d : ComponentState) → IsKept n past states runs over → c.0 < length states → done past (Target.One c) ≡ is_done (get_or states c.0 d).phase
  unfolding done
  done_one c d kept h = rw (kept.each_state c.0 d h)

  pub killed_one : (c : Comp) (d : ComponentState) → IsKept n past states runs over → c.0 < length states → killed past (Target.One c) ≡ is_killed (get_or states c.0 d).phase
  unfolding killed
  killed_one c d kept h = rw (kept.each_state c.0 d h)

  pub running_any : IsKept n past states runs over → running past Target.Any ≡ not (none_running (drop 1 states))
  unfolding running none_running
  running_any kept = any_kept (λ s. is_running s.phase) kept ∙ any_not_all (λ s. is_running s.phase) (drop 1 states)

  pub running_all : IsKept n past states runs over → running past Target.All ≡ none_lapsed (drop 1 states)
  unfolding running none_lapsed
  running_all kept =
      list_all-same _ _ (ptcs past) (λ c. masked (is_some (last_run past c)) (is_running (phase past c)) (is_excused past c))
      ∙ all_kept (λ s. not (is_some s.last) || is_running s.phase || s.excused) kept

  pub alive_any : IsKept n past states runs over → alive past Target.Any ≡ not (all_killed (drop 1 states))
  unfolding alive all_killed
  alive_any kept = any_kept (λ s. not (is_killed s.phase)) kept ∙ fails_not_all (λ s. is_killed s.phase) (drop 1 states)

  pub alive_all : IsKept n past states runs over → alive past Target.All ≡ not (any_killed (drop 1 states))
  unfolding alive any_killed
  alive_all kept = all_kept (λ s. not (is_killed s.phase)) kept ∙ fail_all (λ s. is_killed s.phase) (drop 1 states)

  pub done_any : IsKept n past states runs over → done past Target.Any ≡ any_done (drop 1 states)
  unfolding done any_done
  done_any kept = any_kept (λ s. is_done s.phase) kept

  pub done_all : IsKept n past states runs over → done past Target.All ≡ none_running (drop 1 states)
  unfolding done none_running
  done_all kept = all_kept (λ s. not (is_running s.phase)) kept

  pub killed_any : IsKept n past states runs over → killed past Target.Any ≡ any_killed (drop 1 states)
  unfolding killed any_killed
  killed_any kept = any_kept (λ s. is_killed s.phase) kept

  pub killed_all : IsKept n past states runs over → killed past Target.All ≡ all_killed (drop 1 states)
  unfolding killed all_killed
  killed_all kept = all_kept (λ s. is_killed s.phase) kept

  pub existing : (c : ℕ) → IsKept n past states runs over → exists past c ≡ true → c < length states
  existing c kept h = let e : nat_lt c (length states) ≡ true = sym (exists_kept c kept) ∙ h in grind (arith, nat_tests)

  pub phase_state : (c : ℕ) (d : ComponentState) → IsKept n past states runs over → c < length states → (get_or states c d).phase ≡ phase past c
  phase_state c d kept h = ap (λ s. s.phase) (kept.each_state c d h)

  pub last_kept : (c : ℕ) (d : ComponentState) → IsKept n past states runs over → c < length states → (get_or states c d).last ≡ last_run past c
  last_kept c d kept h = ap (λ s. s.last) (kept.each_state c d h)

  pub no_last : (c : ℕ) → IsKept n past states runs over → length states ≤ c → last_run past c ≡ None
  no_last c kept h = ap (λ s. s.last) (kept.fresh c h)

  pub kind_kept : (c : ℕ) (d : ComponentState) → IsKept n past states runs over → c < length states → (get_or states c d).alive_type ≡ is_alive_type past c
  kind_kept c d kept h = ap (λ s. s.alive_type) (kept.each_state c d h)

  pub no_kind : (c : ℕ) → IsKept n past states runs over → length states ≤ c → is_alive_type past c ≡ false
  no_kind c kept h = ap (λ s. s.alive_type) (kept.fresh c h)

  pub waiting_kept : (b : ℕ) (d : RunState) → IsKept n past states runs over → b < length runs → (get_or runs b d).waiting ≡ waiting past b
  waiting_kept b d kept h = ap (λ s. s.waiting) (kept.each_run b d (omega (arith, kept.as_many_runs)))

  pub not_waiting : (b : ℕ) → IsKept n past states runs over → length runs ≤ b → waiting past b ≡ None
  not_waiting b kept h = (kept.no_other_run b (omega (arith, kept.as_many_runs))).1

  pub overall_kept : IsKept n past states runs over → overall past ≡ worst_local states
  unfolding overall worst_local
  overall_kept kept = sym (ap (λ (ss : List ComponentState). worst (map (λ s. s.local) ss)) (states_are kept) ∙ ap worst (map-map (λ s. s.local) (state_of past) (comps past)))

  pub local_state : (c : ℕ) (d : ComponentState) → IsKept n past states runs over → c < length states → (get_or states c d).local ≡ local past c
  local_state c d kept h = ap (λ s. s.local) (kept.each_state c d h)

  pub run_kept : (b : ℕ) (d : RunState) → IsKept n past states runs over → b < length runs → get_or runs b d ≡ run_of past b
  run_kept b d kept h = kept.each_run b d (omega (arith, kept.as_many_runs))

  pub active_kept : (b : ℕ) (c : Comp) (d : ComponentState) → IsKept n past states runs over → comp_of past b ≡ Some c → is_active past b ≡ is_run_of b (get_or states c.0 d).phase
  unfolding is_active
  active_kept b c d kept on = rw (on, kept.each_state c.0 d (kept.on_existing b c on))

pub inactive : (past : List Entry) (b : ℕ) → comp_of past b ≡ None → is_active past b ≡ false
unfolding is_active
inactive past b none = rw none

pub all_exist_one : (past : List Entry) (c : Comp) → all_exist past (c ∷ []) ≡ exists past c.0
unfolding all_exist
all_exist_one past c = and_yes (exists past c.0)

pub all_exist_none : (past : List Entry) → all_exist past [] ≡ true
unfolding all_exist
all_exist_none past = refl

pub all_exist_more : (past : List Entry) (c : Comp) (cs : List Comp) → all_exist past (c ∷ cs) ≡ (exists past c.0 && all_exist past cs)
unfolding all_exist
all_exist_more past c cs = refl

pub below_one : (c : Comp) (count : ℕ) → all_below (c ∷ []) count ≡ nat_lt c.0 count
unfolding all_below
below_one c count = and_yes (nat_lt c.0 count)

pub below_none : (count : ℕ) → all_below [] count ≡ true
unfolding all_below
below_none count = refl

pub below_more : (c : Comp) (cs : List Comp) (count : ℕ) → all_below (c ∷ cs) count ≡ (nat_lt c.0 count && all_below cs count)
unfolding all_below
below_more c cs count = refl

pub is_below : (c : Comp) (count : ℕ) → all_below (c ∷ []) count ≡ true → c.0 < count
unfolding all_below
is_below c count h = let e : nat_lt c.0 count ≡ true = one-true _ h in grind (arith, nat_tests)

pub first_below : (c : Comp) (cs : List Comp) (count : ℕ) → all_below (c ∷ cs) count ≡ true → c.0 < count
unfolding all_below
first_below c cs count h = let e : nat_lt c.0 count ≡ true = and_left (nat_lt c.0 count) _ h in grind (arith, nat_tests)

module _ {n : ℕ} {past : List Entry} {states : List ComponentState} {runs : List RunState} {over : Bool} where
  -- what a run waits for exists
  pub awaited_below : (b : ℕ) (d : RunState) (a : Awaited) → IsKept n past states runs over → b < length runs → (get_or runs b d).waiting ≡ Some a → all_below (target_names a.target) (length states) ≡ true
  awaited_below b d a kept h w =
      sym (all_exist_kept (target_names a.target) kept)
      ∙ kept.waits_for_existing b a (sym (waiting_kept b d kept h) ∙ w)

-- what is known of components by their number
pub ruleset below_rules = (below_one, below_none, below_more, is_below, first_below)

-- what is known of a table
pub ruleset kept_rules = (components_kept, exists_kept, phase_kept, no_phase, local_kept, no_local, all_exist_kept, one_exists, active_kept, inactive, existing, phase_state, all_exist_one, all_exist_none, all_exist_more)

pub ruleset group_rules = (running_one, alive_one, done_one, killed_one, running_any, running_all, alive_any, alive_all, done_any, done_all, killed_any, killed_all)

pub ruleset wait_rules = (waiting_kept, not_waiting, local_state)

pub ruleset overall_rules = (overall_kept)

pub ruleset last_rules = (last_kept, no_last)

pub ruleset kind_rules = (kind_kept, no_kind)
