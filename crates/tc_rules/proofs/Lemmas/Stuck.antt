-- A case is stuck if none of its runs continues.
use Rattle.std.{proofs.{Common.{ℕ, ◌≡◌, ◌<◌, ◌≤◌, ◌==◌, ◌&&◌, not, nat_lt, Bool, true, false, Option, Some, None, List, [], ◌∷◌, refl, ap, sym, ◌∙◌, arith}, lemmas.Bool.Decides.nat_tests}, specs.List.list_all}
use Rattle.tc_entry.specs.{Prelude.Run, declared.comp.Comp.Comp, declared.entry.Entry.Entry, declared.phase.Phase.Phase}
use Rattle.tc_rules.{specs.{Answers.{is_active, is_run_of}, History.{comp_of, comps, exists, is_alive_type, is_in}, Inside.Kept.IsKept, Inside.States.goes_on, Phases.{last_run, phase, was_halted, was_killed}, Waiting.{is_still, is_stuck, waiting}, Inside.Words.waits_in_vain, declared.component_state.ComponentState.ComponentState, declared.run_state.RunState.RunState}, proofs.{Lemmas.Deciding.{and_no, self_equal}, Lemmas.Kept.exists_if, Lemmas.Steps.phase_by}}

all_true : (f : ℕ → Bool) (xs : List ℕ) → ((x : ℕ) → f x ≡ true) → list_all f xs ≡ true
all_true f [] h = refl
all_true f (x ∷ xs) h = rw (h x, all_true f xs h)

pub one_false : (f : ℕ → Bool) (xs : List ℕ) (x : ℕ) → is_in x xs ≡ true → f x ≡ false → list_all f xs ≡ false
one_false f [] x h k = absurd cc
one_false f (y ∷ ys) x h k = by_test (x == y) refl (one_false f ys x)
  where
    by_test : (t : Bool) → (x == y) ≡ t → (is_in x ys ≡ true → f x ≡ false → list_all f ys ≡ false) → (f y && list_all f ys) ≡ false
    by_test true e ih = let q : x ≡ y = grind (arith, nat_tests) in let r : f y ≡ false = ap f (sym q) ∙ k in rw r
    by_test false e ih = let r : is_in x ys ≡ true = rw e at h in rw (ih r k) (and_no (f y))

running_is : (b : ℕ) (p : Phase) (Q : Type 0) → ((r : Run) → p ≡ Phase.Running r → r.0 ≡ b → Q) → is_run_of b p ≡ true → Q
running_is b (Phase.Running r) Q f h = f r refl (let t : (r.0 == b) ≡ true = h in grind (arith, nat_tests))
running_is b Phase.Inactive Q f h = absurd cc
running_is b Phase.Stopped Q f h = absurd cc
running_is b Phase.Killed Q f h = absurd cc

pub and_split : (a v : Bool) → (a && not v) ≡ true → (a ≡ true) × (v ≡ false)
and_split true false h = (refl, refl)
and_split true true h = absurd cc
and_split false v h = absurd cc

vain_if : (a v : Bool) → a ≡ true → (a && not v) ≡ false → v ≡ true
vain_if true true e h = refl
vain_if true false e h = absurd cc
vain_if false v e h = absurd cc

active_is : (past : List Entry) (b : ℕ) (Q : Type 0) → ((c : Comp) → comp_of past b ≡ Some c → is_run_of b (phase past c.0) ≡ true → Q) → (o : Option Comp) → comp_of past b ≡ o → is_active past b ≡ true → Q
unfolding is_active
active_is past b Q f (Some c) e h = f c e (rw e at h)
active_is past b Q f None e h = let k = rw e at h in absurd cc

active_if : (past : List Entry) (b : ℕ) (c : Comp) → comp_of past b ≡ Some c → is_run_of b (phase past c.0) ≡ true → is_active past b ≡ true
unfolding is_active
active_if past b c e h = rw e h

running_by : (k : Bool) (last : Option Run) (h a : Bool) (r : Run) → phase_by k last h a ≡ Phase.Running r → last ≡ Some r
running_by true last h a r e = absurd cc
running_by false None h a r e = absurd cc
running_by false (Some b) false a r e = cc
running_by false (Some b) true true r e = absurd cc
running_by false (Some b) true false r e = absurd cc

pub phase_running : (past : List Entry) (c : ℕ) (r : Run) → phase past c ≡ Phase.Running r → last_run past c ≡ Some r
unfolding phase
phase_running past c r h = running_by (was_killed past c) (last_run past c) (was_halted past c) (is_alive_type past c) r h

pub is_in_comps : (past : List Entry) (c : ℕ) → exists past c ≡ true → is_in c (comps past) ≡ true
unfolding exists
is_in_comps past c h = h

goes_on_is : (past : List Entry) (b : ℕ) → goes_on past b ≡ (is_active past b && not (waits_in_vain past (waiting past b)))
unfolding goes_on
goes_on_is past b = refl

none_some : (o : Option Comp) (c : Comp) → o ≡ None → o ≡ Some c → ⊥
none_some o c a b = let e : None ≡ Some c = sym a ∙ b in absurd cc

module _ {n : ℕ} {past : List Entry} {states : List ComponentState} {runs : List RunState} {over : Bool} where
  pub not_stuck_run : (b : ℕ) → IsKept n past states runs over → goes_on past b ≡ true → is_stuck past ≡ false
  unfolding is_stuck
  not_stuck_run b kept h =
      let p = and_split (is_active past b) (waits_in_vain past (waiting past b)) (sym (goes_on_is past b) ∙ h) in
      active_is past b (is_stuck past ≡ false)
      (λ c e a.
      running_is b (phase past c.0) (is_stuck past ≡ false)
      (λ r s q.
      one_false (λ d. is_still past (phase past d)) (comps past) c.0 (is_in_comps past c.0 (exists_if c.0 kept (kept.on_existing b c e)))
      (ap (is_still past) s ∙ (ap (λ m. waits_in_vain past (waiting past m)) q ∙ p.1)))
      a)
      (comp_of past b) refl p.0

  still_at : (i : ℕ) → IsKept n past states runs over → n ≤ i → ((b : ℕ) → b < i → goes_on past b ≡ false) → (c : ℕ) (p : Phase) → phase past c ≡ p → is_still past p ≡ true
  still_at i kept end none c (Phase.Running r) e =
      let on : comp_of past r.0 ≡ Some (record { 0 = c }) = kept.on_last c r (phase_running past c r e) in
      let a : is_active past r.0 ≡ true = active_if past r.0 (record { 0 = c }) on (ap (is_run_of r.0) e ∙ self_equal r.0) in
      by_test (nat_lt r.0 n) refl on a
    where
      by_test : (t : Bool) → nat_lt r.0 n ≡ t → comp_of past r.0 ≡ Some (record { 0 = c }) → is_active past r.0 ≡ true → waits_in_vain past (waiting past r.0) ≡ true
      by_test true k on a =
          let within : r.0 < i = grind (arith, nat_tests) in
          vain_if (is_active past r.0) (waits_in_vain past (waiting past r.0)) a (sym (goes_on_is past r.0) ∙ none r.0 within)
      by_test false k on a =
          let out : n ≤ r.0 = grind (arith, nat_tests) in
          absurd (none_some (comp_of past r.0) (record { 0 = c }) (kept.no_other_run r.0 out).0 on)
  still_at i kept end none c _ e = refl

  pub stuck_if_none : (i : ℕ) → IsKept n past states runs over → n ≤ i → ((b : ℕ) → b < i → goes_on past b ≡ false) → is_stuck past ≡ true
  unfolding is_stuck
  stuck_if_none i kept end none = all_true (λ c. is_still past (phase past c)) (comps past) (λ c. still_at i kept end none c (phase past c) refl)
