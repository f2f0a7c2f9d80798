-- A component that is running is not excused.
use Rattle.std.proofs.Common.{ℕ, ◌≡◌, ◌<◌, ◌&&◌, ◌||◌, not, if◌then◌else◌, Bool, true, false, Option, Some, None, is_some, List, [], ◌∷◌, length, refl, ap, sym, ◌∙◌, arith}
use Rattle.tc_entry.specs.{declared.comp.Comp.Comp, declared.entry.Entry.Entry, declared.limits.TheConstants.COMPONENTS, Prelude.Run}
use Rattle.tc_rules.{specs.{Answers.answer, History.{comp_of, created, halts, is_alive_type, is_comp, is_kill_of, is_stop_of}, Inside.Kept.{IsKept, state_of}, Inside.Step.IsSettled, Phases.{is_excused, last_run, phase, start_in, was_halted, was_killed}, Status.is_running, declared.component_state.ComponentState.ComponentState, declared.run_state.RunState.RunState}, proofs.{Lemmas.Kept.components_kept, Lemmas.Sound.next, Lemmas.Steps.phase_by}}

not_excused_by : (start halt was out old : Bool) → (was ≡ false → old ≡ false) → (not start && (halt || was)) ≡ false → (not start && (if was then old else (halt && out))) ≡ false
not_excused_by true halt was out old f h = refl
not_excused_by false true was out old f h = absurd cc
not_excused_by false false true out old f h = absurd cc
not_excused_by false false false out old f h = refl

halt_and : (h x y : Bool) → (h && x && y) ≡ (h && (x && y))
halt_and true x y = refl
halt_and false x y = refl

-- a component that nothing halted is not excused
not_excused : (past : List Entry) (c : ℕ) → was_halted past c ≡ false → is_excused past c ≡ false
not_excused [] c h = refl
not_excused (e ∷ past) c h =
    rw halt_and
    (not_excused_by (is_some (start_in e c)) (halts (comp_of past e.caller.0) e c) (was_halted past c)
    ((is_stop_of e.op c || is_kill_of e.op c) && not (is_comp (comp_of past e.caller.0) c)) (is_excused past c) (not_excused past c) h)

not_halted_if : (k : Bool) (r : Option Run) (h a : Bool) → is_running (phase_by k r h a) ≡ true → h ≡ false
not_halted_if true r h a e = absurd cc
not_halted_if false None h a e = absurd cc
not_halted_if false (Some b) true true e = absurd cc
not_halted_if false (Some b) true false e = absurd cc
not_halted_if false (Some b) false a e = refl

and_false : (a b : Bool) → b ≡ false → (a && b) ≡ false
and_false true b h = h
and_false false b h = refl

pub running_not_excused : (past : List Entry) (c : ℕ) → is_running (state_of past c).phase ≡ true → (state_of past c).excused ≡ false
unfolding phase
running_not_excused past c h =
    and_false (is_some (last_run past c)) (is_excused past c)
    (not_excused past c (not_halted_if (was_killed past c) (last_run past c) (was_halted past c) (is_alive_type past c) h))

module _ {n : ℕ} {past : List Entry} {states : List ComponentState} {runs : List RunState} {over : Bool} where
  pub settled_kept : IsKept n past states runs over → IsSettled states
  settled_kept kept = record {
    not_excused = λ c d h r.
        let e = kept.each_state c d h in
        ap (λ s. s.excused) e ∙ running_not_excused past c (sym (ap (λ s. is_running s.phase) e) ∙ r);
  }

  -- a component that was made found room
  pub few_before : (e : Entry) (d : Comp) → IsKept n past states runs over → e.reply ≡ answer n past e.caller.0 e.op → created e.op e.reply ≡ Some d → length states < COMPONENTS
  few_before e d kept legal made = let f = next n past e d legal made in let size = components_kept kept in omega (arith, f.few)

pub ruleset settled_rules = (settled_kept, few_before)
