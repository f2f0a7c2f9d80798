-- A component that is not yet made, after one more entry.
use Rattle.std.proofs.Common.{ℕ, ◌≡◌, ◌&&◌, Bool, true, false, Option, None, List, ◌∷◌, refl, ap}
use Rattle.tc_entry.specs.{Prelude.{Run, worst, Verdict}, declared.entry.Entry.Entry, declared.phase.Phase.Phase}
use Rattle.tc_rules.{specs.{Inside.Words.is_alive_create, History.{comp_of, created, exists, is_alive_type, is_comp}, Inside.Counts.made_state, Inside.Kept.{blank, state_of}, Local.{local, verdicts_of}, Phases.{last_run, phase, start_in, was_halted, was_killed}}, proofs.Lemmas.Steps.phase_by}

not_killed_if : (k : Bool) (r : Option Run) (h a : Bool) → phase_by k r h a ≡ Phase.Inactive → k ≡ false
not_killed_if true r h a e = cc
not_killed_if false r h a e = refl

fresh_not_killed : (past : List Entry) (c : ℕ) → state_of past c ≡ blank → was_killed past c ≡ false
unfolding phase
fresh_not_killed past c e = not_killed_if (was_killed past c) (last_run past c) (was_halted past c) (is_alive_type past c) (ap (λ s. s.phase) e)

pub fresh_step : (past : List Entry) (e : Entry) (c : ℕ) → exists past c ≡ false → start_in e c ≡ None → is_comp (comp_of past e.caller.0) c ≡ false →
    state_of past c ≡ blank → state_of (e ∷ past) c ≡ made_state (is_comp (created e.op e.reply) c && is_alive_create e.op)
unfolding phase local
fresh_step past e c ex st on blank' =
    let k : was_killed past c ≡ false = fresh_not_killed past c blank' in
    let r : last_run past c ≡ None = ap (λ s. s.last) blank' in
    let l : worst (verdicts_of past c) ≡ Verdict.None = ap (λ s. s.local) blank' in
    rw (ex, st, on, k, r, l)
