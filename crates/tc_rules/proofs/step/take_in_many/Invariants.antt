use Rattle.std.proofs.Common.{◌≡◌, ◌<◌, ◌≤◌, ℕ, length, get_or}
use Rattle.tc_rules.specs.{Inside.Step.next_state, declared.component_state.ComponentState.ComponentState}
use Rattle.tc_rules.proofs.step.take_in_many.Given as goal

abbrev pub invariant-loop-i : goal.invariant-loop-i
invariant-loop-i l =
    (length l.states ≡ length l.initial.states)
    × ((c : ℕ) (d : ComponentState) → c < l.i → get_or l.states c d ≡ next_state l.own l.entry c (get_or l.initial.states c d))
    × ((c : ℕ) (d : ComponentState) → l.i ≤ c → get_or l.states c d ≡ get_or l.initial.states c d)
