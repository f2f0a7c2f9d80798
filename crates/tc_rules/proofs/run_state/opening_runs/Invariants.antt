use Rattle.std.proofs.Common.{◌≡◌, ◌<◌, ℕ, [], length, get_or}
use Rattle.tc_rules.specs.{Inside.Kept.run_of, declared.run_state.RunState.RunState}
use Rattle.tc_rules.proofs.run_state.opening_runs.Given as goal

abbrev pub invariant-loop-b : goal.invariant-loop-b
invariant-loop-b l =
    (length l.runs.items ≡ l.b) × ((k : ℕ) (d : RunState) → k < l.b → get_or l.runs.items k d ≡ run_of [] k)
