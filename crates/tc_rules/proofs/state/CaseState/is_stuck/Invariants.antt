use Rattle.std.proofs.Common.{◌≡◌, ◌<◌, ℕ, false, List}
use Rattle.tc_entry.specs.declared.entry.Entry.{Entry}
use Rattle.tc_rules.specs.{Inside.States.goes_on, Standing.StandsFor}
use Rattle.tc_rules.proofs.state.CaseState.is_stuck.Given as goal

abbrev pub invariant-loop-b : goal.invariant-loop-b
invariant-loop-b l = (past : List Entry) → StandsFor l.self past → (k : ℕ) → k < l.b → goes_on past k ≡ false
