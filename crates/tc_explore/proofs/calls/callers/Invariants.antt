use Rattle.std.proofs.Common.{◌≡◌, map, take}
use Rattle.tc_rules.specs.Prelude.{Entry}
use Rattle.tc_explore.proofs.calls.callers.Given as goal

abbrev pub invariant-loop-entry : goal.invariant-loop-entry
invariant-loop-entry l = l.calls.items ≡ map (λ (e : Entry). e.caller) (take l.entry-index l.history)
