use Rattle.std.proofs.Common.{◌≡◌, take, reverse}
use Rattle.tc_rules.specs.History.{comp_of}
use Rattle.tc_rules.proofs.deciding.component_of.Given as goal

abbrev pub invariant-loop-entry : goal.invariant-loop-entry
invariant-loop-entry l = l.comp ≡ comp_of (reverse (take l.entry-index l.history)) l.run.0
