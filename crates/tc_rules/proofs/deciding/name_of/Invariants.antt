use Rattle.std.{proofs.Common.{◌≡◌, take, reverse}, specs.Prelude.option_copied}
use Rattle.tc_rules.specs.Deciding.{component_name}
use Rattle.tc_rules.proofs.deciding.name_of.Given as goal

abbrev pub invariant-loop-entry : goal.invariant-loop-entry
invariant-loop-entry l = option_copied l.name ≡ component_name (reverse (take l.entry-index l.history)) l.comp.0
