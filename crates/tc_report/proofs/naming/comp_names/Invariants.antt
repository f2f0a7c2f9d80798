use Rattle.std.{proofs.Common.{◌≡◌, ◌∷◌, None, take}, specs.List.flat_map}
use Rattle.tc_report.specs.Inside.{made_name}
use Rattle.tc_report.proofs.naming.comp_names.Given as goal

abbrev pub invariant-loop-entry : goal.invariant-loop-entry
invariant-loop-entry l = l.names.items ≡ None ∷ flat_map made_name (take l.entry-index l.history)
