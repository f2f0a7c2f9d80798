use Rattle.std.{proofs.Common.{◌≡◌, ◌++◌, take}, specs.List.flat_map}
use Rattle.tc_explored.specs.Details.{witness_text}
use Rattle.tc_explored.proofs.details.append_each.Given as goal

abbrev pub invariant-loop-witness : goal.invariant-loop-witness
invariant-loop-witness l = l.out.items ≡ l.fn.out.items ++ flat_map (witness_text l.names l.behaviours) (take l.witness-index l.found)
