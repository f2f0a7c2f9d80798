use Rattle.std.{proofs.Common.{◌≡◌, ◌++◌}, specs.List.{flat_map, range_with_len}}
use Rattle.tc_explored.specs.Race.{parting}
use Rattle.tc_explored.proofs.parting.append_partings.Given as goal

abbrev pub invariant-loop-run : goal.invariant-loop-run
invariant-loop-run l = l.out.items ≡ l.fn.out.items ++ flat_map (parting l.names l.left l.right) (range_with_len 0 l.run)
