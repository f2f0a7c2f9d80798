use Rattle.std.{proofs.Common.{◌≡◌, ◌++◌, take}, specs.List.flat_map}
use Rattle.tc_explored.specs.Race.{race}
use Rattle.tc_explored.proofs.race.append_races.Given as goal

abbrev pub invariant-loop-other : goal.invariant-loop-other
invariant-loop-other l = l.out.items ≡ l.fn.out.items ++ flat_map (race l.names l.behaviours l.witness) (take l.other-index l.others)
