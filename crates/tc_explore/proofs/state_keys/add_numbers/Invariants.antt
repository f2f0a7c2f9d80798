use Rattle.std.proofs.Common.{◌≡◌, ◌++◌, map, take}
use Rattle.tc_explore.specs.Inside.Twins.{number_of}
use Rattle.tc_explore.proofs.state_keys.add_numbers.Given as goal

abbrev pub invariant-loop-comp : goal.invariant-loop-comp
invariant-loop-comp l = l.key.items ≡ l.fn.key.items ++ map number_of (take l.comp-index l.comps)
