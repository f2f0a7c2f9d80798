use Rattle.std.{proofs.Common.{◌≡◌, ◌++◌}, specs.List.{flat_map, range_with_len}}
use Rattle.tc_explored.specs.Details.{local_words}
use Rattle.tc_explored.proofs.details.append_locals.Given as goal

abbrev pub invariant-loop-comp : goal.invariant-loop-comp
invariant-loop-comp l = l.out.items ≡ l.fn.out.items ++ flat_map (local_words l.names l.history) (range_with_len 0 l.comp)
