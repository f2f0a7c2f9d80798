use Rattle.std.{proofs.Common.{◌≡◌, ◌++◌, length}, specs.Vec.Iter.{into_iter_items, into_iter_len}}
use Rattle.tc_answer.specs.Choosing.{placed_in_shard}
use Rattle.tc_answer.proofs.choosing.sharded.Given as goal

-- what was taken so far, and what will be taken of the rest, are the shard
abbrev pub invariant-loop-case : goal.invariant-loop-case
invariant-loop-case g l =
    (goal.iterator-loop-case g).can_next l.case-iterator
    × (goal.iterator-loop-case g).is_finite l.case-iterator
    × (into_iter_len l.case-iterator ≡ length (into_iter_items l.case-iterator))
    × (l.taken.items ++ placed_in_shard l.shard l.place (into_iter_items l.case-iterator) ≡ placed_in_shard l.shard 0 l.fn.cases.items)
