use Rattle.std.{proofs.Common.{◌≡◌, [], fold, length}, specs.Vec.Iter.{into_iter_items, into_iter_len}}
use Rattle.tc_judge.proofs.Counting.{takes_in}
use Rattle.tc_judge.proofs.judged.counted.Given as goal

-- with the blocks that are left taken in, the map has what it has of all
abbrev pub invariant-loop-block : goal.invariant-loop-block
invariant-loop-block g l =
    (goal.iterator-loop-block g).can_next l.block-iterator
    × (goal.iterator-loop-block g).is_finite l.block-iterator
    × (into_iter_len l.block-iterator ≡ length (into_iter_items l.block-iterator))
    × (fold (takes_in g.B.Named.name_in) l.last.entries (into_iter_items l.block-iterator) ≡ fold (takes_in g.B.Named.name_in) [] l.fn.blocks.items)
