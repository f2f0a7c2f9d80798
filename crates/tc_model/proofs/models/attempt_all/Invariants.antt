use Rattle.std.proofs.Common.{◌≡◌, ◌++◌, length, map}
use Rattle.std.specs.Vec.Iter.{into_iter_items, into_iter_len}
use Rattle.tc_model.specs.declared.models.Attempt.{Attempt}
use Rattle.tc_model.proofs.Trying.{AreTriedTo}
use Rattle.tc_model.proofs.models.attempt_all.Given as goal

-- the blocks so far, and those that are left, are all; what came of those so far, and how many of them have a model
abbrev pub invariant-loop-block : goal.invariant-loop-block
invariant-loop-block l = record {
  next : goal.iterator-loop-block.can_next l.block-iterator;
  finite : goal.iterator-loop-block.is_finite l.block-iterator;
  left : into_iter_len l.block-iterator ≡ length (into_iter_items l.block-iterator);
  blocks : map (λ (t : Attempt). t.block) l.attempts.items ++ into_iter_items l.block-iterator ≡ l.fn.blocks.items;
  tried : AreTriedTo 0 l.attempts.items l.written;
}
