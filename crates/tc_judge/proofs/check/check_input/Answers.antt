use Rattle.std.proofs.Common.{inl}
use Rattle.tc_judge.proofs.check.check_input.Goals as goal

pub returns : goal.returns
returns g c = let was = c.in_ok-blocks.ensures.judged in inl (was.0, was.1, was.2, c.checked.ensures was.0 (rw c.as_slice.ensures.value was.3))
