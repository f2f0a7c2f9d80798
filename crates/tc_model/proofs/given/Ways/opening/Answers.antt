use Rattle.std.proofs.Common.{arith}
use Rattle.tc_model.proofs.Starting.{opening_ways}
use Rattle.tc_model.proofs.given.Ways.opening.Goals as goal

pub returns : goal.returns
returns c = opening_ways c.args.behaviours _ (omega arith) (omega arith) c.loop.invariant.starts c.loop.invariant.given
