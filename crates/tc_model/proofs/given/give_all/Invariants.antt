use Rattle.std.proofs.Common.{take}
use Rattle.tc_model.specs.Inside.{AreAllGiven}
use Rattle.tc_model.proofs.given.give_all.Given as goal

abbrev pub invariant-loop-lack : goal.invariant-loop-lack
invariant-loop-lack l = AreAllGiven (take l.lack-index l.lacks) l.fn.given l.given
