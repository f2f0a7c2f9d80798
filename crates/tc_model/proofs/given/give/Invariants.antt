use Rattle.std.proofs.Common.{take}
use Rattle.tc_model.specs.Inside.{AreGiven}
use Rattle.tc_model.proofs.given.give.Given as goal

abbrev pub invariant-loop-starter : goal.invariant-loop-starter
invariant-loop-starter l = AreGiven l.comp (take l.starter-index l.runs) l.fn.given l.given
