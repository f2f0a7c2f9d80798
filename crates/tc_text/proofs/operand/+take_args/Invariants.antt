use Rattle.std.proofs.Common.{length}
use Rattle.tc_text.proofs.operand.+take_args.Given as goal

abbrev pub decreases-take_args : goal.decreases-take_args
decreases-take_args l = length l.text.now
