use Rattle.std.proofs.Common.{length}
use Rattle.tc_text.proofs.writing.+append_args.Given as goal

abbrev pub decreases-append_args : goal.decreases-append_args
decreases-append_args l = length l.args.now
