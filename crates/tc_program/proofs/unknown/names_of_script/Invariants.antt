use Rattle.std.proofs.Common.{length}
use Rattle.tc_program.proofs.unknown.names_of_script.Given as goal

abbrev pub decreases-loop-name : goal.decreases-loop-name
decreases-loop-name l = length l.campaign
