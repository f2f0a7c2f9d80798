use Rattle.std.proofs.Common.{length}
use Rattle.tc_blocks.proofs.laws.+comps_fit.Given as goal

abbrev pub decreases-comps_fit : goal.decreases-comps_fit
decreases-comps_fit l = length l.comps.now
