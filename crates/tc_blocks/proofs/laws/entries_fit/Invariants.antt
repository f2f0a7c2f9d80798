use Rattle.std.proofs.Common.{length}
use Rattle.tc_blocks.specs.Inside.{AreEntries}
use Rattle.tc_blocks.proofs.laws.entries_fit.Given as goal

-- if those that are left fit, all fit
abbrev pub invariant-loop-entry : goal.invariant-loop-entry
invariant-loop-entry l = AreEntries 2 l.rest → AreEntries 2 l.entries

abbrev pub decreases-loop-entry : goal.decreases-loop-entry
decreases-loop-entry l = length l.rest
