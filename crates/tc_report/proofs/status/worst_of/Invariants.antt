use Rattle.std.proofs.Common.{◌≡◌, take}
use Rattle.tc_report.specs.Status.{worst_of}
use Rattle.tc_report.proofs.status.worst_of.Given as goal

abbrev pub invariant-loop-case : goal.invariant-loop-case
invariant-loop-case l = l.worst ≡ worst_of (take l.case-index l.cases)
