use Rattle.std.proofs.Common.{◌≡◌, take}
use Rattle.tc_verdict.specs.Verdict as order
use Rattle.tc_verdict.proofs.verdict.worst.Given as goal

abbrev pub invariant-loop-verdict : goal.invariant-loop-verdict
invariant-loop-verdict l = l.worst ≡ order.worst (take l.verdict-index l.all)
