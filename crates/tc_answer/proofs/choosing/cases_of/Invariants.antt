use Rattle.std.proofs.Common.{length}
use Rattle.tc_exec.specs.Inside.{AreDone}
use Rattle.tc_answer.specs.Inside.{IsCaseOf}
use Rattle.tc_answer.proofs.choosing.cases_of.Given as goal

abbrev pub invariant-loop-name : goal.invariant-loop-name
invariant-loop-name l = AreDone IsCaseOf l.fn.campaign l.campaign l.cases.items

abbrev pub decreases-loop-name : goal.decreases-loop-name
decreases-loop-name l = length l.campaign
