use Rattle.std.proofs.Common.{◌≡◌, ◌++◌, length, map}
use Rattle.tc_report.specs.{InWords.component_in, SummaryText.listed}
use Rattle.tc_report.proofs.summary_text.append_listed.Given as goal

-- with those that are left all are appended
abbrev pub invariant-loop-comp : goal.invariant-loop-comp
invariant-loop-comp l = l.out.items ++ listed l.room (map (component_in l.names) l.rest) ≡ l.fn.out.items ++ listed l.fn.room (map (component_in l.names) l.members)

abbrev pub decreases-loop-comp : goal.decreases-loop-comp
decreases-loop-comp l = length l.rest
