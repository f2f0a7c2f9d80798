use Rattle.std.{proofs.Common.{◌≡◌, ◌++◌, filter, take}, specs.List.flat_map}
use Rattle.tc_report.specs.{Inside.has_failed, SummaryText.{counts_text, shown_case}}
use Rattle.tc_report.proofs.summary_text.summary_report.Given as goal

abbrev pub invariant-loop-case : goal.invariant-loop-case
invariant-loop-case l = l.out.items ≡ counts_text l.cases ++ flat_map shown_case (filter has_failed (take l.case-index l.cases))
