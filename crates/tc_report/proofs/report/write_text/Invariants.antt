use Rattle.std.{proofs.Common.{◌≡◌, take}, specs.List.flat_map}
use Rattle.tc_report.specs.Report.{case_text}
use Rattle.tc_report.proofs.report.write_text.Given as goal

abbrev pub invariant-loop-case : goal.invariant-loop-case
invariant-loop-case g l = l.text.items ≡ flat_map case_text (take l.case-index l.results.finished)
