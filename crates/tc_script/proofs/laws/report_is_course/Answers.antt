use Rattle.tc_script.proofs.Lemmas.Reports.{report_is_course}
use Rattle.tc_script.proofs.laws.report_is_course.Goals as goal

pub returns : goal.returns
returns c = report_is_course
