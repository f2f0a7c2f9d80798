use Rattle.tc_report.proofs.Writing.{prefix_behind, when_err}
use Rattle.tc_report.proofs.output.write_both.Goals as goal

pub returns-in_err-write_whole-2-clause-part : goal.returns-in_err-write_whole-2-clause-part
returns-in_err-write_whole-2-clause-part g c = when_err c.from_residual-in_err-write_whole-2.result (prefix_behind _ _ _ c.args.first.now c.args.second.now c.in_ok-write_whole.ensures.all c.in_err-write_whole-2.ensures.part)
