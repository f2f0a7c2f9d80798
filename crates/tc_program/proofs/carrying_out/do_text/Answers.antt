use Rattle.std.proofs.Common.{Err, subst, sym}
use Rattle.tc_answer.proofs.Lemmas.Giving.{keeps_same}
use Rattle.tc_program.specs.{Made.IsMade, Program.IsDoneBy}
use Rattle.tc_program.proofs.carrying_out.do_text.Goals as goal

pub returns-in-Ok-clause-done : goal.returns-in-Ok-clause-done
returns-in-Ok-clause-done g c = IsDoneBy.made c.in-Ok.answer (subst (IsMade c.args.task.now c.args.text.now) c.in-Ok.is c.made_text.ensures) c.give_answer.ensures

pub returns-in-Err-clause-done : goal.returns-in-Err-clause-done
returns-in-Err-clause-done g c =
    IsDoneBy.refused c.in-Err.fault (subst (IsMade c.args.task.now c.args.text.now) c.in-Err.is c.made_text.ensures)
    (keeps_same (g.W.Write.contents c.args.writer.now)) c.refuse_text.ensures

pub returns-in-Err-cases_to_run-clause-done : goal.returns-in-Err-cases_to_run-clause-done
returns-in-Err-cases_to_run-clause-done g c =
    IsDoneBy.refused c.in-Err-cases_to_run.fault (subst (λ task. IsMade task c.args.text.now (Err c.in-Err-cases_to_run.fault)) (sym c.in-Run.is) c.in-Err-cases_to_run.ensures.refused)
    (keeps_same (g.W.Write.contents c.args.writer.now)) c.refuse_text-in-Err-cases_to_run.ensures
