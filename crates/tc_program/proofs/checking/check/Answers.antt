use Rattle.std.proofs.Common.{◌∙◌, Ok, Err, sym}
use Rattle.tc_answer.proofs.Lemmas.Giving.{keeps_same}
use Rattle.tc_command.specs.declared.task.Task.TheVariants.{Check}
use Rattle.tc_program.proofs.Doing.{checked_does, made_for, unchecked}
use Rattle.tc_program.proofs.checking.check.Goals as goal

pub returns-in-Ok : goal.returns-in-Ok
returns-in-Ok g c choice explains all =
    let input = g.R.Read.remaining c.args.reader.now in
    checked_does choice explains input (g.W.Write.contents c.args.writer.now) (g.W.Write.contents c.write_answer.new.writer) c.in-Ok.answer c.write_answer.result
    (made_for c.all.result choice explains input (Ok c.in-Ok.answer) (c.all.ensures.only ∙ sym all.0) (c.all.ensures.failed ∙ sym all.1) (c.all.ensures.last ∙ sym all.2) (c.all.ensures.long ∙ sym all.3)
    (rw c.in-Ok.is at c.check_input.ensures))
    (λ text made. c.write_answer.ensures (Check choice explains) text made)

pub returns : goal.returns
returns g c choice explains all =
    let input = g.R.Read.remaining c.args.reader.now in
    let held = g.W.Write.contents c.args.writer.now in
    unchecked choice explains input held held c.in-Err.fault
    (made_for c.all.result choice explains input (Err c.in-Err.fault) (c.all.ensures.only ∙ sym all.0) (c.all.ensures.failed ∙ sym all.1) (c.all.ensures.last ∙ sym all.2) (c.all.ensures.long ∙ sym all.3)
    (rw c.in-Err.is at c.check_input.ensures)) (keeps_same held)
