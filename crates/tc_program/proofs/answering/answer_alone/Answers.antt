use Rattle.std.proofs.Common.{Ok, false, inl, map, string_bytes, subst}
use Rattle.tc_command.specs.Prelude.{IsReading}
use Rattle.tc_answer.{specs.Prelude.held_streams, proofs.Lemmas.Giving.keeps_same}
use Rattle.tc_program.proofs.OwnCases.{not_begun, of_value, task_answered}
use Rattle.tc_program.proofs.answering.answer_alone.Goals as goal

pub returns-in-Ok-begin-clause-had : goal.returns-in-Ok-begin-clause-had
returns-in-Ok-begin-clause-had g c =
    let reads = subst (λ ws. IsReading false (map string_bytes ws) (Ok c.in-Ok-read_task.task)) c.as_slice.ensures.value c.in-Ok-read_task.ensures in
    of_value _ c.args.words c.in-Ok.words c.in-Ok.is
    (not_begun (map string_bytes c.in-Ok.words.items) c.in-Ok-read_task.task _ _ _
    (held_streams g.W.Write.contents c.args.writer.now c.begin.new.writer g.E.Write.contents c.args.errors.now c.refuse_words.new.errors) _ _ _ reads c.in-Ok-begin.ensures.asked
    (rw c.in-Ok-begin.ensures.unwritten (keeps_same (g.W.Write.contents c.args.writer.now))) (rw c.in-Ok-begin.ensures.untold at c.refuse_words.ensures))

pub returns-clause-had : goal.returns-clause-had
returns-clause-had g c =
    let reads = subst (λ ws. IsReading false (map string_bytes ws) (Ok c.in-Ok-read_task.task)) c.as_slice.ensures.value c.in-Ok-read_task.ensures in
    of_value _ c.args.words c.in-Ok.words c.in-Ok.is (inl (task_answered _ _ _ _ _ c.in-Ok-read_task.task reads c.in-Err-begin.ensures.done))
