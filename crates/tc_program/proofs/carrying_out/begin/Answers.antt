use Rattle.std.proofs.{Common.{rules, ◌≡◌, Ok, Err, inl, inr, subst, sym}, lemmas.Result.{IfErr-weaker, IfOk-weaker}}
use Rattle.tc_answer.{proofs.Lemmas.Giving.keeps_same, specs.{Prelude.held_streams, Inside.AreReadyAs}}
use Rattle.tc_blocks.specs.Prelude.{IsInLimit}
use Rattle.tc_judge.specs.Prelude.{AreToRun, IsUnreadIn}
use Rattle.tc_program.{specs.{Limits.limit_of, Program.{IsCarriedOut, IsDone}}, proofs.Doing.{carried_out, parts_given, parts_refused, unread_whole}}
use Rattle.tc_program.proofs.carrying_out.begin.Goals as goal

pub returns-in-Serve-clause-done : goal.returns-in-Serve-clause-done
returns-in-Serve-clause-done g c =
    subst (λ task. IsCarriedOut task (g.I.Read.remaining c.args.reader.now)
    (held_streams g.W.Write.contents c.args.writer.now c.serve_input.new.writer g.E.Write.contents c.args.errors.now c.serve_input.new.errors) c.serve_input.result)
    (sym c.in-Serve.is) c.serve_input.ensures

pub returns-in-Some-Ok-clause-done : goal.returns-in-Some-Ok-clause-done
returns-in-Some-Ok-clause-done g c =
    let is : c.in-Some-Ok.field-0 ≡ Ok c.in-Some-Ok.answer = search rules in
    parts_given c.args.task.now (g.I.Read.remaining c.args.reader.now) c.in-Some-Ok.field-0 c.in-Some-Ok.answer
    (held_streams g.W.Write.contents c.args.writer.now c.give_answer.new.writer g.E.Write.contents c.args.errors.now c.give_answer.new.errors) c.give_answer.result
    (rw c.in-Some-Ok.is at c.made_in_parts.ensures) is c.give_answer.ensures

pub returns-in-Some-Err-clause-done : goal.returns-in-Some-Err-clause-done
returns-in-Some-Err-clause-done g c =
    let is : c.in-Some-Err.field-0 ≡ Err c.in-Some-Err.fault = search rules in
    parts_refused c.args.task.now (g.I.Read.remaining c.args.reader.now) c.in-Some-Err.field-0 c.in-Some-Err.fault
    (held_streams g.W.Write.contents c.args.writer.now c.args.writer.now g.E.Write.contents c.args.errors.now c.refuse.new.errors) c.refuse.result
    (rw c.in-Some-Err.is at c.made_in_parts.ensures) is (keeps_same (g.W.Write.contents c.args.writer.now)) c.refuse.ensures

pub returns-in-Ok-clause-done : goal.returns-in-Ok-clause-done
returns-in-Ok-clause-done g c =
    let task = c.args.task.now in
    let whole = rw c.in-None.is at c.made_in_parts.ensures in
    let s = held_streams g.W.Write.contents c.args.writer.now c.do_text.new.writer g.E.Write.contents c.args.errors.now c.do_text.new.errors in
    let fits : IsInLimit (limit_of task) c.in-Ok.text.items = rw (c.text_limit.ensures whole.1) c.in-Ok.ensures.fits in
    IfErr-weaker c.do_text.result _ _
    (λ outcome done. carried_out task _ s outcome c.in_default.not-Serve
    (inl (c.in-Ok.text.items, fits, rw whole.0 at c.in-Ok.ensures.all, subst (λ text. IsDone task text s outcome) c.as_slice.ensures.value done)))
    c.do_text.ensures.done

pub returns-in-Ok-clause-asked : goal.returns-in-Ok-clause-asked
returns-in-Ok-clause-asked g c =
    let whole = rw c.in-None.is at c.made_in_parts.ensures in
    let fits : IsInLimit (limit_of c.args.task.now) c.in-Ok.text.items = rw (c.text_limit.ensures whole.1) c.in-Ok.ensures.fits in
    IfOk-weaker c.do_text.result _ _
    (λ r asked. (asked.0, (c.in-Ok.text.items, fits, rw whole.0 at c.in-Ok.ensures.all, subst (λ text. AreReadyAs (AreToRun r.0.now.choice text) r.1.items) c.as_slice.ensures.value asked.1)))
    c.do_text.ensures.asked

pub returns-in-Err-clause-done : goal.returns-in-Err-clause-done
returns-in-Err-clause-done g c =
    let input = g.I.Read.remaining c.args.reader.now in
    let whole = rw c.in-None.is at c.made_in_parts.ensures in
    let unread : IsUnreadIn (limit_of c.args.task.now) input c.in-Err.fault = rw (c.text_limit.ensures whole.1) (unread_whole _ input c.in-Err.fault (rw whole.0 at c.in-Err.ensures.unread)) in
    carried_out c.args.task.now _ _ _ c.in_default.not-Serve (inr (c.in-Err.fault, unread, keeps_same (g.W.Write.contents c.args.writer.now), c.refuse-in-Err.ensures))
