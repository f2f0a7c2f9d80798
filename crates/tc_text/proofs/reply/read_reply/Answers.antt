use Rattle.std.proofs.{Common.{◌∙◌, [], sym, arith, rules}, lemmas.Grind.common_steps, lemmas.List.append-nil}
use Rattle.tc_text.proofs.Operands.{ends_nothing}
use Rattle.tc_text.proofs.reply.read_reply.Goals as goal

pub returns-in_err-reply-clause-only : goal.returns-in_err-reply-clause-only
returns-in_err-reply-clause-only c r fits e = absurd (c.in_err-reply.ensures.only r [] fits ends_nothing (e ∙ sym (append-nil _)))

pub returns-else-is_empty-clause-only : goal.returns-else-is_empty-clause-only
returns-else-is_empty-clause-only c r fits e =
    let two = c.in_ok-reply.ensures.only r [] fits ends_nothing (e ∙ sym (append-nil _)) in
    absurd (grind (arith, common_steps, two.1))

pub returns-else-is_empty-clause-spelled : goal.returns-else-is_empty-clause-spelled
returns-else-is_empty-clause-spelled c = search rules
