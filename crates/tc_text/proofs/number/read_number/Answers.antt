use Rattle.std.proofs.{Common.{◌∙◌, [], sym, arith}, lemmas.Grind.common_steps, lemmas.List.append-nil}
use Rattle.tc_text.proofs.Operands.{ends_nothing}
use Rattle.tc_text.proofs.number.read_number.Goals as goal

pub returns-in_err-number-clause-only : goal.returns-in_err-number-clause-only
returns-in_err-number-clause-only c n fits e = absurd (c.in_err-number.ensures.only n [] fits ends_nothing.0 (e ∙ sym (append-nil _)))

pub returns-else-is_empty-clause-only : goal.returns-else-is_empty-clause-only
returns-else-is_empty-clause-only c n fits e =
    let two = c.in_ok-number.ensures.only n [] fits ends_nothing.0 (e ∙ sym (append-nil _)) in
    absurd (grind (arith, common_steps, two.1))
