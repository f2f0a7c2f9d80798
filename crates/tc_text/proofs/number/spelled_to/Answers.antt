use Rattle.std.proofs.Common.{◌∙◌}
use Rattle.tc_text.proofs.Lemmas.Digits.{all_digits, that_number, never_wrong, spelled}
use Rattle.tc_text.proofs.number.spelled_to.Goals as goal

pub returns-then-is_spelling-clause-spelled : goal.returns-then-is_spelling-clause-spelled
returns-then-is_spelling-clause-spelled c =
    rw c.split_at.ensures.back
    (spelled c.args.text.now c.args.end c.args.number c.requires.counted (rw c.split_at.ensures.front at (c.is_spelling.ensures.some c.if-is_spelling.true)) (rw c.split_at.ensures.front at (c.is_spelling.ensures.short c.if-is_spelling.true)))

pub returns-then-is_spelling-clause-only : goal.returns-then-is_spelling-clause-only
returns-then-is_spelling-clause-only c n rest fits ends e = rw c.split_at.ensures.back (that_number c.args.text.now c.args.end c.args.number n rest c.requires.counted c.requires.ended fits ends e)

pub returns-else-is_spelling-clause-only : goal.returns-else-is_spelling-clause-only
returns-else-is_spelling-clause-only c n rest fits ends e =
    let all = all_digits c.args.text.now c.args.end c.args.number n rest c.requires.counted c.requires.ended fits ends e in
    never_wrong n c.split_at.result.0.now fits (c.split_at.ensures.front ∙ all.0) (c.is_spelling.ensures.wrong c.if-is_spelling.false)
