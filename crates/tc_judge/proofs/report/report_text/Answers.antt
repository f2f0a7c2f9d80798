use Rattle.std.proofs.Common.{refl}
use Rattle.tc_judge.{specs.Inside.IsWholeOfBlock, proofs.Judging.{pick_refused, pick_reported}}
use Rattle.tc_judge.proofs.report.report_text.Goals as goal

pub returns-in_err-chosen-in-Text : goal.returns-in_err-chosen-in-Text
returns-in_err-chosen-in-Text c =
    let judged = c.in_ok-blocks-in-Text in
    let refused = c.from_residual-in_err-chosen-in-Text in
    pick_refused IsWholeOfBlock c.args.form.now c.args.choice.now c.args.text.now judged.blocks.items refused.result c.in_err-chosen-in-Text.field-0.0 refused.ensures.1 judged.ensures.judged c.in_err-chosen-in-Text.ensures.lacking

pub returns-in_ok-answer-in-Text : goal.returns-in_ok-answer-in-Text
returns-in_ok-answer-in-Text c =
    let judged = c.in_ok-blocks-in-Text in
    let picked = c.in_ok-chosen-in-Text in
    pick_reported IsWholeOfBlock c.args.form.now c.args.choice.now c.args.text.now judged.blocks.items picked.chosen.items picked.illegal c.new-notes.result.items c.in_ok-answer-in-Text.answer
    judged.ensures.judged picked.ensures.picked c.new-notes.ensures.items (λ bs cs so. c.in_ok-answer-in-Text.ensures c.args.text.now bs cs (λ legal. refl) so)
