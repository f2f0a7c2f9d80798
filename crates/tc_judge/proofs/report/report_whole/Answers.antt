use Rattle.std.proofs.{Common.{◌∙◌, ap, subst, sym}, lemmas.Result.IfOk-weaker}
use Rattle.tc_judge.{specs.Inside.{IsTextFor, IsWholeOfBlock, judged_text}, proofs.Judging.{chosen_reports, other_text, text_alike}}
use Rattle.tc_judge.proofs.report.report_whole.Goals as goal

pub returns-in-Text : goal.returns-in-Text
returns-in-Text c =
    IfOk-weaker c.report_blocks.result _ _
    (λ a is given blocks chosen fits are. is given blocks chosen
    (λ legal. subst (λ f. IsTextFor f given chosen c.as_slice-text.result.now) (sym c.in-Text.is)
    (c.as_slice-text.ensures.value ∙ (c.in_ok-report.ensures ∙ (ap judged_text c.as_slice.ensures.value ∙ text_alike chosen _ are.each (are.legal legal)))))
    (chosen_reports IsWholeOfBlock (λ w. w.summary) (λ b w is right. is.summary right) blocks chosen _ _ are))
    c.report_blocks.ensures

pub returns : goal.returns
returns c =
    IfOk-weaker c.report_blocks-2.result _ _
    (λ a is given blocks chosen fits are. is given blocks chosen
    (λ legal. subst (λ t. IsTextFor c.args.form.now given chosen t) (sym (fits legal)) (other_text c.args.form.now given chosen c.in_default.not-Text))
    (chosen_reports IsWholeOfBlock (λ w. w.summary) (λ b w is right. is.summary right) blocks chosen _ _ are))
    c.report_blocks-2.ensures
