use Rattle.std.proofs.{Common.{◌∙◌, ◌++◌, map, ap, subst}, lemmas.Result.IfOk-weaker}
use Rattle.tc_report.specs.{Prelude.bare_summary, declared.results.CaseEnd.TheVariants.Missing}
use Rattle.tc_judge.{specs.{Inside.{Reports, illegal_line, summary_by}, Report.{AnswersCases, IsReport}}, proofs.Judging.legal_report}
use Rattle.tc_judge.proofs.report.report_blocks.Goals as goal

pub returns-in_ok-add_missing-in-None : goal.returns-in_ok-add_missing-in-None
returns-in_ok-add_missing-in-None g c =
    let form = c.args.form.now in
    let text = c.args.text.now in
    let notes = c.args.notes.items in
    let ss = map (summary_by g.K.Summarizes.summary) c.args.chosen.items in
    let all = c.as_slice.ensures.value ∙ (c.in_ok-add_missing-in-None.ensures ∙ ap (λ l. l ++ map (bare_summary Missing) c.args.missing.now) c.in_ok-cases-in-None.ensures) in
    IfOk-weaker c.legal_answer.result _ _
    (λ a is given blocks chosen fits made. legal_report form given text ss c.args.missing.now notes a blocks chosen fits
    (λ fit. subst (λ l. AnswersCases form given chosen notes l a) all (is given chosen fit))
    (subst (Reports blocks chosen ss) c.in-None.is made))
    c.legal_answer.ensures

pub returns-in-Some : goal.returns-in-Some
returns-in-Some g c =
    IfOk-weaker c.illegal_answer.result _ _
    (λ a is given blocks chosen fits made. IsReport.illegal (illegal_line c.in-Some.judgement)
    (subst (Reports blocks chosen (map (summary_by g.K.Summarizes.summary) c.args.chosen.items)) c.in-Some.is made).0 is)
    c.illegal_answer.ensures
