use Rattle.tc_judge.{specs.Inside.IsSummaryOf, proofs.Judging.{chosen_reports, pick_refused, pick_reported}}
use Rattle.tc_judge.proofs.report.reported.Goals as goal

pub returns-in_err-chosen : goal.returns-in_err-chosen
returns-in_err-chosen c given fits are =
    pick_refused IsSummaryOf c.args.form.now c.args.choice.now given c.args.blocks.items c.from_residual.result c.in_err-chosen.field-0.0 c.from_residual.ensures.1 are c.in_err-chosen.ensures.lacking

pub returns : goal.returns
returns c given fits are =
    pick_reported IsSummaryOf c.args.form.now c.args.choice.now given c.args.blocks.items c.in_ok-chosen.chosen.items c.in_ok-chosen.illegal _ c.in_ok-answer.answer are c.in_ok-chosen.ensures.picked c.new.ensures.items
    (λ bs cs so. c.in_ok-answer.ensures given bs cs (λ legal. fits cs) (chosen_reports IsSummaryOf (λ s. s) (λ b s is right. is right) bs cs _ _ so))
