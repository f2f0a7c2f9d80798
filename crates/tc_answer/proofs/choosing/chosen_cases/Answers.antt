use Rattle.std.proofs.lemmas.Result.{IfErr-weaker}
use Rattle.tc_answer.proofs.Lemmas.{Chosen.{ready, unready}, Giving.both_ok}
use Rattle.tc_answer.proofs.choosing.chosen_cases.Goals as goal

pub returns-clause-chosen : goal.returns-clause-chosen
returns-clause-chosen c =
    both_ok _ _ _ c.choose_cases.result
    (λ v have are. ready c.args.choice.now c.args.text.now c.in_ok-campaign.campaign c.in_ok-cases.cases.items v.items
    c.in_ok-campaign.ensures.spelled c.in_ok-campaign.ensures.distinct c.in_ok-campaign.ensures.lawful c.in_ok-cases.ensures have are)
    c.choose_cases.ensures.named c.choose_cases.ensures.chosen

pub returns-clause-refused : goal.returns-clause-refused
returns-clause-refused c =
    IfErr-weaker c.choose_cases.result _ _
    (λ fault no. unready c.args.choice.now c.args.text.now c.in_ok-campaign.campaign c.in_ok-cases.cases.items fault c.in_ok-campaign.ensures.spelled c.in_ok-cases.ensures no)
    c.choose_cases.ensures.refused
