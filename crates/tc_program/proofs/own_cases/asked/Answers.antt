use Rattle.std.proofs.lemmas.Result.{IfErr-weaker}
use Rattle.tc_answer.proofs.Lemmas.Giving.{both_ok}
use Rattle.tc_program.proofs.OwnCases.{chosen_made, unchosen_made}
use Rattle.tc_program.proofs.own_cases.asked.Goals as goal

pub returns-in-Ok-clause-chosen : goal.returns-in-Ok-clause-chosen
returns-in-Ok-clause-chosen g c =
    both_ok _ _ _ c.choose_cases.result
    (λ v have are. chosen_made c.args.cases c.in-Ok.cases c.args.choice.now v.items c.in-Ok.is have are)
    c.choose_cases.ensures.named c.choose_cases.ensures.chosen

pub returns-in-Ok-clause-refused : goal.returns-in-Ok-clause-refused
returns-in-Ok-clause-refused g c =
    IfErr-weaker c.choose_cases.result _ _
    (λ fault no. unchosen_made c.args.cases c.in-Ok.cases c.args.choice.now fault c.in-Ok.is no)
    c.choose_cases.ensures.refused
