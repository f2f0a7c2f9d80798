use Rattle.std.proofs.Common.{◌∙◌, [], ap}
use Rattle.tc_answer.specs.Prelude.{case_name}
use Rattle.tc_judge.proofs.Lemmas.{answer_of}
use Rattle.tc_program.specs.Inside.{list_text}
use Rattle.tc_program.proofs.own_cases.list_of_asked.Goals as goal

pub returns-clause-done : goal.returns-clause-done
returns-clause-done g c =
    (c.in_ok-cases.cases.items, c.in_ok-cases.ensures.chosen, c.in_ok-listed.ensures ∙ ap (λ ks. answer_of (list_text case_name ks) [] 0) c.as_slice.ensures.value)
