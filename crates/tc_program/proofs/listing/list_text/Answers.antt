use Rattle.std.proofs.Common.{◌∙◌, [], ap}
use Rattle.tc_answer.specs.Prelude.{case_name}
use Rattle.tc_judge.proofs.Lemmas.{answer_of}
use Rattle.tc_program.{specs.Inside.list_text, proofs.OwnCases.same_lines}
use Rattle.tc_program.proofs.listing.list_text.Goals as goal

pub returns-clause-done : goal.returns-clause-done
returns-clause-done c =
    let are = c.in_ok-cases.ensures.are in
    let list_is = ap (list_text case_name) c.as_slice.ensures.value ∙ same_lines are.cases c.in_ok-cases.cases.items are.each in
    (are.cases, are.chosen, c.in_ok-listed.ensures ∙ ap (λ list. answer_of list [] 0) list_is)
