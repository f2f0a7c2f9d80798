use Rattle.std.proofs.Common.{rules, inl, inr, refl}
use Rattle.tc_answer.proofs.Lemmas.Giving.{some_text}
use Rattle.tc_program.proofs.answering.answer_no_task.Goals as goal

pub returns-then-use_stderr : goal.returns-then-use_stderr
returns-then-use_stderr g c =
    let some = some_text c.mistake_text.result in
    record { shown = λ kind. elim kind [ inl help ↦ search rules | inr version ↦ search rules ]; mistake = λ mistake. ((some.0, c.refuse_with.ensures some.0 some.1), refl); memory = search rules }
