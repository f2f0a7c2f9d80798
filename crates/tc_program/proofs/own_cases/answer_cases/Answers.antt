use Rattle.std.proofs.Common.{Err, Ok, map, string_bytes, subst}
use Rattle.tc_command.specs.Prelude.{IsCasesReading}
use Rattle.tc_program.proofs.OwnCases.{of_cases, of_value, refusal_answered, task_answered}
use Rattle.tc_program.proofs.own_cases.answer_cases.Goals as goal

pub do_task-requires-clause-of_cases : goal.do_task-requires-clause-of_cases
do_task-requires-clause-of_cases g c κs within =
    of_cases (map string_bytes c.as_slice.result.now) c.in-Ok-read_cases_task.task c.in-Ok-read_cases_task.ensures

pub returns-in-Ok-read_cases_task-clause-had : goal.returns-in-Ok-read_cases_task-clause-had
returns-in-Ok-read_cases_task-clause-had g c =
    of_value _ c.args.words c.in-Ok.words c.in-Ok.is
    (task_answered _ _ _ _ _ c.in-Ok-read_cases_task.task
    (subst (λ ws. IsCasesReading (map string_bytes ws) (Ok c.in-Ok-read_cases_task.task)) c.as_slice.ensures.value c.in-Ok-read_cases_task.ensures)
    c.do_task.ensures)

pub returns-in-Err-read_cases_task-clause-had : goal.returns-in-Err-read_cases_task-clause-had
returns-in-Err-read_cases_task-clause-had g c =
    of_value _ c.args.words c.in-Ok.words c.in-Ok.is
    (refusal_answered _ _ _ _ _ c.in-Err-read_cases_task.refused
    (subst (λ ws. IsCasesReading (map string_bytes ws) (Err c.in-Err-read_cases_task.refused)) c.as_slice.ensures.value c.in-Err-read_cases_task.ensures)
    c.answer_refused.ensures)
