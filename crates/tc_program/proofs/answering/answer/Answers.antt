use Rattle.std.proofs.Common.{Ok, map, rules, string_bytes, subst}
use Rattle.tc_command.specs.Prelude.{IsReading}
use Rattle.tc_program.proofs.OwnCases.{of_value, task_answered}
use Rattle.tc_program.proofs.answering.answer.Goals as goal

pub returns-clause-had : goal.returns-clause-had
returns-clause-had g c = search rules

pub returns-in-Ok-read_task-clause-had : goal.returns-in-Ok-read_task-clause-had
returns-in-Ok-read_task-clause-had g c =
    of_value _ c.args.arguments.words c.in-Ok.words c.in-Ok.is
    (task_answered _ _ _ _ _ c.in-Ok-read_task.task
    (subst (λ ws. IsReading c.args.arguments.at_terminal (map string_bytes ws) (Ok c.in-Ok-read_task.task)) c.as_slice.ensures.value c.in-Ok-read_task.ensures)
    c.carry_out.ensures)
