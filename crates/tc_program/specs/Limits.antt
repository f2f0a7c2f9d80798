-- How many bytes an input may have, and how many workers a test case.
use Rattle.std.specs.Prelude.{Bool, ◌&&◌, true, false, if◌then◌else◌}
use Rattle.tc_command.specs.declared.task.Task.{Task}
use Rattle.tc_blocks.specs.declared.limit.Limit.{Limit}
use Rattle.tc_judge.specs.Prelude.{history_limit, is_of_judged}
use Rattle.tc_answer.specs.declared.limits.TheConstants.{HISTORY_LIMIT, SCRIPT_LIMIT}

-- the text of a task has histories or evidence after a script
abbrev pub has_blocks : Task → Bool
has_blocks (Task.Compare form choice explains) = true
has_blocks (Task.List choice explains) = choice.failed
has_blocks (Task.Run o) = o.choice.failed
has_blocks (Task.Explore o) = o.choice.failed
has_blocks task = false

-- the bytes of the input of a task: of one with histories, which may be long, of a script or of a list of moves
abbrev pub limit_of : Task → Limit
limit_of (Task.Check choice explains) = history_limit choice.long
limit_of (Task.Model choice explains) = history_limit choice.long
limit_of (Task.Report form choice explains) = history_limit (choice.long && is_of_judged form)
limit_of task = Limit.Whole (if has_blocks task then HISTORY_LIMIT else SCRIPT_LIMIT)
