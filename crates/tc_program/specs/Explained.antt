-- What is printed about a text that is refused.
use Rattle.std.specs.{Prelude.{ℕ, Bool, MatchBool, true, false, ◌≡◌, ◌&&◌, not, Option, List, []}, Option.option_map_or}
use Rattle.tc_explain.specs.Prelude.{explanation}
use Rattle.tc_text.specs.Prelude.{TellsAmong}
use Rattle.tc_command.specs.declared.task.Task.{Task}
use Rattle.tc_judge.specs.Prelude.{is_of_judged}
use Rattle.tc_answer.specs.{declared.{fault.RunFault.RunFault, outcome.Outcome.Outcome}, Prelude.{blocks_part, script_part, run_fault_line, IsPrintedRefusal, number_of}}
use Rattle.tc_program.specs.Limits.{has_blocks}

-- the task is asked to explain a fault of its text, and has it whole, since its histories may not be long
abbrev pub explains : Task → Bool
explains (Task.Replay asked) = asked
explains (Task.Check choice asked) = asked && not choice.long
explains (Task.Compare form choice asked) = asked
explains (Task.Report form choice asked) = asked && not (choice.long && is_of_judged form)
explains (Task.Model choice asked) = asked && not choice.long
explains (Task.List choice asked) = asked
explains (Task.Run o) = o.explains
explains (Task.Explore o) = o.explains
explains Task.Serve = false

-- the part of a text that the lines of this fault are counted in: all of it, or, of a script with blocks after it, the script
-- or the blocks
abbrev pub part_of : Bool → RunFault → List ℕ → List ℕ
part_of true (RunFault.Script fault) text = script_part text
part_of true fault text = blocks_part text
part_of false fault text = text

-- the fault is one of the text, by which it is refused
abbrev pub is_of_text : RunFault → Bool
is_of_text RunFault.NoMemory = false
is_of_text fault = true

-- the outcome of a task whose text has this fault: its line is printed, and if it is explained lines after it, among which are
-- those that explain the line of the text
abbrev pub IsExplained : Task → List ℕ → RunFault → Option (List ℕ) → Option (List ℕ) → Outcome → Type 0
IsExplained task text fault before after outcome = (told : List ℕ) × MatchBool (explains task && is_of_text fault)
    (TellsAmong (option_map_or (explanation (part_of (has_blocks task) fault text)) (number_of fault) []) (run_fault_line fault) told) (told ≡ run_fault_line fault)
    × IsPrintedRefusal before after told outcome
