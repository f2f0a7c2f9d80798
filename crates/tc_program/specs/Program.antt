-- What the program does with what it is asked for: what it writes, its statuses, and its lines on standard error.
use Rattle.std.specs.{Prelude.{ℕ, ◌≡◌, ◌⊎◌, List, Result, Ok, Err, Option}, Io.KnownBytes.Keeps}
use Rattle.tc_blocks.specs.Prelude.{IsReadIn}
use Rattle.tc_command.specs.declared.task.{RunOptions.RunOptions, Task.Task}
use Rattle.tc_answer.specs.{declared.{fault.RunFault.RunFault, outcome.Outcome.Outcome, reply.Answer.Answer}, Prelude.{run_fault_line, GivesAnswer, Streams, IsPrintedRefusal}}
use Rattle.tc_run.specs.Prelude.{AreScriptsBack, script_outline, IsScripted, RunsCases}
use Rattle.tc_judge.specs.Prelude.{AreToRun, IsUnreadIn}
use Rattle.tc_program.specs.{Explained.IsExplained, Limits.limit_of, Made.IsMade, Serve.Serves}

-- what the program does with a task, by what the task makes of what is given, what is printed of its refusal, and what a
-- run of it is
pub data IsDoneBy (task : Task) (Makes : Result Answer RunFault → Type 0) (Refuses : RunFault → Type 0) (Runs : RunOptions → Type 0) (s : Streams) (outcome : Outcome) : Type 0 where
  -- what is made was written, and what is due on standard error printed; or the writer failed
  made : (a : Answer) → Makes (Ok a) → GivesAnswer a s outcome → IsDoneBy task Makes Refuses Runs s outcome
  -- what is given is refused: nothing was written, and why is printed
  refused : (fault : RunFault) → Makes (Err fault) → Keeps s.before s.after → Refuses fault → IsDoneBy task Makes Refuses Runs s outcome
  -- a campaign was run, and its results were written whole or not
  run : (o : RunOptions) → task ≡ Task.Run o → Runs o → IsDoneBy task Makes Refuses Runs s outcome

-- What the program does with the text of a task. In a run each report is of the test case at its place in the script, and
-- made of what its scripts do.
abbrev pub IsDone : Task → List ℕ → Streams → Outcome → Type 0
IsDone task text s outcome =
    IsDoneBy task (IsMade task text) (λ fault. IsExplained task text fault s.untold s.told outcome)
    (λ o. RunsCases script_outline IsScripted AreScriptsBack (AreToRun o.choice text) o s outcome) s outcome

-- What the program does with a task: it serves the input line by line, or takes it whole. Then the input was read, and its
-- text is done; or it was not, nothing was written, and why is printed.
abbrev pub IsCarriedOut : Task → Option (List ℕ) → Streams → Outcome → Type 0
IsCarriedOut Task.Serve input s outcome = Serves input s outcome
IsCarriedOut task input s outcome =
    IsReadIn (limit_of task) input (λ text. IsDone task text s outcome)
    ⊎ ((fault : RunFault) × IsUnreadIn (limit_of task) input fault × Keeps s.before s.after × IsPrintedRefusal s.untold s.told (run_fault_line fault) outcome)
