-- What the program does where no thread can be started.
use Rattle.std.specs.{Prelude.{ℕ, ◌⊎◌, List, Option, Ok, codes, false}, Io.KnownBytes.Keeps}
use Rattle.tc_command.specs.{Prelude.IsReading, declared.task.{RunOptions.RunOptions, Task.Task}}
use Rattle.tc_reader.specs.Prelude.{CampaignView}
use Rattle.tc_answer.specs.{declared.outcome.Outcome.Outcome, Prelude.{said, IsPrintedRefusal, Streams}}
use Rattle.tc_blocks.specs.Prelude.{IsReadIn}
use Rattle.tc_judge.specs.Prelude.{AreToRun}
use Rattle.tc_program.specs.{Answer.AnswersWords, Limits.limit_of}

-- The arguments are answered as the program answers them. Or they ask for a run of test cases that the input spells: it was not begun,
-- nothing was written, and it is printed that a run needs threads.
abbrev pub IsAnsweredAlone : List (List ℕ) → Option (List ℕ) → Streams → Type 0 → Type 0 → Outcome → Type 0
IsAnsweredAlone words input s Unread Unwritten outcome =
    AnswersWords false words input s Unread Unwritten outcome
    ⊎ ((o : RunOptions) × IsReading false words (Ok (Task.Run o))
    × IsReadIn (limit_of (Task.Run o)) input (λ text. (cases : CampaignView) × AreToRun o.choice text cases) × Keeps s.before s.after
    × IsPrintedRefusal s.untold s.told (said (codes "a run needs threads, and there are none here: try explore")) outcome)
