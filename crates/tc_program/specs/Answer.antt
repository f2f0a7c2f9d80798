-- What the program does with its arguments.
use Rattle.std.specs.Prelude.{ℕ, ◌≡◌, ◌≢◌, ◌⊎◌, Bool, List, Option, Result, MatchResult, codes}
use Rattle.std.specs.{Io.KnownBytes.Appends, Io.KnownBytes.Keeps, declared.io.ErrorKind.ErrorKind as IoKind}
use Rattle.std.specs.declared.io.ErrorKind.TheVariants as IoKinds
use Rattle.clap.specs.{Values.kind_of, declared.error.kind.ErrorKind.ErrorKind}
use Rattle.clap.specs.declared.error.kind.ErrorKind.TheVariants as Kinds
use Rattle.tc_command.specs.{declared.{read.Refused.Refused, task.Task.Task}, Prelude.{IsReading, word_fault_text}}
use Rattle.tc_answer.specs.{declared.{fault.RunFault.RunFault, outcome.Outcome.Outcome}, Prelude.{run_fault_line, said, Streams, IsPrintedRefusal, IsTold}}
use Rattle.tc_run.specs.Prelude.{LeavesUnwritten}
use Rattle.tc_program.specs.Program.{IsCarriedOut}

-- help or the version was asked for: some text was written and the status is 0, or it was not written whole, and that
-- is printed
abbrev pub IsHelped : Streams → Outcome → Type 0
IsHelped s outcome = (text : List ℕ) ×
    ((Appends s.before s.after text × Keeps s.untold s.told × (outcome.status ≡ 0))
    ⊎ ((fault : RunFault) × LeavesUnwritten s.before s.after text fault × IsPrintedRefusal s.untold s.told (run_fault_line fault) outcome))

-- the arguments are not available, since memory ran out or one is no text; the line says which, and takes no memory if
-- it is the second
abbrev pub IsUnreadInput : IoKind → Option (List ℕ) → Option (List ℕ) → Outcome → Type 0
IsUnreadInput IoKinds.OutOfMemory untold told outcome = IsPrintedRefusal untold told (run_fault_line RunFault.NoMemory) outcome
IsUnreadInput kind untold told outcome = (outcome.status ≡ 3) × IsTold untold told (said (codes "an argument is not UTF-8")) outcome.told

-- what comes of arguments that clap takes for no task, by the kind of its error: help, the version or a refusal was
-- shown, or that memory ran out. For refused arguments, and without memory, nothing was written.
pub record IsNoTask (kind : ErrorKind) (streams : Streams) (Unwritten : Type 0) (outcome : Outcome) : Type 0 where
  pub shown : (kind ≡ Kinds.DisplayHelp) ⊎ (kind ≡ Kinds.DisplayVersion) → IsHelped streams outcome
  pub mistake : (kind ≢ Kinds.DisplayHelp) × (kind ≢ Kinds.DisplayVersion) × (kind ≢ Kinds.OutOfMemory) → ((text : List ℕ) × IsPrintedRefusal streams.untold streams.told text outcome) × Unwritten
  pub memory : kind ≡ Kinds.OutOfMemory → IsPrintedRefusal streams.untold streams.told (run_fault_line RunFault.NoMemory) outcome × Unwritten

-- the same of any arguments that are refused: if a value names nothing, the line says so, and nothing was written
abbrev pub IsRefused : Refused → Streams → Type 0 → Outcome → Type 0
IsRefused (Refused.Line error) streams Unwritten outcome = IsNoTask (kind_of error) streams Unwritten outcome
IsRefused (Refused.Word fault) streams Unwritten outcome = IsPrintedRefusal streams.untold streams.told (said (word_fault_text fault)) outcome × Unwritten

-- The arguments are read as what they ask for by the rules of a command line. They are a task, which was carried out; or
-- they ask for no task, and the input was not read.
pub record IsAnsweredBy (Reads : Result Task Refused → Type 0) (Does : Task → Type 0) (streams : Streams) (Unread Unwritten : Type 0) (outcome : Outcome) : Type 0 where
  pub answer : Result Task Refused
  pub reading : Reads answer
  pub answered : MatchResult answer Does (λ why. IsRefused why streams Unwritten outcome × Unread)

-- the same by the rules of the program's command line, and what it does with a task
abbrev pub AnswersWords : Bool → List (List ℕ) → Option (List ℕ) → Streams → Type 0 → Type 0 → Outcome → Type 0
AnswersWords at_terminal words input streams Unread Unwritten outcome =
    IsAnsweredBy (IsReading at_terminal words) (λ task. IsCarriedOut task input streams outcome) streams Unread Unwritten outcome
