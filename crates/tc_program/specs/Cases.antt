-- What a program with test cases of its own does with its arguments.
use Rattle.std.specs.{Prelude.{ℕ, ◌≡◌, List, MatchResult, Result, IsOkAnd}, Global.Vec}
use Rattle.tc_book.specs.Prelude.{PassState}
use Rattle.tc_campaign.specs.Prelude.{AreBack, IsCalled, outline_of}
use Rattle.tc_answer.specs.{Prelude.{case_name, AreChosenOf, LackName, run_fault_line, IsPrintedRefusal, Streams}, declared.{fault.RunFault.RunFault, outcome.Outcome.Outcome, reply.Answer.Answer}}
use Rattle.tc_exec.specs.declared.{job.Back.Back, test_case.Case.Case}
use Rattle.tc_command.specs.{Prelude.IsCasesReading, declared.task.{Choice.Choice, Task.Task}}
use Rattle.tc_run.specs.Prelude.{RunsCases}
use Rattle.tc_program.specs.{Answer.IsAnsweredBy, Made.IsListed, Program.IsDoneBy}

-- these are the test cases that were made
abbrev pub WereMade : {B E : Type 0} → Result (Vec (Case B)) E → List (Case B) → Type 0
WereMade made all = IsOkAnd made (λ v. v.items ≡ all)

module _ {B : Type 0} (Are : List (Case B) → Type 0) where
  -- the choice is refused, since no test case has a name that is asked for, or memory ran out
  abbrev pub RefusesCases : Choice → RunFault → Type 0
  RefusesCases choice RunFault.Only = LackName case_name Are choice
  RefusesCases choice RunFault.NoMemory = Unit {0}
  RefusesCases choice fault = ⊥

  -- the answer is what a task, a list of the test cases, makes of them; or a task, a list or a run, refuses them
  abbrev pub IsMadeOfCases : Task → Result Answer RunFault → Type 0
  IsMadeOfCases (Task.List choice explains) made = MatchResult made (IsListed case_name (AreChosenOf case_name Are choice)) (RefusesCases choice)
  IsMadeOfCases (Task.Run o) made = MatchResult made (λ a. ⊥) (RefusesCases o.choice)
  IsMadeOfCases task made = ⊥

module _ {B : Type 0} (called : B → PassState → Back → Type 0) (Are : List (Case B) → Type 0) where
  -- What is done with the test cases for a task. In a run each report is of the chosen test case at its place, and made of
  -- what its behaviours handed back.
  abbrev pub DoesCases : Task → Streams → Outcome → Type 0
  DoesCases task s outcome =
      IsDoneBy task (IsMadeOfCases Are task) (λ fault. IsPrintedRefusal s.untold s.told (run_fault_line fault) outcome)
      (λ o. RunsCases outline_of (IsCalled called) (AreBack called) (AreChosenOf case_name Are o.choice) o s outcome) s outcome

  -- the arguments are read as those of a program with test cases of its own; they are a task, which was done, or ask for
  -- none. There is no input.
  abbrev pub IsAnsweredWithCases : List (List ℕ) → Streams → Type 0 → Outcome → Type 0
  IsAnsweredWithCases words s Unwritten outcome =
      IsAnsweredBy (IsCasesReading words) (λ task. DoesCases task s outcome) s (Unit {0}) Unwritten outcome
