-- What a task makes of its text, and what a call over a reader and a writer returns.
use Rattle.std.specs.{Prelude.{ℕ, ◌≡◌, All, List, [], ◌∷◌, ◌++◌, MatchResult, Option, Some, None, Result, Ok, Err}, Io.KnownBytes.{Appends, Keeps}, List.flat_map}
use Rattle.tc_stream.specs.Prelude.{AppendsPrefix}
use Rattle.tc_text.specs.Prelude.{IsListFault}
use Rattle.tc_command.specs.declared.task.Task.{Task}
use Rattle.tc_answer.specs.{declared.{fault.RunFault.RunFault, reply.Answer.Answer}, Prelude.{RefusesText, CaseView}}
use Rattle.tc_judge.specs.Prelude.{AreToRun, IsChecked, IsCheckedAgainst, IsLegalBlock, IsMadeOfBlocks, IsMadeOfInput, IsReported, IsReportedAgainst, IsSilent, RefusesAgainst, RefusesRun, is_chosen}
use Rattle.tc_program.specs.{Explore.Explores, Limits.limit_of, Model.IsModelled, Replay.Replays}

-- the answer is the list of the test cases that would be run: a line with the name of each
abbrev pub IsListed : {C : Type 0} → (C → List ℕ) → (List C → Type 0) → Answer → Type 0
IsListed {C} name_of AreToBeRun a = (cases : List C) × AreToBeRun cases × (a ≡ record { out = flat_map (λ c. name_of c ++ (10 ∷ [])) cases; told = []; status = 0 })

-- the answer is what a task, other than a run, makes of the text; or the task refuses the text for this fault, and any
-- text if memory runs out
abbrev pub IsMade : Task → List ℕ → Result Answer RunFault → Type 0
IsMade (Task.Replay e) text made = MatchResult made (IsSilent (Replays text)) (RefusesText (IsListFault text))
IsMade (Task.Check choice e) text made = IsMadeOfBlocks (All IsLegalBlock) choice text (IsSilent (IsChecked choice.last (is_chosen choice) text)) made
IsMade (Task.Compare None choice e) text made = MatchResult made (IsSilent (IsCheckedAgainst choice text)) (RefusesAgainst choice text)
IsMade (Task.Compare (Some form) choice e) text made = MatchResult made (IsReportedAgainst form choice text) (RefusesAgainst choice text)
IsMade (Task.Report form choice e) text made = IsMadeOfBlocks (All IsLegalBlock) choice text (IsReported form choice.last (is_chosen choice) text) made
IsMade (Task.Model choice e) text made = IsModelled choice text made
IsMade (Task.Explore o) text made = MatchResult made (IsSilent (Explores o text)) (RefusesRun o.choice text)
IsMade (Task.List choice e) text made = MatchResult made (IsListed (λ (c : CaseView). c.0) (AreToRun choice text)) (RefusesRun choice text)
IsMade (Task.Run o) text made = MatchResult made (λ a. ⊥) (RefusesRun o.choice text)
IsMade Task.Serve text made = ⊥

-- what a call of a task over a reader and a writer returns: the status, and what is made of the input is written; or a
-- fault. Then the writer failed, and a prefix of that is written; or the input is refused, and nothing is.
abbrev pub Does : Task → Option (List ℕ) → Option (List ℕ) → Option (List ℕ) → Result ℕ RunFault → Type 0
Does task input before after (Ok status) =
    (a : Answer) × IsMadeOfInput (limit_of task) input (IsMade task) (Ok a) × Appends before after a.out × (status ≡ a.status)
Does task input before after (Err RunFault.Write) = (a : Answer) × IsMadeOfInput (limit_of task) input (IsMade task) (Ok a) × AppendsPrefix before after a.out
Does task input before after (Err fault) = IsMadeOfInput (limit_of task) input (IsMade task) (Err fault) × Keeps before after
