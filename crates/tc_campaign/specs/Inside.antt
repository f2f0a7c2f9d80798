-- What the functions inside of a campaign say, which no public clause names.
use Rattle.std.specs.{Prelude.{ℕ, ◌≡◌, ◌≤◌, ◌+◌, ◌++◌, ◌∷◌, [], ⊤, Option, Some, None, Bool, true, false, Result, Ok, Err, List, All, IfSome, length, map, take, slice_get}, List.AllZip}
use Rattle.tc_rules.specs.{Prelude.{IsBehaviours, Verdict}, declared.{closed.Closed.Closed, refusal.CaseError.CaseError}}
use Rattle.tc_entry.specs.declared.limits.TheConstants.{BEHAVIOURS}
use Rattle.tc_exec.specs.{Prelude.IsCaseReport, Inside.AreDone, declared.{job.Back.Back, test_case.Case.Case}}
use Rattle.tc_book.specs.Prelude.{PassState}
use Rattle.tc_report.specs.{Inside.IsEndedAt, declared.results.{CampaignEnd.CampaignEnd, Finished.Finished}, Prelude.{AreTaken, IsMet}}
use Rattle.tc_campaign.specs.{Campaign.{AreBack, IsCalled, IsOfCase, IsRefusal}, Outline.{Outline, outline_of}, declared.campaign.Step.Step}

-- the stopping rule is not met
abbrev pub IsBetter : Option Verdict → Verdict → Type 0
IsBetter stop_on v = IsMet stop_on v → ⊥

-- if the campaign was aborted, a run of the next case can be refused so
abbrev pub IsWhy : ℕ → Option Outline → CampaignEnd → Type 0
IsWhy threads next (CampaignEnd.Aborted name why) = IfSome next (IsRefusal threads why)
IsWhy threads next ending = ⊤

-- the report of a finished case is one of a case with as many behaviours as this case has jobs
abbrev pub IsReported : Outline → Finished → Type 0
IsReported c f = IsCaseReport (c.jobs) f.report

-- a finished case has 1 to 256 behaviours
abbrev pub HasBehaviours : Finished → Type 0
HasBehaviours f = IsBehaviours f.report.behaviours

-- a finished case has a name for each behaviour
abbrev pub IsNamed : Finished → Type 0
IsNamed f = length f.names ≡ f.report.behaviours

-- a finished case has a worker thread for each behaviour except that of run 0
abbrev pub HasThreads : ℕ → Finished → Type 0
HasThreads threads f = f.report.behaviours ≤ threads + 1

-- a case was finished so
pub record IsOf (c : Outline) (f : Finished) : Type 0 where
  pub names : IsOfCase c f
  pub report : IsCaseReport (c.jobs) f.report
  pub few : (1 ≤ c.jobs) × (c.jobs ≤ BEHAVIOURS)

-- the campaign was aborted at this case
pub record IsAbortedAt (c : Outline) (ending : CampaignEnd) : Type 0 where
  pub why : CaseError
  pub aborted : ending ≡ CampaignEnd.Aborted c.name why

-- a run of this case was refused so
pub record IsRefused {B : Type 0} (outcome : B → PassState → Back → Type 0) (threads : ℕ) (c : Case B) (ending : CampaignEnd) : Type 0 where
  pub why : CaseError
  pub aborted : ending ≡ CampaignEnd.Aborted c.name why
  pub cause : IsRefusal threads why (outline_of c)
  pub torn : why ≡ CaseError.Torn → AreBack outcome c

-- what becomes of a case by the answer to its run
abbrev pub ended_by : List ℕ → List (List ℕ) → Result Closed CaseError → Result Finished CampaignEnd
ended_by name names (Ok report) = Ok (record { name = name; names = names; report = report })
ended_by name names (Err why) = Err (CampaignEnd.Aborted name why)

-- these cases were finished, each better than stop_on, and these are left
pub record IsSoFar (cases : List Outline) (stop_on : Option Verdict) (left : List Outline) (finished : List Finished) : Type 0 where
  pub done : List Outline
  pub prefix : cases ≡ done ++ left
  pub each : AllZip IsOf done finished
  pub better : All (λ f. IsBetter stop_on f.report.verdict) finished

-- how a run ends: with an ending, or with none if the observer ended it at the last case
pub data IsRun (cases : List Outline) (stop_on : Option Verdict) : List Finished → Option CampaignEnd → Type 0 where
  complete : (finished : List Finished) → IsSoFar cases stop_on [] finished → IsRun cases stop_on finished (Some CampaignEnd.Complete)
  aborted : (finished : List Finished) (c : Outline) (left : List Outline) (ending : CampaignEnd)
      → IsSoFar cases stop_on (c ∷ left) finished → IsAbortedAt c ending → IsRun cases stop_on finished (Some ending)
  stopped : (finished : List Finished) (f : Finished) (c : Outline) (left : List Outline)
      → IsSoFar cases stop_on (c ∷ left) finished → IsOf c f → IsMet stop_on f.report.verdict
      → IsRun cases stop_on (finished ++ f ∷ []) (Some (CampaignEnd.StoppedAfter f.name))
  cut : (finished : List Finished) (f : Finished) (c : Outline) (left : List Outline)
      → IsSoFar cases stop_on (c ∷ left) finished → IsOf c f → IsRun cases stop_on (finished ++ f ∷ []) None

-- if the campaign was aborted as torn, the jobs of the next case handed back their passes
abbrev pub IsTornAt : {B : Type 0} → (B → PassState → Back → Type 0) → Option (Case B) → CampaignEnd → Type 0
IsTornAt outcome next ending = (name : List ℕ) → ending ≡ CampaignEnd.Aborted name CaseError.Torn → IfSome next (AreBack outcome)

-- how a campaign ends that runs none of these cases because memory ran out
abbrev pub IsUnrun : List Outline → CampaignEnd → Type 0
IsUnrun [] ending = ending ≡ CampaignEnd.Complete
IsUnrun (c ∷ left) ending = ending ≡ CampaignEnd.Aborted c.name CaseError.NoMemory

-- the test case was run to its end
pub record IsFinished {B : Type 0} (outcome : B → PassState → Back → Type 0) (threads : ℕ) (c : Case B) (f : Finished) : Type 0 where
  pub is : IsOf (outline_of c) f
  pub called : IsCalled outcome c f
  pub threads_are : HasThreads threads f

module _ {B O : Type 0} (outcome : B → PassState → Back → Type 0) (takes : O → Finished → O → Bool → Type 0)
    (stop_on : Option Verdict) (threads : ℕ) where
  -- what the run of one test case leaves. It was finished and taken, and the campaign continues, or stops after it; or
  -- it was refused; or it was finished, and the observer has ended the campaign.
  abbrev pub IsStep : Case B → O → O → Step → Type 0
  IsStep c before after Step.GoesOn = (f : Finished) × IsFinished outcome threads c f × IsBetter stop_on f.report.verdict × takes before f after true
  IsStep c before after (Step.Stops ending) =
      (f : Finished) × IsFinished outcome threads c f × ((ending ≡ CampaignEnd.StoppedAfter f.name) × IsMet stop_on f.report.verdict) × takes before f after true
  IsStep c before after (Step.Refused ending) = IsRefused outcome threads c ending × (after ≡ before)
  IsStep c before after Step.CutShort = (f : Finished) × IsFinished outcome threads c f × takes before f after false

  -- so far these test cases were finished and taken, each better than stop_on, and these are left
  pub record IsGoing (cases left : List (Case B)) (before now : O) : Type 0 where
    pub finished : List Finished
    pub so : IsSoFar (map outline_of cases) stop_on (map outline_of left) finished
    pub called : AreDone (IsCalled outcome) cases left finished
    pub threads_are : All (HasThreads threads) finished
    pub taken : AreTaken takes finished before now

  -- the observer was given these test cases, by whether the campaign has an ending of its own
  abbrev pub IsGiven : List Finished → O → O → Option CampaignEnd → Type 0
  IsGiven fs before after (Some ending) = AreTaken takes fs before after
  IsGiven fs before after None = IsEndedAt takes fs before after

  -- the campaign was run so
  pub record WasRun (cases : List (Case B)) (before after : O) (answer : Option CampaignEnd) : Type 0 where
    pub finished : List Finished
    pub run : IsRun (map outline_of cases) stop_on finished answer
    pub called : AllZip (IsCalled outcome) (take (length finished) cases) finished
    pub threads_are : All (HasThreads threads) finished
    pub why : IfSome answer (IsWhy threads (slice_get (map outline_of cases) (length finished)))
    pub torn : IfSome answer (IsTornAt outcome (slice_get cases (length finished)))
    pub given : IsGiven finished before after answer
