-- Right results of a campaign.
use Rattle.std.specs.{Prelude.{ℕ, ◌≡◌, ◌<◌, ◌≤◌, ◌+◌, ◌-◌, ◌⊎◌, ◌++◌, ◌∷◌, Bool, Option, List, [], All, IfSome, IsNone, IsSomeAnd, length, map, take, slice_get, false}, List.AllZip}
use Rattle.tc_rules.specs.{Prelude.{IsBehaviours, Verdict}, declared.refusal.CaseError.{CaseError, TheVariants.NoMemory}}
use Rattle.tc_entry.specs.declared.limits.TheConstants.{BEHAVIOURS}
use Rattle.tc_book.specs.Prelude.{PassState}
use Rattle.tc_exec.specs.{declared.{job.Back.Back, test_case.Case.Case}, Prelude.{IsCaseReport, AreCalled, IsHandedBack, IsMadeOf}}
use Rattle.tc_report.specs.{declared.results.{CampaignEnd.CampaignEnd, Finished.Finished}, Prelude.{AreTaken, IsMet}}
use Rattle.tc_campaign.specs.Outline.{Outline, outline_of}

-- a finished case has the name and the behaviour names of this case
pub record IsOfCase (c : Outline) (f : Finished) : Type 0 where
  pub name : f.name ≡ c.name
  pub names : f.names ≡ c.names

-- the jobs of a finished case are those of this case. Each of which the run was started was called, with a new pass of
-- that run, and the report is made of what the passes handed back have logged.
abbrev pub IsCalled : {B : Type 0} → (B → PassState → Back → Type 0) → Case B → Finished → Type 0
IsCalled outcome c f = AreCalled outcome c.jobs.items f.report × IsMadeOf outcome c.jobs.items f.report

-- the last finished case, and the first that is not finished, agree with the ending. The campaign stopped after the
-- last finished case exactly if that one stops it. Otherwise no case is left, or it was aborted at the next case, which
-- can be refused so.
abbrev pub IsEnding : (Finished → Type 0) → (CaseError → Outline → Type 0) → Option Finished → Option Outline → CampaignEnd → Type 0
IsEnding Stops Refuses last next (CampaignEnd.StoppedAfter name) = IsSomeAnd last (λ f. (name ≡ f.name) × Stops f)
IsEnding Stops Refuses last next (CampaignEnd.Aborted name why) = IfSome last (λ f. Stops f → ⊥) × IsSomeAnd next (λ c. (name ≡ c.name) × Refuses why c)
IsEnding Stops Refuses last next CampaignEnd.Complete = IfSome last (λ f. Stops f → ⊥) × IsNone next

-- a run of this case with that many worker threads can be refused so: if they are too few for 1 to 256 behaviours, only
-- by NoThread
abbrev pub IsRefusal : ℕ → CaseError → Outline → Type 0
IsRefusal threads CaseError.NoBehaviours c = c.jobs ≡ 0
IsRefusal threads CaseError.TooManyBehaviours c = BEHAVIOURS < c.jobs
IsRefusal threads CaseError.NoThread c = (1 < c.jobs) × (c.jobs ≤ BEHAVIOURS)
IsRefusal threads why c = IsBehaviours c.jobs × (c.jobs ≤ threads + 1)

-- each job of this case was called, did not run out of memory, and handed back its pass; or its run was never started
abbrev pub AreBack : {B : Type 0} → (B → PassState → Back → Type 0) → Case B → Type 0
AreBack outcome c = IsHandedBack outcome c.jobs.items

module _ {C : Type 0} (outline : C → Outline) (called : C → Finished → Type 0) (cases : List C) (stop_on : Option Verdict) (threads : ℕ) where
  -- these test cases were finished, the first of the list, and none except the last ended the campaign
  pub record AreFinished (finished : List Finished) : Type 0 where
    -- they have the names and behaviour names of the list, in order
    pub names : AllZip IsOfCase (take (length finished) (map outline cases)) finished
    -- at each but the last the stopping rule is not met
    pub better : All (λ f. IsMet stop_on f.report.verdict → ⊥) (take (length finished - 1) finished)
    -- each report is of its own case, with as many behaviours as the case has jobs, and these were called
    pub reports : AllZip (λ c f. IsCaseReport c.jobs f.report) (take (length finished) (map outline cases)) finished
    pub calls : AllZip called (take (length finished) cases) finished
    -- each has 1 to 256 behaviours, a name for each, and a worker thread for each except that of run 0
    pub named : All (λ f. length f.names ≡ f.report.behaviours) finished
    pub threads_are : All (λ f. f.report.behaviours ≤ threads + 1) finished
    pub behaviours : All (λ f. IsBehaviours f.report.behaviours) finished

  -- these test cases were finished, and the campaign ended so after them
  pub record EndsSo (back : C → Type 0) (Refuses : CaseError → Outline → Type 0) (finished : List Finished) (ending : CampaignEnd) : Type 0 where
    pub each : AreFinished finished
    pub last : IsEnding (λ f. IsMet stop_on f.report.verdict) Refuses
        (slice_get finished (length finished - 1)) (slice_get (map outline cases) (length finished)) ending
    -- if it was aborted as torn, the jobs of the next case handed back their passes
    pub torn : (name : List ℕ) → ending ≡ CampaignEnd.Aborted name CaseError.Torn → IfSome (slice_get cases (length finished)) back

  -- the same; there may have been no room for its reports, and then none is finished
  abbrev pub IsRunTo : (C → Type 0) → List Finished → CampaignEnd → Type 0
  IsRunTo back finished = EndsSo back (λ why c. IsRefusal threads why c ⊎ ((finished ≡ []) × (why ≡ NoMemory))) finished

module _ {B O : Type 0} (outcome : B → PassState → Back → Type 0) (cases : List (Case B)) (stop_on : Option Verdict) (threads : ℕ)
    (takes : O → Finished → O → Bool → Type 0) (before after : O) where
  -- the campaign was run to this end, and the observer was given each finished test case
  pub record IsObserved (ending : CampaignEnd) : Type 0 where
    pub finished : List Finished
    pub run : EndsSo outline_of (IsCalled outcome) cases stop_on threads (AreBack outcome) (IsRefusal threads) finished ending
    pub taken : AreTaken takes finished before after

  -- the campaign was run until the observer ended it, at the last finished test case
  pub record IsCutShort : Type 0 where
    pub others : List Finished
    pub last : Finished
    pub each : AreFinished outline_of (IsCalled outcome) cases stop_on threads (others ++ last ∷ [])
    pub between : O
    pub taken : AreTaken takes others before between
    pub ended : takes between last after false
