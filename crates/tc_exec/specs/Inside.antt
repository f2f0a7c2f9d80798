-- What the functions inside of a case say, which no public clause names.
use Rattle.std.specs.{List.AllZip, Prelude.{ℕ, ◌≡◌, ◌≢◌, ◌<◌, ◌+◌, ◌++◌, ◌⊎◌, Bool, true, false, None, List, [], ◌∷◌, Result, Ok, Err, length, map, slice_index_or}}
use Rattle.tc_rules.specs.{Prelude.{Run, of_close}, declared.{closed.{CloseFault.CloseFault, Closed.Closed}, refusal.CaseError.CaseError}}
use Rattle.tc_book.specs.Prelude.{PassState, LeftState}
use Rattle.tc_exec.specs.{Workers.{HasLeft, IsLeftBy, WasCalled, opening_pass}, declared.{gathered.Gathered.Gathered, handed.Handed.Handed, job.{Back.Back, Ending.Ending}, worker.Worker.Worker}}

-- a behaviour was called, with this outcome, and the pass that it handed back has left
pub record HasActed (outcome : Back → Type 0) (h : Handed) : Type 0 where
  pub back : Back
  pub outcome_of : outcome back
  pub left : HasLeft back.pass h.left
  pub ending : h.ending ≡ back.ending

-- a behaviour was called with a new pass of this run, which of run 0 is the opening's, and this holds of the call
pub record WasStarted (run : Run) (call : PassState → Type 0) : Type 0 where
  pub pass : PassState
  pub own : pass.run ≡ run
  pub new : pass.log ≡ []
  pub main : run.0 ≡ 0 → pass ≡ opening_pass
  pub called : call pass

-- what was handed back is that of a run that was never started, or this came of the call of its behaviour
abbrev pub IsWorked : Run → (PassState → Back → Type 0) → Handed → Type 0
IsWorked run outcome h = (h ≡ record { left = record { run = run; log = []; started = None }; ending = Ending.Returned }) ⊎ WasStarted run (λ p. HasActed (outcome p) h)

-- what the close of a case is answered by: the report as it is, or the refusal
abbrev pub handed_on : Result Closed CloseFault → Result Closed CaseError
handed_on (Ok c) = Ok c
handed_on (Err fault) = Err (of_close fault)

-- memory ran out in the behaviour
abbrev pub is_starved : Ending → Bool
is_starved Ending.Starved = true
is_starved Ending.Returned = false

-- the runs of these workers
abbrev pub runs_of : {B : Type 0} → List (Worker B) → List Run
runs_of workers = map (λ w. w.handle.promise.run) workers

-- the behaviours of these workers
abbrev pub jobs_of : {B : Type 0} → List (Worker B) → List B
jobs_of workers = map (λ w. w.handle.promise.behaviour.value) workers

-- these are the runs above run 0, in their order
abbrev pub AreAbove : List Run → Type 0
AreAbove runs = (k : ℕ) (run : Run) → k < length runs → (slice_index_or runs k run).0 ≡ k + 1

-- the first of what was left is that of a run that was started
abbrev pub IsFirstStarted : List LeftState → Type 0
IsFirstStarted lefts = (d : LeftState) → (slice_index_or lefts 0 d).started ≢ None

-- what was left first is left first still
abbrev pub KeepsFirst : List LeftState → List LeftState → Type 0
KeepsFirst before after = (d : LeftState) → 0 < length before → slice_index_or after 0 d ≡ slice_index_or before 0 d

module _ {B : Type 0} (outcome : B → PassState → Back → Type 0) where
  -- these are what the workers of these runs left, each with its own behaviour
  abbrev pub AreLeftBy : List Run → List B → List LeftState → Type 0
  AreLeftBy [] [] [] = Unit {0}
  AreLeftBy (run ∷ runs) (b ∷ bs) (l ∷ ls) = IsLeftBy outcome run b l × AreLeftBy runs bs ls
  AreLeftBy _ _ _ = ⊥

  -- the behaviour of this run was called, and memory ran out in it
  abbrev pub HasStarved : Run → B → Type 0
  HasStarved run b = (l : LeftState) × (w : WasCalled (outcome b) run l) × (w.handed.ending ≡ Ending.Starved)

  -- memory ran out in the behaviour of one of these runs
  abbrev pub IsOneStarved : List Run → List B → Type 0
  IsOneStarved (run ∷ runs) (b ∷ bs) = HasStarved run b ⊎ IsOneStarved runs bs
  IsOneStarved _ _ = ⊥

  -- what was gathered is what the workers of these runs left, each with its own behaviour; or memory ran out in one of
  -- these
  pub record Gathers (runs : List Run) (behaviours : List B) (g : Gathered) : Type 0 where
    pub lefts : g.starved ≡ false → AreLeftBy runs behaviours g.lefts.items
    pub one_starved : g.starved ≡ true → IsOneStarved runs behaviours

  -- what these runs left, with their behaviours, was added to what was gathered, whichever runs that was of
  abbrev pub GathersMore : List Run → List B → Gathered → Gathered → Type 0
  GathersMore runs behaviours before after =
      (others : List Run) (theirs : List B) → Gathers others theirs before → Gathers (others ++ runs) (theirs ++ behaviours) after

-- these are done, each with the one at its place, and these are left
pub record AreDone {A B : Type 0} (R : A → B → Type 0) (all left : List A) (ys : List B) : Type 0 where
  pub done : List A
  pub prefix : all ≡ done ++ left
  pub each : AllZip R done ys
