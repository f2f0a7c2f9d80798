-- What the report of a case says.
use Rattle.std.specs.Prelude.{ℕ, ◌≡◌, ◌≢◌, ◌<◌, ◌⊎◌, None, List, length, reverse, All, slice_index_or, Some}
use Rattle.tc_rules.specs.{Prelude.{Entry, comp_of, IsOneHistory, Comp}, declared.{closed.Closed.Closed, run_log.RunLog.RunLog}}
use Rattle.tc_book.specs.Prelude.{IsOneEach, IsWhole, PassState, LeftState, start_of}
use Rattle.tc_exec.specs.{Workers.{IsLeftBy, WasCalled}, declared.job.{Back.Back, Ending.Ending}}

-- The report of a case of n behaviours. It has one history of one thread, in which each reply is the component table's
-- at that point, and the logs are the parts of this history. Once an entry has ended the case no component is alive.
-- The verdict is the worst of the local verdicts. A behaviour other than that of run 0 has a log only if a Start of its
-- run was replied Ok: there is one of each run that is on a component. That these logs are those of the passes that the
-- behaviours handed back is IsMadeOf.
pub record IsCaseReport (n : ℕ) (c : Closed) : Type 0 where
  -- the history, the logs, the local verdicts and the overall verdict
  pub one_history : IsOneHistory c
  -- as many behaviours as jobs
  pub behaviours : c.behaviours ≡ n

-- The behaviours are those of the runs, in the order of the runs' numbers: each of which the run was started was called,
-- with a new pass of that run.
abbrev pub AreCalled : {B : Type 0} → (B → PassState → Back → Type 0) → List B → Closed → Type 0
AreCalled outcome jobs c = (k : ℕ) (b : _) → k < length jobs → comp_of (reverse c.history) k ≢ None
    → (l : LeftState) × WasCalled (outcome (slice_index_or jobs k b)) (record { 0 = k }) l

-- What was handed back of a case, whole or not. Each behaviour was called with a new pass of its run, did not run out
-- of memory, and the pass that it handed back has left; or its run was never started.
pub record IsHandedBack {B : Type 0} (outcome : B → PassState → Back → Type 0) (jobs : List B) : Type 0 where
  -- what each run left, in the order of the runs' numbers
  pub lefts : List LeftState
  pub as_many : length lefts ≡ length jobs
  -- behaviour k is that of run k
  pub left : (k : ℕ) (b : B) (l : LeftState) → k < length jobs → IsLeftBy outcome (record { 0 = k }) (slice_index_or jobs k b) (slice_index_or lefts k l)
  -- that of run 0 was called
  pub main : (l : LeftState) → (slice_index_or lefts 0 l).started ≢ None

-- What a report was made of: what was handed back, and it is whole, so the logs of the report are the logs of the passes
-- that have left.
pub record IsMadeOf {B : Type 0} (outcome : B → PassState → Back → Type 0) (jobs : List B) (c : Closed) : Type 0 where
  pub handed : IsHandedBack outcome jobs
  pub whole : IsWhole c.behaviours c.history handed.lefts

-- Why a case is out of memory after all its workers were made. The behaviour of run k was called, and came back because
-- memory ran out. Or what was handed back is one of each run, and memory ran out as the case was closed.
abbrev pub IsOutOfMemory : {B : Type 0} → (B → PassState → Back → Type 0) → List B → Type 0
IsOutOfMemory outcome jobs =
    ((k : ℕ) × (k < length jobs)
    × ((b : _) → (l : LeftState) × (w : WasCalled (outcome (slice_index_or jobs k b)) (record { 0 = k }) l) × (w.handed.ending ≡ Ending.Starved)))
    ⊎ ((h : IsHandedBack outcome jobs) × IsOneEach (length jobs) h.lefts)

-- The log is that of a pass of its run, which was new when the behaviour was called with it, on the component and with
-- the arguments of the run's Start. The behaviour did not run out of memory. The log is what the pass that it handed
-- back has logged, and then a Finish if that pass had not ended.
pub record IsLogBy (outcome : PassState → Back → Type 0) (history : List Entry) (l : RunLog) : Type 0 where
  pub left : LeftState
  pub called : WasCalled outcome l.run left
  pub returned : called.handed.ending ≡ Ending.Returned
  pub entries : l.entries ≡ left.log
  pub started : 0 < l.run.0 → left.started ≡ start_of (reverse history) l.run.0

-- each log is that of the behaviour of its run
abbrev pub AreLogsBy : {B : Type 0} → (B → PassState → Back → Type 0) → List B → Closed → Type 0
AreLogsBy outcome behaviours c = (b : _) → All (λ l. IsLogBy (outcome (slice_index_or behaviours l.run.0 b)) c.history l) c.logs
