-- What a worker does with its box.
use Rattle.std.specs.Prelude.{◌≡◌, ◌⊎◌, ◌||◌, [], true, false, Some, None}
use Rattle.tc_rules.specs.Prelude.{Run, Reply, is_ended, is_fault, is_ok, Op}
use Rattle.tc_book.specs.Prelude.{PassState, LeftState, has_ended, with_own_entry}
use Rattle.tc_exec.specs.declared.job.{Back.Back, Ending.Ending}

-- the pass that a case opens with: that of run 0, on the main component, without arguments and without a call
abbrev pub opening_pass : PassState
opening_pass = record { run = record { 0 = 0 }; me = record { 0 = 0 }; args = []; log = [] }

-- this pass left so: with its log, and a Finish if it had not ended, with the reply Ok or Ended, or an error
pub record HasLeft (p : PassState) (l : LeftState) : Type 0 where
  pub run : l.run ≡ p.run
  pub started : l.started ≡ Some (p.me, p.args)
  pub ended : has_ended p ≡ true → l.log ≡ p.log
  pub finished : has_ended p ≡ false → (r : Reply) × (l.log ≡ (with_own_entry p Op.Finish r).log) × ((is_ok r || is_ended r || is_fault r) ≡ true)

-- a behaviour was called: it was given a new pass of this run, which of run 0 is the opening's, it handed this back, and
-- the pass that it handed back has left so
pub record WasCalled (outcome : PassState → Back → Type 0) (run : Run) (l : LeftState) : Type 0 where
  pub given : PassState
  pub handed : Back
  pub own : given.run ≡ run
  pub new : given.log ≡ []
  pub main : run.0 ≡ 0 → given ≡ opening_pass
  pub outcome_of : outcome given handed
  pub left : HasLeft handed.pass l

-- What is left of a run whose behaviour did not run out of memory: what a run leaves that was never started, which is all
-- that this case says. Or the behaviour was called, and left it.
abbrev pub IsLeftBy : {B : Type 0} → (B → PassState → Back → Type 0) → Run → B → LeftState → Type 0
IsLeftBy outcome run b l =
    (l ≡ record { run = run; log = []; started = None }) ⊎ ((w : WasCalled (outcome b) run l) × (w.handed.ending ≡ Ending.Returned))
