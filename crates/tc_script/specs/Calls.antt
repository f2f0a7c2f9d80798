-- What the steps of a script call, the pass that comes of it, and what a script does with the pass of its run.
use Rattle.std.specs.Prelude.{◌≡◌, ◌++◌, ◌∷◌, [], Bool, false, List, ◌≢◌, length}
use Rattle.tc_rules.specs.Prelude.{Comp, Reply, is_parked}
use Rattle.tc_step.specs.{declared.step.Step.Step, Prelude.{operation, target, ScriptView}}
use Rattle.tc_book.specs.Prelude.{PassState, has_ended, with_own_entry, Waits}
use Rattle.tc_exec.specs.declared.job.{Back.Back, Ending.Ending}

-- a step's call was replied so: it added its one entry, or, if it is a wait that was parked, the entry and one Wake, which was not parked
abbrev pub Calls : List Comp → Step → PassState → PassState → Reply → Type 0
Calls bound (Step.Wait killed t) before after reply = Waits killed (target before.me bound t) before after reply × (is_parked reply ≡ false)
Calls bound s before after reply = after ≡ with_own_entry before (operation before.me bound s) reply

-- the components that are bound after a step: a Create binds what it made
abbrev pub bound_after : Step → Reply → List Comp → List Comp
bound_after (Step.Create alive name) (Reply.Made c) bound = bound ++ c ∷ []
bound_after _ _ bound = bound

-- the calls of these steps up to those that are left, each on a pass that had not ended: what is bound then, and the pass.
-- At first the arguments are bound
pub data HasCalled (steps : List Step) (start : PassState) : List Step → List Comp → PassState → Type 0 where
  none : HasCalled steps start steps start.args start
  one_more : (s : Step) (left : List Step) (bound : List Comp) (before after : PassState) (reply : Reply)
      → HasCalled steps start (s ∷ left) bound before → has_ended before ≡ false → Calls bound s before after reply
      → HasCalled steps start left (bound_after s reply bound) after

-- a behaviour comes back Starved exactly if its pass has not ended and steps are left
abbrev pub ending : Bool → List Step → Ending
ending false (s ∷ left) = Ending.Starved
ending _ _ = Ending.Returned

-- some first steps were called, from one pass to the other, and the behaviour came back so
pub record HasRun (steps : List Step) (before after : PassState) (how : Ending) : Type 0 where
  -- the steps that were not called
  pub left : List Step
  -- the components that are bound then
  pub bound : List Comp
  -- the steps before these were called, in order
  pub called : HasCalled steps before left bound after
  -- how it came back depends on whether the pass has ended, and on whether steps are left
  pub ending_is : how ≡ ending (has_ended after) left

-- what a script hands back for a pass: it has made the calls of its steps, as far as they go; with another number of
-- arguments than it has parameters it has made none
pub record Acts (s : ScriptView) (before : PassState) (b : Back) : Type 0 where
  pub other_count : length before.args ≢ s.parameters → (b.pass ≡ before) × (b.ending ≡ Ending.Returned)
  pub calls : length before.args ≡ s.parameters → HasRun s.steps before b.pass b.ending

-- what a script hands back for a pass with as many arguments as it has parameters: it has made the calls of its steps, as far as they go
pub record MakesItsCalls (s : ScriptView) (before : PassState) (b : Back) : Type 0 where
  pub as_many : length before.args ≡ s.parameters
  pub calls : HasRun s.steps before b.pass b.ending
