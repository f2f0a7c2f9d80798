-- What the functions inside of a run say, which no public clause names.
use Rattle.std.specs.Prelude.{◌≡◌, ◌++◌, Bool, true, false, List, Result, Ok, Err}
use Rattle.tc_rules.specs.Prelude.{NoMemory, Comp, Entry, Reply}
use Rattle.tc_step.specs.declared.step.Step.{Step}
use Rattle.tc_book.specs.{Prelude.PassState, declared.halt.Halt.Halt}
use Rattle.tc_exec.specs.declared.job.Ending.{Ending}
use Rattle.tc_script.specs.Calls.{Calls, bound_after}

-- the run, its component and its arguments are the same, and the log has grown
abbrev pub HasGrown : PassState → PassState → Type 0
HasGrown before after = (more : List Entry) × (after ≡ record before { log = before.log ++ more })

-- a call was carried out unless memory ran out
abbrev pub is_refused : {A : Type 0} → Result A Halt → Bool
is_refused (Err Halt.NoMemory) = true
is_refused _ = false

-- a call was carried out, and this holds of its reply; or memory ran out, and this holds
abbrev pub Carried : (Reply → Type 0) → Type 0 → Result (Unit {0}) NoMemory → Type 0
Carried P same (Ok u) = (reply : Reply) × P reply
Carried P same (Err e) = same

abbrev pub creates : Step → Bool
creates (Step.Create alive name) = true
creates _ = false

abbrev pub waits : Step → Bool
waits (Step.Wait killed t) = true
waits _ = false

-- what a step did to the pass, and to what is bound
pub record IsStepped (s : Step) (bound : List Comp) (before : PassState) (bound-new : List Comp) (after : PassState) (reply : Reply) : Type 0 where
  pub called : Calls bound s before after reply
  pub binds : bound-new ≡ bound_after s reply bound

-- the call of a step where these components are bound, on this pass. It was carried out, and this is bound after it, and
-- the pass; or memory ran out, and nothing changed.
abbrev pub IsCarriedOut : Step → List Comp → PassState → List Comp → PassState → Result (Unit {0}) NoMemory → Type 0
IsCarriedOut s bound before bound-new after result =
    Carried (IsStepped s bound before bound-new after) ((after ≡ before) × (bound-new ≡ bound)) result

-- how a behaviour comes back, by what its calls gave
abbrev pub ending_of : Result (Unit {0}) NoMemory → Ending
ending_of (Ok u) = Ending.Returned
ending_of (Err e) = Ending.Starved
