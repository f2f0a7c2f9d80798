-- Courses of a test case whose behaviours are scripts: what each run has called, and what it calls next. As in the
-- component table's definitions `past` lists entries, the newest first, and runs are numbers.
use Rattle.std.specs.{Prelude.{ℕ, ◌≡◌, ◌==◌, ◌<◌, ◌+◌, ◌++◌, ◌&&◌, ◌||◌, if◌then◌else◌, Bool, false, Option, Some, None, is_some, List, [], ◌∷◌, length, slice_get, not}, Option.{option_map_or, option_to_list, unwrap_or, option_map}}
use Rattle.tc_rules.specs.Prelude.{Comp, Entry, Op, Reply, created, started_on, ends_pass, answer, is_wake, Run, Case, past_of, entry_made, wake_op, parks, start, is_ended, is_parked}
use Rattle.tc_step.specs.{declared.step.Step.Step, Prelude.{operation, ScriptView}}

-- ---- what is known of one run

-- the component that it is on, once it was started; the components bound in it; how many of its steps it has called.
-- Whether its pass has ended, and the Wake to come, if its last call was parked.
pub record CourseState : Type 0 where
  pub comp : Option Comp
  pub bound : List Comp
  pub called : ℕ
  pub left : Bool
  pub wake : Option Op

-- after an entry of its own
abbrev pub after_own : Entry → CourseState → CourseState
after_own e s = record {
  comp = s.comp;
  bound = s.bound ++ option_to_list (created e.op e.reply);
  called = if is_wake e.op then s.called else s.called + 1;
  left = s.left || option_map_or (λ own. ends_pass own e) s.comp false;
  wake = option_map wake_op (parks e.op e.reply);
}

-- after an entry of another run: the first Start of run b that is replied Ok starts it, with its arguments bound
abbrev pub after_other_by : Option Comp → Entry → ℕ → CourseState → CourseState
after_other_by own e b s = if is_some own then s else option_map_or (λ c. record s { comp = Some c; bound = option_map_or (λ t. t.2) (start e.op) [] }) (started_on e b) s

-- after one more entry
abbrev pub next : Entry → ℕ → CourseState → CourseState
next e b s = if e.caller.0 == b then after_own e s else after_other_by s.comp e b s

-- what is known of run b: at the opening run 0 is on the main component, and no other run is started
abbrev pub stand : List Entry → ℕ → CourseState
stand [] b = record { comp = if b == 0 then Some (record { 0 = 0 }) else None; bound = []; called = 0; left = false; wake = None }
stand (e ∷ past) b = next e b (stand past b)

-- after this reply the caller has continued, or the case is over
abbrev pub goes_on : Reply → Bool
goes_on reply = not (is_ended reply || is_parked reply)

-- how many calls run b has carried out: its steps, and its end, without calls that are answered ended, and waits that
-- are not over
abbrev pub carried_on : List Entry → ℕ → ℕ
carried_on [] b = 0
carried_on (e ∷ past) b = if (e.caller.0 == b) && goes_on e.reply then carried_on past b + 1 else carried_on past b

-- ---- what a run calls next

-- what a run on this component calls next: the Wake to come, or the call of the next of its steps, and after the last the end of its behaviour
abbrev pub turn_on : Option Comp → List Step → CourseState → Option Op
turn_on (Some me) steps s = if s.left then None else Some (unwrap_or s.wake (option_map_or (operation me s.bound) (slice_get steps s.called) Op.Finish))
turn_on None steps s = None

-- the steps of the script of run b
abbrev pub steps_of : List ScriptView → ℕ → List Step
steps_of scripts b = option_map_or (λ s. s.steps) (slice_get scripts b) []

-- what run b calls next, if it was started and its pass has not ended
unfoldable pub turn : List ScriptView → List Entry → ℕ → Option Op
turn scripts past b = let s = stand past b in turn_on s.comp (steps_of scripts b) s

-- ---- courses

-- the entry is what its caller calls next, with the component table's reply; a Wake that is parked again is not recorded
pub record IsTurn (scripts : List ScriptView) (past : List Entry) (e : Entry) : Type 0 where
  pub turn : turn scripts past e.caller.0 ≡ Some e.op
  pub reply : e.reply ≡ answer (length scripts) past e.caller.0 e.op
  pub not_idle : (is_parked e.reply && is_wake e.op) ≡ false

-- a course of the test case whose run b has the b-th of these scripts
abbrev pub IsCourse : List ScriptView → List Entry → Type 0
IsCourse scripts [] = Unit {0}
IsCourse scripts (e ∷ past) = IsTurn scripts past e × IsCourse scripts past

-- it is complete: no run has a call left
abbrev pub IsComplete : List ScriptView → List Entry → Type 0
IsComplete scripts past = (b : ℕ) → b < length scripts → turn scripts past b ≡ None

-- a case that is at a course of these scripts
pub record IsOn (scripts : List ScriptView) (t : Case) : Type 0 where
  pub behaviours : t.behaviours ≡ length scripts
  pub course : IsCourse scripts (past_of t)

-- in a case at a course of these scripts the run makes this call next
abbrev pub IsNext : List ScriptView → Case → Run → Op → Type 0
IsNext scripts t run op = IsTurn scripts (past_of t) (entry_made t.behaviours (past_of t) run op)

-- run b has no call left, or only a Wake that would be parked again
abbrev pub CannotGo : List ScriptView → List Entry → ℕ → Type 0
CannotGo scripts past b = (e : Entry) → e.caller.0 ≡ b → IsTurn scripts past e → ⊥
