-- What only the code needs: parts of what is known of a run, and what is kept of the runs of a course.
use Rattle.std.specs.{Prelude.{ℕ, ◌+◌, ◌&&◌, if◌then◌else◌, Bool, false, Option, List, ◌≡◌, ◌==◌, ◌<◌, length, slice_index_or}, Option.{option_map_or, option_map}}
use Rattle.tc_rules.specs.Prelude.{Comp, Entry, Op, Reply, ends_pass, Case, past_of, wake_op, parks, is_wake, is_parked}
use Rattle.tc_step.specs.{declared.step.Step.Step, Prelude.operation}
use Rattle.tc_course.specs.Course.{goes_on, CourseState, carried_on, next, stand}

-- a Wake that is parked again; none is recorded
abbrev pub is_idle : Op → Reply → Bool
is_idle op reply = is_parked reply && is_wake op

-- the Wake that follows a parked call
abbrev pub wake_for : Op → Option Op
wake_for op = option_map wake_op (parks op Reply.Parked)

-- the Wake to come after this call
abbrev pub wake_if : Op → Reply → Option Op
wake_if op reply = option_map wake_op (parks op reply)

-- the entry, by a run on this component, ends its pass
abbrev pub ends : Option Comp → Entry → Bool
ends own e = option_map_or (λ c. ends_pass c e) own false

-- how many calls a run has carried out after one more entry, by whether it is its own
abbrev pub one_more_if : Bool → Entry → ℕ → ℕ
one_more_if own e k = if own && goes_on e.reply then k + 1 else k

-- the call of a step; after the last step the behaviour ends
abbrev pub call_of : Comp → List Comp → Option Step → Op
call_of me bound step = option_map_or (operation me bound) step Op.Finish

-- what is known of run b after one more entry if it is run r, and otherwise what was known of it
abbrev pub next_for : ℕ → Entry → ℕ → CourseState → CourseState
next_for r e b s = if r == b then next e b s else s

-- what is kept of each run is what the entries say
pub record IsKept (t : Case) (standings : List CourseState) : Type 0 where
  pub as_many : length standings ≡ t.behaviours
  pub each : (b : ℕ) (d : CourseState) → b < t.behaviours → slice_index_or standings b d ≡ stand (past_of t) b

-- each of these is what was known of its run, and one more entry
abbrev pub TakesIn : Entry → List CourseState → List CourseState → Type 0
TakesIn e before after =
    (b : ℕ) (d : CourseState) → b < length before → slice_index_or after b d ≡ next e b (slice_index_or before b d)

-- what was known of run r is followed by what is known of it after one more entry; of all others the same is known
abbrev pub TakesInFor : ℕ → Entry → List CourseState → List CourseState → Type 0
TakesInFor r e before after =
    (b : ℕ) (d : CourseState) → b < length before → slice_index_or after b d ≡ next_for r e b (slice_index_or before b d)

-- what is kept is how many calls each run has carried out
pub record IsCounted (t : Case) (counts : List ℕ) : Type 0 where
  pub as_many : length counts ≡ t.behaviours
  pub each : (b : ℕ) → b < t.behaviours → slice_index_or counts b 0 ≡ carried_on (past_of t) b

-- each of these numbers is what it was, one more for the caller of an entry that has continued
abbrev pub CountsOn : Entry → List ℕ → List ℕ → Type 0
CountsOn e before after =
    (b : ℕ) → b < length before → slice_index_or after b 0 ≡ one_more_if (e.caller.0 == b) e (slice_index_or before b 0)
