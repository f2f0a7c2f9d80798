-- What is found of a test case, the overall and local verdicts of its complete courses.
use Rattle.std.specs.{Prelude.{ℕ, ◌≡◌, ◌<◌, ◌≤◌, List, length, reverse, slice_index_or, All, Bool, true, Some}, List.AllPairs}
use Rattle.tc_rules.specs.Prelude.{level_of, Entry, Verdict, local_if_any}
use Rattle.tc_step.specs.Prelude.{ScriptView}
use Rattle.tc_course.specs.{declared.witness.Witness.Witness, Prelude.{carried_on, IsCourse, IsComplete, is_local}}

-- the verdict of each is better than those after it
abbrev pub AreFromBest : List Witness → Type 0
AreFromBest found = AllPairs (λ v w. level_of v.verdict < level_of w.verdict) found

-- there is one number for each run: in some course it carries out that many calls
pub record AreReached (scripts : List ScriptView) (reached : List ℕ) : Type 0 where
  pub as_many : length reached ≡ length scripts
  pub each : (b : ℕ) → b < length reached → (past : List Entry) × IsCourse scripts past × (carried_on past b ≡ slice_index_or reached b 0)

-- for no run fewer calls are counted than it carries out in this course
abbrev pub Covers : List ℕ → List Entry → Type 0
Covers reached past = (b : ℕ) → b < length reached → carried_on past b ≤ slice_index_or reached b 0

-- nor than it carries out in one of these
abbrev pub AreCovered : List ℕ → List Witness → Type 0
AreCovered reached found = All (λ w. Covers reached (reverse w.history)) found

-- these are that many different courses
pub record AreCourses (scripts : List ScriptView) (count : ℕ) (courses : List (List Entry)) : Type 0 where
  pub as_many : length courses ≡ count
  pub each : All (IsCourse scripts) courses
  pub once : (i j : ℕ) (d : List Entry) → i < length courses → j < length courses → slice_index_or courses i d ≡ slice_index_or courses j d → i ≡ j

-- there are that many
abbrev pub HasCourses : List ScriptView → ℕ → Type 0
HasCourses scripts count = (courses : List (List Entry)) × AreCourses scripts count courses

-- a search of that many states has met as many different courses, and counts for no run fewer calls than it carries out in
-- one of them
pub record AreAllMet (scripts : List ScriptView) (reached : List ℕ) (states : ℕ) : Type 0 where
  pub courses : List (List Entry)
  pub are : AreCourses scripts states courses
  pub counted : All (Covers reached) courses

-- at the end of some complete course component c has this local verdict
abbrev pub GivesLocal : List ScriptView → ℕ → Verdict → Type 0
GivesLocal scripts c v = (past : List Entry) × IsCourse scripts past × IsComplete scripts past × (local_if_any past c ≡ Some v)

-- each that is found is one of these
abbrev pub AreLocals : List ScriptView → List Bool → Type 0
AreLocals scripts found = (c : ℕ) (v : Verdict) → is_local found c v ≡ true → GivesLocal scripts c v

-- each of these is found
abbrev pub AllLocalsFound : List ScriptView → List Bool → Type 0
AllLocalsFound scripts found = (c : ℕ) (v : Verdict) → GivesLocal scripts c v → is_local found c v ≡ true
