-- Courses of which the same is known, local verdicts and waits included, and what a search for local verdicts keeps.
use Rattle.std.specs.{Prelude.{ℕ, ◌+◌, ◌∷◌, ◌++◌, if◌then◌else◌, Bool, true, false, Option, Some, None, List, [], length, map, ◌≡◌, ◌==◌, slice_get, slice_index_or}, List.{flat_map, range_with_len}}
use Rattle.tc_rules.specs.Prelude.{level_of, Comp, Entry, Phase, is_alive_type, phase_if_any, overall, components, is_active, Verdict, Op, Target, Case, past_of, is_over, local, local_if_any}
use Rattle.tc_course.specs.Prelude.{CourseState, stand, IsOn, is_local}
use Rattle.tc_step.specs.Prelude.{ScriptView}
use Rattle.tc_explore.specs.{Inside.Simulation.IsAlike, declared.search.Met.Met}

-- what a component is doing, as a number
abbrev pub phase_code : Option Phase → ℕ
phase_code None = 0
phase_code (Some Phase.Inactive) = 1
phase_code (Some Phase.Stopped) = 2
phase_code (Some Phase.Killed) = 3
phase_code (Some (Phase.Running run)) = run.0 + 4

-- a component, if there is one, as a number
abbrev pub comp_code : Option Comp → ℕ
comp_code None = 0
comp_code (Some c) = c.0 + 1

-- the number of a component
abbrev pub number_of : Comp → ℕ
number_of c = c.0

-- what is waited for, as two numbers
abbrev pub target_key : Bool → Target → List ℕ
target_key killed (Target.One c) = (if killed then 2 else 1) ∷ c.0 ∷ []
target_key killed Target.Any = (if killed then 4 else 3) ∷ 0 ∷ []
target_key killed Target.All = (if killed then 6 else 5) ∷ 0 ∷ []

-- the Wake to come, if there is one
abbrev pub wake_key : Option Op → List ℕ
wake_key (Some (Op.Wake killed target)) = target_key killed target
wake_key _ = 0 ∷ 0 ∷ []

-- what a run can still call depends on this: its component, and if it continues what it has called, what is bound, and if waits
-- count the Wake to come
abbrev pub run_key : Bool → Bool → CourseState → List ℕ
run_key waits true s = comp_code s.comp ∷ 1 ∷ s.called ∷ length s.bound ∷ (map number_of s.bound ++ (if waits then wake_key s.wake else []))
run_key waits false s = comp_code s.comp ∷ 0 ∷ []

-- the same of run b
abbrev pub run_key_of : Bool → List Entry → ℕ → List ℕ
run_key_of waits past b = run_key waits (is_active past b) (stand past b)

-- a local verdict, if there is one, as a number
abbrev pub local_code : Option Verdict → ℕ
local_code None = 0
local_code (Some v) = level_of v + 1

-- what component c does, its kind, and if those count its local verdict
abbrev pub comp_key : Bool → List Entry → ℕ → List ℕ
comp_key locals past c = phase_code (phase_if_any past c) ∷ (if is_alive_type past c then 1 else 0) ∷ (if locals then local_code (local_if_any past c) ∷ [] else [])

-- The key of what n runs have done: the verdict, the components, and the runs. Local verdicts and waits count, or not.
unfoldable pub key_of : Bool → ℕ → List Entry → List ℕ
key_of all n past =
    level_of (overall past) ∷ components past
    ∷ (flat_map (comp_key all past) (range_with_len 0 (components past)) ++ flat_map (run_key_of all past) (range_with_len 0 n))

-- the same is known after both, of each run that continues and of each local verdict
pub record IsTwin (q p : List Entry) : Type 0 where
  pub alike : IsAlike q p
  pub locals : (c : ℕ) → local q c ≡ local p c
  pub stands : (b : ℕ) → is_active q b ≡ true → stand q b ≡ stand p b

-- ---- what a search keeps

-- a case at a course of these scripts that is not over
pub record IsGoing (scripts : List ScriptView) (t : Case) : Type 0 where
  pub on : IsOn scripts t
  pub going : is_over (past_of t) ≡ false

-- its keys are those of its states
abbrev pub AreKeyed : (List Entry → List ℕ) → Met → Type 0
AreKeyed of met = map (λ k. k.items) met.keys.keys ≡ map (λ t. of (past_of t)) met.states.items

-- one of these states has the key of this course
abbrev pub IsKnown : (List Entry → List ℕ) → List Case → List Entry → Type 0
IsKnown of states r = (i : ℕ) × (t : Case) × (slice_get states i ≡ Some t) × (of r ≡ of (past_of t))

-- what is found stays so
abbrev pub IsMore : List Bool → List Bool → Type 0
IsMore before after = (i : ℕ) → slice_index_or before i false ≡ true → slice_index_or after i false ≡ true

-- the same is found at each place
abbrev pub IsPadded : List Bool → List Bool → Type 0
IsPadded before after = (i : ℕ) → slice_index_or after i false ≡ slice_index_or before i false

-- at this place it is found, and nothing else is new
abbrev pub IsMarked : List Bool → List Bool → ℕ → Type 0
IsMarked before after at = (i : ℕ) → slice_index_or after i false ≡ (if i == at then true else slice_index_or before i false)

-- the local verdict of component c is found, if there is one
abbrev pub HasLocal : List Bool → List Entry → ℕ → Type 0
HasLocal found past c = (v : Verdict) → local_if_any past c ≡ Some v → is_local found c v ≡ true

-- so it is of all
abbrev pub HasLocals : List Bool → List Entry → Type 0
HasLocals found past = (c : ℕ) → HasLocal found past c
