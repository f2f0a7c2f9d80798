-- What is counted over the states of all components.
use Rattle.std.specs.Prelude.{ℕ, ◌≡◌, ◌+◌, ◌≤◌, ◌&&◌, not, if◌then◌else◌, Bool, false, Some, None, is_some, List, [], ◌∷◌, length, drop}
use Rattle.tc_entry.specs.{declared.limits.TheConstants.COMPONENTS, declared.phase.Phase.Phase, Prelude.Verdict}
use Rattle.tc_rules.specs.{Inside.States.worst_local, Status.is_done, Status.is_killed, Status.is_running, declared.component_state.ComponentState.ComponentState}

abbrev pub bit : Bool → ℕ
bit b = if b then 1 else 0

-- was started, and is neither running nor excused
abbrev pub is_lapsed : ComponentState → Bool
is_lapsed s = is_some s.last && not (is_running s.phase) && not s.excused

-- how many of the states pass
abbrev pub count_of : (ComponentState → Bool) → List ComponentState → ℕ
count_of p [] = 0
count_of p (s ∷ ss) = bit (p s) + count_of p ss

-- what is made of a component by its creation
abbrev pub made_state : Bool → ComponentState
made_state alive_type = record { phase = Phase.Inactive; alive_type = alive_type; last = None; excused = false; local = Verdict.None }

-- the main component, at the opening
abbrev pub main_state : ComponentState
main_state = record { phase = Phase.Running (record { 0 = 0 }); alive_type = false; last = Some (record { 0 = 0 }); excused = false; local = Verdict.None }

-- the counts are over all states but the first
pub record IsCounted (states : List ComponentState) (running done killed lapsed : ℕ) (worst : Verdict) : Type 0 where
  pub some : 1 ≤ length states
  pub few : length states ≤ COMPONENTS
  pub running_is : running ≡ count_of (λ s. is_running s.phase) (drop 1 states)
  pub done_is : done ≡ count_of (λ s. is_done s.phase) (drop 1 states)
  pub killed_is : killed ≡ count_of (λ s. is_killed s.phase) (drop 1 states)
  pub lapsed_is : lapsed ≡ count_of is_lapsed (drop 1 states)
  pub worst_is : worst ≡ worst_local states
