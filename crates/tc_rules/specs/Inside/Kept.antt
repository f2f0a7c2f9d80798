-- What the table keeps next to its history, and how that follows from the history.
use Rattle.std.specs.Prelude.{ℕ, zero, suc, ◌≡◌, ◌+◌, ◌<◌, ◌≤◌, ◌&&◌, Bool, true, false, None, Some, is_some, List, [], ◌∷◌, length, slice_index_or}
use Rattle.tc_entry.specs.{Prelude.{IsBehaviours, Run, Verdict}, declared.comp.Comp.Comp, declared.entry.Entry.Entry, declared.limits.TheConstants.COMPONENTS, declared.phase.Phase.Phase}
use Rattle.tc_rules.specs.{Faults.all_exist, Faults.target_names, History.comp_of, History.comps, History.is_alive_type, History.is_over, Legal.IsLegal, Local.local, Phases.is_excused, Phases.last_run, Phases.phase, Phases.was_halted, Phases.was_killed, Waiting.waiting, declared.awaited.Awaited.Awaited, declared.component_state.ComponentState.ComponentState, declared.run_state.RunState.RunState}

-- what the table keeps of component c
abbrev pub state_of : List Entry → ℕ → ComponentState
state_of past c = record {
  phase = phase past c;
  alive_type = is_alive_type past c;
  last = last_run past c;
  excused = is_some (last_run past c) && is_excused past c;
  local = local past c;
}

-- what is kept of a component that is not yet made
abbrev pub blank : ComponentState
blank = record { phase = Phase.Inactive; alive_type = false; last = None; excused = false; local = Verdict.None }

-- what the table keeps of run b
abbrev pub run_of : List Entry → ℕ → RunState
run_of past b = record { comp = comp_of past b; waiting = waiting past b }

-- n numbers, from s
abbrev pub numbers_from : ℕ → ℕ → List ℕ
numbers_from s zero = []
numbers_from s (suc n) = s ∷ numbers_from (s + 1) n

-- what the table keeps after these entries: the states of all components and of n runs, and whether the case is over
pub record IsKept (n : ℕ) (past : List Entry) (states : List ComponentState) (runs : List RunState) (over : Bool) : Type 0 where
  pub behaviours : IsBehaviours n
  pub as_many_runs : length runs ≡ n
  pub numbered : comps past ≡ numbers_from 0 (length states)
  pub some_state : 1 ≤ length states
  pub not_too_many : length states ≤ COMPONENTS
  pub each_state : (c : ℕ) (d : ComponentState) → c < length states → slice_index_or states c d ≡ state_of past c
  pub fresh : (c : ℕ) → length states ≤ c → state_of past c ≡ blank
  pub each_run : (b : ℕ) (d : RunState) → b < n → slice_index_or runs b d ≡ run_of past b
  pub no_other_run : (b : ℕ) → n ≤ b → (comp_of past b ≡ None) × (waiting past b ≡ None)
  pub on_existing : (b : ℕ) (c : Comp) → comp_of past b ≡ Some c → c.0 < length states
  pub halted_if_killed : (c : ℕ) → was_killed past c ≡ true → was_halted past c ≡ true
  pub waits_for_existing : (b : ℕ) (a : Awaited) → waiting past b ≡ Some a → all_exist past (target_names a.target) ≡ true
  pub on_last : (c : ℕ) (r : Run) → last_run past c ≡ Some r → comp_of past r.0 ≡ Some (record { 0 = c })
  pub over_is : over ≡ is_over past
  pub legal : IsLegal n past
