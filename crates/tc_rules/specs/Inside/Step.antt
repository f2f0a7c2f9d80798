-- What one more entry does to what the table keeps.
use Rattle.std.specs.Prelude.{ℕ, ◌≡◌, ◌<◌, length, slice_index_or, ◌==◌, not, if◌then◌else◌, Bool, true, false, Option, Some, None, List, [], ◌∷◌, drop}
use Rattle.tc_entry.specs.{Prelude.{Verdict, Run, worse, is_ended}, declared.comp.Comp.Comp, declared.entry.Entry.Entry, declared.op.Group.Group, declared.op.Op.Op, declared.phase.Phase.Phase}
use Rattle.tc_rules.specs.{History.ends_case, Inside.Words.first_some, History.halts, History.is_comp, History.kills, History.started_on, Inside.States.all_killed, Inside.States.none_running, Local.gives, Phases.halts_from_outside, Phases.start_in, Status.is_killed, Status.is_running, Waiting.parks, declared.component_state.ComponentState.ComponentState, declared.run_state.RunState.RunState, declared.step.Scope.Scope}

-- a phase once its component is halted
abbrev pub halted : Bool → Phase → Phase
halted alive_type (Phase.Running run) = if alive_type then Phase.Stopped else Phase.Killed
halted alive_type phase = phase

-- the phase after an entry that does not kill the component, by the run that it starts there and whether it halts it
abbrev pub next_if_not_killed : Option Run → Bool → Bool → Phase → Phase
next_if_not_killed (Some run) halt alive_type phase = Phase.Running run
next_if_not_killed None halt alive_type phase = if halt then halted alive_type phase else phase

-- the phase after an entry, by whether it kills the component too
abbrev pub next_phase : Bool → Option Run → Bool → Bool → Phase → Phase
next_phase kill start halt alive_type phase = if kill then Phase.Killed else next_if_not_killed start halt alive_type phase

-- whether the component is excused after an entry
abbrev pub next_excused : Option Run → Bool → Phase → Bool → Bool
next_excused (Some run) outside phase excused = false
next_excused None outside phase excused = if is_running phase then outside else excused

-- the local verdict after an entry that gives these
abbrev pub next_local : List Verdict → Verdict → Verdict
next_local [] local = local
next_local (v ∷ vs) local = worse (next_local vs local) v

-- the state of component c after the entry, whose caller is on component own
unfoldable pub next_state : Option Comp → Entry → ℕ → ComponentState → ComponentState
next_state own e c state = record {
  phase = next_phase (kills e c) (start_in e c) (halts own e c) state.alive_type state.phase;
  alive_type = state.alive_type;
  last = first_some (start_in e c) state.last;
  excused = next_excused (start_in e c) (halts_from_outside own e c) state.phase state.excused;
  local = next_local (if is_comp own c then gives e.op e.reply else []) state.local;
}

-- the state of run b after the entry
unfoldable pub next_run : Entry → ℕ → RunState → RunState
next_run e b state = record {
  comp = first_some state.comp (started_on e b);
  waiting = if e.caller.0 == b then parks e.op e.reply else state.waiting;
}

-- the states after the entry, whose caller is on component own, each by that before it
abbrev pub AreNext : Option Comp → Entry → List ComponentState → List ComponentState → Type 0
AreNext own e before after =
    (c : ℕ) (d : ComponentState) → c < length before → slice_index_or after c d ≡ next_state own e c (slice_index_or before c d)

-- the state of run b after the entry, by that before it
abbrev pub IsNextRun : Entry → ℕ → List RunState → List RunState → Type 0
IsNextRun e b before after =
    (d : RunState) → b < length before → slice_index_or after b d ≡ next_run e b (slice_index_or before b d)

-- which states an entry may change
abbrev pub touched_own : Option Comp → Scope
touched_own None = Scope.Nothing
touched_own (Some c) = Scope.One c

abbrev pub touched_group : Group → Scope
touched_group (Group.One c) = Scope.One c
touched_group Group.All = Scope.All

abbrev pub touched_by : Option Comp → Op → Scope
touched_by own (Op.Start c run args) = Scope.One c
touched_by own (Op.Stop group) = touched_group group
touched_by own (Op.Kill group) = touched_group group
touched_by own (Op.SetVerdict v) = touched_own own
touched_by own Op.StopCase = touched_own own
touched_by own Op.Finish = touched_own own
touched_by own _ = Scope.Nothing

abbrev pub touched : Option Comp → Entry → Scope
touched own e = if ends_case e then Scope.All else if is_ended e.reply then Scope.Nothing else touched_by own e.op

-- a Stop of all if none is running, or a Kill of all if each is killed
abbrev pub finds_none : Op → List ComponentState → Bool
finds_none (Op.Stop Group.All) states = none_running (drop 1 states)
finds_none (Op.Kill Group.All) states = all_killed (drop 1 states)
finds_none _ states = false

-- a component in this phase is changed by a call on all of them that does not end the case
abbrev pub finds : Op → Phase → Bool
finds (Op.Stop Group.All) p = is_running p
finds (Op.Kill Group.All) p = not (is_killed p)
finds _ p = true

-- a component that is running is not excused
pub record IsSettled (states : List ComponentState) : Type 0 where
  pub not_excused : (c : ℕ) (d : ComponentState) → c < length states → is_running (slice_index_or states c d).phase ≡ true → (slice_index_or states c d).excused ≡ false

-- the call asks or waits: without an error it changes no component, and starts no run
abbrev pub asks : Op → Bool
asks (Op.Running target) = true
asks (Op.Alive target) = true
asks (Op.Done target) = true
asks (Op.Killed target) = true
asks (Op.Wait killed target) = true
asks (Op.Wake killed target) = true
asks Op.GetVerdict = true
asks _ = false
