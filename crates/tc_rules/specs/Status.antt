-- The status of components: running, alive, done, killed.
use Rattle.std.specs.{Prelude.{ℕ, ◌||◌, not, Bool, true, false, is_some, List}, List.{list_any, list_all}}
use Rattle.tc_entry.specs.declared.{entry.Entry.Entry, op.Target.Target, phase.Phase.Phase}
use Rattle.tc_rules.specs.{History.ptcs, Phases.is_excused, Phases.last_run, Phases.phase}

-- a component in this phase is running
abbrev pub is_running : Phase → Bool
is_running (Phase.Running run) = true
is_running _ = false

-- a component in this phase is killed
abbrev pub is_killed : Phase → Bool
is_killed Phase.Killed = true
is_killed _ = false

-- a component in this phase is done: stopped or killed
abbrev pub is_done : Phase → Bool
is_done Phase.Stopped = true
is_done phase = is_killed phase

-- the answer for a target: this component passes the first test, any parallel one does, or all parallel ones pass the second
abbrev pub by_target : List Entry → (ℕ → Bool) → (ℕ → Bool) → Target → Bool
by_target past one each (Target.One c) = one c.0
by_target past one each Target.Any = list_any one (ptcs past)
by_target past one each Target.All = list_all each (ptcs past)

-- the answer to running; of all, each that was ever started is running, or another component stopped or killed it
unfoldable pub running : List Entry → Target → Bool
running past =
    by_target past (λ c. is_running (phase past c)) (λ c. not (is_some (last_run past c)) || is_running (phase past c) || is_excused past c)

-- the answer to alive: not killed
unfoldable pub alive : List Entry → Target → Bool
alive past = by_target past (λ c. not (is_killed (phase past c))) (λ c. not (is_killed (phase past c)))

-- the answer to done; of all, none is running
unfoldable pub done : List Entry → Target → Bool
done past = by_target past (λ c. is_done (phase past c)) (λ c. not (is_running (phase past c)))

-- the answer to killed
unfoldable pub killed : List Entry → Target → Bool
killed past = by_target past (λ c. is_killed (phase past c)) (λ c. is_killed (phase past c))
