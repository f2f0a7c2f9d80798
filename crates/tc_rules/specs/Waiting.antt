-- Waiting for the end or the kill of components, and when a case can no longer continue.
-- All of it is this project's own: there are no timers, so a case that waits for what cannot come is stuck.
use Rattle.std.specs.{Prelude.{ℕ, ◌==◌, not, if◌then◌else◌, Bool, true, false, Option, Some, None, List, [], ◌∷◌}, List.list_all, Option.option_map_or}
use Rattle.tc_entry.specs.{Prelude.is_parked, declared.entry.Entry.Entry, declared.op.Op.Op, declared.phase.Phase.Phase, declared.reply.Reply.Reply}
use Rattle.tc_rules.specs.{History.comps, Phases.phase, Status.done, Status.killed, declared.awaited.Awaited.Awaited}

-- what a Wait or a Wake is for
abbrev pub awaited : Op → Option Awaited
awaited (Op.Wait k t) = Some (record { killed = k; target = t })
awaited (Op.Wake k t) = Some (record { killed = k; target = t })
awaited _ = None

-- the call that asks again for what a wait was for
abbrev pub wake_op : Awaited → Op
wake_op a = Op.Wake a.killed a.target

-- what the caller waits for after this call: a Wait or Wake replied Parked
abbrev pub parks : Op → Reply → Option Awaited
parks op reply = if is_parked reply then awaited op else None

-- what run b waits for: its last entry is a Wait or Wake replied Parked
abbrev pub waiting : List Entry → ℕ → Option Awaited
waiting [] b = None
waiting (e ∷ past) b = if e.caller.0 == b then parks e.op e.reply else waiting past b

-- what is awaited has come
unfoldable pub holds : List Entry → Awaited → Bool
holds past a = if a.killed then killed past a.target else done past a.target

-- a component in this phase does not keep the case from being stuck: if a run is running, it waits for what has not come
abbrev pub is_still : List Entry → Phase → Bool
is_still past (Phase.Running run) = option_map_or (λ a. not (holds past a)) (waiting past run.0) false
is_still past _ = true

-- every run that is running waits, and the target of none of them holds
unfoldable pub is_stuck : List Entry → Bool
is_stuck past = list_all (λ c. is_still past (phase past c)) (comps past)
