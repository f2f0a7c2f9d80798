-- Parts of the public definitions that proofs speak of by a name.
use Rattle.std.specs.{Prelude.{ℕ, ◌≡◌, ◌==◌, ◌&&◌, not, if◌then◌else◌, Bool, false, Option, Some, None, is_some, List, [], ◌∷◌, filter, length, sum_by}, Option.{option_and_then, option_map, option_map_or, option_or}}
use Rattle.tc_entry.specs.{Prelude.{Run}, declared.comp.Comp.Comp, declared.entry.Entry.Entry, declared.op.Op.Op, declared.phase.Phase.Phase, declared.reply.Fault.Fault, declared.reply.Reply.Reply}
use Rattle.tc_rules.specs.{Answers.is_run_of, Faults.names, Faults.target_of, History.comp_of, History.creation, History.start, Local.local, Merge.is_by, Merge.part, Phases.phase, Waiting.holds, declared.awaited.Awaited.Awaited, declared.run_log.RunLog.RunLog}

-- the first of two that is there
abbrev pub first_some : {A : Type 0} → Option A → Option A → Option A
first_some a b = option_or a b

-- what a component is doing that no entry killed, by the run of its last start, if it was started
abbrev pub phase_if_not_killed : Option Run → Bool → Bool → Phase
phase_if_not_killed last halted alive_type =
    option_map_or (λ run. if not halted then Phase.Running run else if alive_type then Phase.Stopped else Phase.Killed) last Phase.Inactive

-- run b, which was started on this component if on any, is active
abbrev pub is_active_on : List Entry → ℕ → Option Comp → Bool
is_active_on past b comp = option_map_or (λ c. is_run_of b (phase past c.0)) comp false

-- the reply to getverdict by a run on this component
abbrev pub local_reply : List Entry → Option Comp → Reply
local_reply past comp = option_map_or (λ c. Reply.Local (local past c.0)) comp Reply.Ended

-- the error, if there is one, and otherwise the reply
abbrev pub answer_unless : Option Fault → Reply → Reply
answer_unless fault reply = option_map_or (λ f. Reply.Fault f) fault reply

-- it waits, and what it waits for has not come
abbrev pub waits_in_vain : List Entry → Option Awaited → Bool
waits_in_vain past waited = option_map_or (λ a. not (holds past a)) waited false

-- the component on which this operation starts run b
abbrev pub starts_run : Op → ℕ → Option Comp
starts_run op b = option_and_then (λ s. if s.0.0 == b then Some s.1 else None) (start op)

-- the run that this operation starts on component c
abbrev pub starts_on : Op → ℕ → Option Run
starts_on op c = option_and_then (λ s. if s.1.0 == c then Some s.0 else None) (start op)

-- the run that an operation starts
abbrev pub started_run : Op → Option Run
started_run op = option_map (λ s. s.0) (start op)

-- the operation is a Create of an alive-type component
abbrev pub is_alive_create : Op → Bool
is_alive_create op = option_map_or (λ m. m.0) (creation op) false

-- the caller's component, and that it was running this very run
abbrev pub RunsNow : List Entry → Entry → Comp → Type 0
RunsNow past e c = (comp_of past e.caller.0 ≡ Some c) × (phase past c.0 ≡ Phase.Running (record { 0 = e.caller.0 }))

-- the log of run b, if it was started: its component, and its part of the history
abbrev pub log_if : Option Comp → List Entry → ℕ → List RunLog
log_if comp history b = option_map_or (λ c. record { run = record { 0 = b }; comp = c; entries = part history b } ∷ []) comp []

-- how many entries these logs have together
abbrev pub logged : List RunLog → ℕ
logged logs = sum_by (λ log. length log.entries) logs

-- how many of these entries are by run b
abbrev pub calls_of : ℕ → List Entry → ℕ
calls_of b past = length (filter (is_by b) past)

-- the call is about Any or All
abbrev pub asks_many : Op → Bool
asks_many op = is_some (target_of op) && (length (names op) == 0)
