-- The component table: the reply to every call, by what came before it.
use Rattle.std.specs.{Prelude.{ℕ, ◌==◌, ◌&&◌, if◌then◌else◌, Bool, false, List}, Option.option_map_or}
use Rattle.tc_entry.specs.{declared.{entry.Entry.Entry, op.Op.Op, phase.Phase.Phase, reply.{Fault.Fault, Reply.Reply}}, Prelude.Run}
use Rattle.tc_rules.specs.{Faults.components, Faults.fault, History.comp_of, Local.local, Phases.phase, Status.alive, Status.done, Status.killed, Status.running, Waiting.holds, Waiting.is_stuck}

-- run b is the one that its component is running
abbrev pub is_run_of : ℕ → Phase → Bool
is_run_of b (Phase.Running run) = run.0 == b
is_run_of b _ = false

-- run b is active: it was started, and its component is running it
unfoldable pub is_active : List Entry → ℕ → Bool
is_active past b = option_map_or (λ c. is_run_of b (phase past c.0)) (comp_of past b) false

-- the reply to a call that is no error; a Wake by run 0 gets the error stuck if the case is stuck
abbrev pub plain_answer : List Entry → ℕ → Op → Reply
plain_answer past b (Op.Create alive name) = Reply.Made (record { 0 = components past })
plain_answer past b (Op.Running t) = Reply.Answer (running past t)
plain_answer past b (Op.Alive t) = Reply.Answer (alive past t)
plain_answer past b (Op.Done t) = Reply.Answer (done past t)
plain_answer past b (Op.Killed t) = Reply.Answer (killed past t)
plain_answer past b (Op.Wait k t) = if holds past (record { killed = k; target = t }) then Reply.Matched else Reply.Parked
plain_answer past b (Op.Wake k t) =
    if holds past (record { killed = k; target = t }) then Reply.Matched else if (b == 0) && is_stuck past then Reply.Fault Fault.Stuck else Reply.Parked
plain_answer past b Op.GetVerdict = option_map_or (λ c. Reply.Local (local past c.0)) (comp_of past b) Reply.Ended
plain_answer past b _ = Reply.Ok

-- the reply to a call by run b, if there are n behaviours: the error, if there is one
unfoldable pub answer : ℕ → List Entry → ℕ → Op → Reply
answer n past b op =
    if is_active past b then option_map_or (λ f. Reply.Fault f) (fault n past b op) (plain_answer past b op) else Reply.Ended

-- the entry of this call, with the component table's reply
abbrev pub entry_made : ℕ → List Entry → Run → Op → Entry
entry_made n past run op = record { caller = run; op = op; reply = answer n past run.0 op }
