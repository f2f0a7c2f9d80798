-- What one entry does to the runs of a legal history. Proofs of this crate, and of those that use it, cite these laws.
use Rattle.std.specs.Prelude.{ℕ, ◌≡◌, ◌&&◌, ◌||◌, not, Bool, true, false, is_some, List, ◌∷◌}
use Rattle.tc_entry.specs.{declared.entry.Entry.Entry, declared.op.Op.Op, declared.op.Target.Target, declared.reply.Reply.Reply, Prelude.is_fault}
use Rattle.tc_rules.specs.{Answers.answer, History.comp_of, History.is_over, History.start}

-- the operation is one that halts components if it is no error
abbrev pub halting_op : Op → Bool
halting_op (Op.Stop group) = true
halting_op (Op.Kill group) = true
halting_op Op.StopCase = true
halting_op Op.Finish = true
halting_op _ = false

-- the operation starts, halts and kills nothing
abbrev pub keeps_phases : Op → Bool
keeps_phases op = not (halting_op op || is_some (start op))

-- after this reply the caller continues
abbrev pub lets_go_on : Reply → Bool
lets_go_on Reply.Ended = false
lets_go_on Reply.Parked = false
lets_go_on (Reply.Fault f) = false
lets_go_on _ = true

-- the entry changes no component's phase, and its caller continues
abbrev pub is_quiet : Op → Reply → Bool
is_quiet op reply = keeps_phases op && lets_go_on reply

-- a run that waited still waits: a wait that would be parked again still would be, no run is started, and the case is
-- over if it was
pub record WakesNobody (n : ℕ) (past : List Entry) (e : Entry) : Type 0 where
  pub parked : (b : ℕ) (killed : Bool) (target : Target) → answer n past b (Op.Wake killed target) ≡ Reply.Parked → answer n (e ∷ past) b (Op.Wake killed target) ≡ Reply.Parked
  pub runs : (b : ℕ) → comp_of (e ∷ past) b ≡ comp_of past b
  pub over : is_over (e ∷ past) ≡ is_over past

-- an entry of this operation and reply may halt runs
abbrev pub may_halt : Op → Reply → Bool
may_halt op reply = halting_op op || is_fault reply
