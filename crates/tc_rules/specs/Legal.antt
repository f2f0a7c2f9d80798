-- Histories in which each reply is the component table's, and the first entry of a list that has another.
use Rattle.std.specs.Prelude.{ℕ, ◌≡◌, true, List, [], ◌∷◌, ◌++◌, ◌≢◌, length, reverse}
use Rattle.tc_entry.specs.declared.{entry.Entry.Entry, op.Op.Op, phase.Phase.Phase, reply.Reply.Reply}
use Rattle.tc_rules.specs.{Answers.answer, History.exists, Phases.phase, declared.check.CheckFault.CheckFault}

-- each reply is the one that the table gives to what came before
abbrev pub IsLegal : ℕ → List Entry → Type 0
IsLegal n [] = Unit {0}
IsLegal n (e ∷ past) = (e.reply ≡ answer n past e.caller.0 e.op) × IsLegal n past

-- every component is killed, and every call is replied Ended
pub record IsAllOver (n : ℕ) (past : List Entry) : Type 0 where
  pub killed : (c : ℕ) → exists past c ≡ true → phase past c ≡ Phase.Killed
  pub ended : (b : ℕ) (op : Op) → answer n past b op ≡ Reply.Ended

-- what a fault says of the list: the entries before this place are legal, and the one there has another reply than the
-- table's, which is given
abbrev pub IsFaultOf : ℕ → List Entry → CheckFault → Type 0
IsFaultOf n list (CheckFault.Differs at reply) =
    (before : List Entry) × (e : Entry) × (behind : List Entry) × (list ≡ before ++ e ∷ behind) × (at ≡ length before)
    × IsLegal n (reverse before) × (reply ≡ answer n (reverse before) e.caller.0 e.op) × (e.reply ≢ reply)
IsFaultOf n list CheckFault.NoMemory = Unit {0}
