-- What contracts see of a case's state, and the histories that it represents: a new state represents no entries, a call
-- adds its entry, and each answer is about the entries. So nothing has to be known of what is kept.
use Rattle.std.specs.Prelude.{ℕ, ◌≡◌, Bool, List, ◌∷◌, reverse}
use Rattle.tc_entry.specs.{Prelude.Run, declared.entry.Entry.Entry, declared.op.Op.Op, declared.reply.Reply.Reply}
use Rattle.tc_rules.specs.{Answers.answer, Inside.Kept.IsKept, declared.component_state.ComponentState.ComponentState, declared.run_state.RunState.RunState}

-- a test case: how many behaviours it has, its entries, the oldest first, and how many more have their place
pub record Case : Type 0 where
  pub behaviours : ℕ
  pub history : List Entry
  pub room : ℕ

-- the entries of a case, the newest first
abbrev pub past_of : Case → List Entry
past_of t = reverse t.history

-- what is kept of a test case next to its history
pub record Kept : Type 0 where
  pub behaviours : ℕ
  pub states : List ComponentState
  pub runs : List RunState
  pub over : Bool

-- this is what is kept after these entries, the newest first, each of whose replies is the table's
unfoldable pub StandsFor : Kept → List Entry → Type 0
StandsFor k past = IsKept k.behaviours past k.states k.runs k.over

-- the table gives this reply to the call, whatever entries the state represents
abbrev pub IsReplyOf : Kept → Run → Op → Reply → Type 0
IsReplyOf k caller op reply = (past : List Entry) → StandsFor k past → reply ≡ answer k.behaviours past caller.0 op

-- the state after this entry represents the entries that the one before it represents, and this one
abbrev pub TakesIn : Kept → Entry → Kept → Type 0
TakesIn before e after = (past : List Entry) → StandsFor before past → StandsFor after (e ∷ past)
