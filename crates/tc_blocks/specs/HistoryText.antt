-- The entries that a block of a history may have.
use Rattle.std.specs.Prelude.{ℕ, ◌≡◌, ◌≢◌, ◌<◌, ◌^◌, Bool, List, Some}
use Rattle.tc_rules.specs.Prelude.{Entry, Op}
use Rattle.tc_text.specs.Prelude.{IsOp, IsReply}

-- an entry of a block of this format: its numbers are those of their types, and format 1 has no names of components
pub record IsEntry (f : ℕ) (e : Entry) : Type 0 where
  pub caller : e.caller.0 < 2 ^ 16
  pub op : IsOp e.op
  pub reply : IsReply e.reply
  pub names : f ≡ 1 → (alive : Bool) (name : List ℕ) → e.op ≢ Op.Create alive (Some name)
