-- Why a block has no model: its first line that no script can bring, and what is the matter with it.
use Rattle.std.specs.{Prelude.{ℕ, ◌≡◌, ◌≢◌, ◌<◌, ◌≤◌, ◌+◌, ◌&&◌, ◌||◌, ◌⊎◌, nat_le, nat_lt, not, if◌then◌else◌, Bool, true, false, Option, Some, None, IfSome, is_some, List, [], ◌∷◌, length, reverse, slice_get, take}, List.list_any}
use Rattle.tc_entry.specs.declared.limits.TheConstants.{ARGUMENTS}
use Rattle.tc_rules.specs.Prelude.{Entry, Verdict, answer, is_finish, is_parked, is_wake, names, overall, start}
use Rattle.tc_step.specs.declared.limits.TheConstants.{STEPS}
use Rattle.tc_course.specs.Prelude.{stand, turn}
use Rattle.tc_blocks.specs.{Prelude.entries_of, declared.{block.Block.Block, line.Line.Line}}
use Rattle.tc_model.specs.{Naming.{given_to, lacking}, declared.{given.Starter.Starter, reason.Reason.Reason, reason.Refusal.Refusal}}

-- A behaviour of a script can call this after these entries, with this reply: its run is one of the n, was started, and its pass has not
-- ended. What is due is no wake, or it is this call, which is not parked again. A start names one of the n, and gives the main
-- component's run nothing.
pub record CanCall (n : ℕ) (past : List Entry) (e : Entry) : Type 0 where
  pub run : e.caller.0 < n
  pub runs : (is_some (stand past e.caller.0).comp && not (stand past e.caller.0).left) ≡ true
  pub due : (stand past e.caller.0).wake ≡ (if is_wake e.op then Some e.op else None)
  pub not_idle : (is_parked e.reply && is_wake e.op) ≡ false
  pub starts : IfSome (start e.op) (λ s. (s.0.0 < n) × (s.0.0 ≡ 0 → s.2 ≡ []))

-- the test holds of a run that lacks a component which the entry names
abbrev pub some_lacking : List Entry → Entry → (ℕ → Starter → Bool) → Bool
some_lacking past e test = list_any (λ c. list_any (test c.0) (lacking past e.caller.0 c.0)) (names e.op)

-- no script brings this entry after these, for this reason
abbrev pub EntryHas : ℕ → List Entry → Entry → Reason → Type 0
EntryHas n past e Reason.NotLegal = e.reply ≢ answer n past e.caller.0 e.op
EntryHas n past e Reason.NotCalled = CanCall n past e → ⊥
EntryHas n past e Reason.ManySteps = ((is_wake e.op || is_finish e.op) ≡ false) × (STEPS ≤ (stand past e.caller.0).called)
EntryHas n past e Reason.NotGiven = some_lacking past e (λ c s. nat_le s.there c) ≡ true
EntryHas n past e Reason.ManyArguments = some_lacking past e (λ c s. nat_lt ARGUMENTS (length (given_to (e ∷ past) s.run.0))) ≡ true
EntryHas n past e _ = ⊥

-- the line after these entries has this reason; there is none after all of them, and this is the verdict then
abbrev pub LineHas : ℕ → List Entry → Verdict → Option Line → Reason → Type 0
LineHas n past v (Some (Line.Entry e)) r = EntryHas n past e r
LineHas n past v None Reason.NotLegal = v ≢ overall past
LineHas n past v None Reason.NotOver = (b : ℕ) × (b < n) × (is_some (turn [] past b) ≡ true)
LineHas n past v _ _ = ⊥

-- the line at this place of the block, counted from 0 after its first line, has this reason
abbrev pub Has : Block → ℕ → Reason → Type 0
Has b at r = LineHas b.header.behaviours (reverse (entries_of (take at b.lines))) b.verdict (slice_get b.lines at) r

-- the reasons that a line may have, the first one first
abbrev pub line_reasons : List Reason
line_reasons = Reason.NotLegal ∷ Reason.NotCalled ∷ Reason.ManySteps ∷ Reason.NotGiven ∷ Reason.ManyArguments ∷ Reason.NotOver ∷ []

-- of these reasons it is the first that holds
abbrev pub IsFirstOf : List Reason → (Reason → Type 0) → Reason → Type 0
IsFirstOf [] holds r = ⊥
IsFirstOf (q ∷ qs) holds r = ((q ≡ r) × holds q) ⊎ ((holds q → ⊥) × IsFirstOf qs holds r)

-- the refusal names the first line that has a reason, and its first one
pub record IsFirstFault (b : Block) (r : Refusal) : Type 0 where
  pub at : ℕ
  pub line : r.line ≡ b.first_line + at + 1
  pub reason : IsFirstOf line_reasons (Has b at) r.reason
  pub first : (k : ℕ) (q : Reason) → k < at → Has b k q → ⊥
