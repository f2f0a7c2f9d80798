-- What a place owns, what a host sees of it, what the calls on it do, and what they answer.
use base.Fml.{Fml, fex, ftrue}
use denote.RattleType.{RattleType}
use denote.RawPtr.{Ptr}
use Rattle.std.specs.{Prelude.{ℕ, ◌≡◌, ◌≢◌, ◌<◌, ◌≤◌, ◌^◌, ◌++◌, ◌∷◌, ◌↔◌, ◌⊎◌, Bool, List, MatchOption, [], None, Option, Some, drop, if◌then◌else◌, is_some, length, true}, Option.option_map, Box.Ownership.box_owns, contracts.impls.GlobalAllocator.TheImpl.ghosts, declared.alloc.Global.Global}
use Rattle.tc_rules.specs.{Prelude.{Case, Entry, IsLegal, Op, Reply, answer, overall, past_of}, contracts.table.Table.the_row}
use Rattle.tc_text.specs.Prelude.{IsOp, move_text, reply_text}
use Rattle.tc_blocks.specs.{Histories.AreHistories, Prelude.history_text}

-- the value is in a block of the heap at the pointer, with the right to free that
abbrev pub boxed_at : (R : RattleType) → Ptr → R.Denot → Fml
boxed_at R at value = fex Global (λ alloc. box_owns (ghosts.dealloc_token alloc) R at value)

-- the table of the test case is in such a block
abbrev pub owned_at : Ptr → Option Case → Fml
owned_at at (Some case) = boxed_at the_row at case
owned_at at None = ftrue

-- what a host sees of a test case: how many behaviours it has, and its entries
abbrev pub host_view : Option Case → Option (ℕ × List Entry)
host_view case = option_map (λ t. (t.behaviours, t.history)) case

-- the room is as it was, but begins with these bytes, of which there are that many
abbrev pub Begins : List ℕ → List ℕ → ℕ → List ℕ → Type 0
Begins before after count bytes = (count ≡ length bytes) × (length bytes ≤ length before) × (after ≡ bytes ++ drop (length bytes) before)

-- there are that many bytes, more than the room has
abbrev pub Exceeds : List ℕ → ℕ → List ℕ → Type 0
Exceeds room count bytes = (count ≡ length bytes) × (length room < length bytes)

-- the room begins with these bytes, or it has no room for them and is as it was; there are that many
abbrev pub Fills : List ℕ → List ℕ → ℕ → List ℕ → Type 0
Fills before after count bytes = Begins before after count bytes ⊎ (Exceeds before count bytes × (after ≡ before))

-- the text is the one spelling of this call
abbrev pub Spells : List ℕ → ℕ → Op → Type 0
Spells text run op = (run < 2 ^ 16) × IsOp op × (text ≡ move_text run op)

-- what the component table replies to a call
abbrev pub table_reply : Case → ℕ → Op → Reply
table_reply t run op = answer t.behaviours (past_of t) run op

-- what a host sees after a call: if it was made, there is one more entry, of the call and the table's reply
abbrev pub after_call : Bool → Case → ℕ → Op → ℕ × List Entry
after_call made t run op =
    (t.behaviours, if made then t.history ++ record { caller = record { 0 = run }; op = op; reply = table_reply t run op } ∷ [] else t.history)

-- what is answered to a call by this text, on a place that held this test case and then that one
pub record IsAnswer (made : Bool) (old new : Option Case) (text before after : List ℕ) (was is number : ℕ) : Type 0 where
  -- the text spells a call, which was made or only asked about, and the room begins with the component table's reply to it
  pub done : number ≡ 0 → MatchOption old ⊥ (λ t. (run : ℕ) × (op : Op) × Spells text run op
      × Begins before after is (reply_text (table_reply t run op)) × (host_view new ≡ Some (after_call made t run op)))
  pub closed : (number ≡ 1) ↔ (old ≡ None)
  pub unspelled : (number ≡ 2) ↔ ((is_some old ≡ true) × ((run : ℕ) (op : Op) → Spells text run op → ⊥))
  -- the text spells a call, whose reply has no room
  pub no_room : number ≡ 3 → MatchOption old ⊥ (λ t. (run : ℕ) × (op : Op) × Spells text run op × Exceeds before is (reply_text (table_reply t run op)))
  pub same : number ≢ 0 → (host_view new ≡ host_view old) × (after ≡ before)
  pub count : number ≢ 0 → number ≢ 3 → is ≡ was
  pub any : number ≢ 0 → number ≢ 1 → number ≢ 2 → number ≢ 3 → (number ≡ 4) × (made ≡ true)

-- the history of a test case with this name, as text
abbrev pub written_text : List ℕ → Case → List ℕ
written_text name t = history_text 2 name t.behaviours t.history (overall (past_of t))

-- the room begins with the history, which is read so, and is legal
pub record IsHistoryGiven (case : Case) (name before after : List ℕ) (count : ℕ) : Type 0 where
  pub told : Begins before after count (written_text name case)
  pub is_read : AreHistories (written_text name case)
      (record { format = 2; name = name; behaviours = case.behaviours; first_line = 1; entries = case.history; verdict = overall (past_of case) } ∷ [])
  pub is_legal : IsLegal case.behaviours (past_of case)
