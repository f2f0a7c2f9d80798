-- What contracts see of the keeper, and what its calls change.
use Rattle.std.specs.Prelude.{◌≡◌, ℕ, Option, Some, slice_get, slice_set, List, [], ◌∷◌, ◌++◌}
use Rattle.atomic_table.specs.Seated.{TableId}
use Rattle.tc_entry.specs.Prelude.{UserVerdict}
use Rattle.tc_verdict.specs.declared.user_verdict.UserVerdict.TheVariants.{None}
use Rattle.tc_board.specs.{Hand.HandView, declared.{answer.AnswerList.AnswerList, record.Record.{Record, TheVariants.{Closed, Open}}}}

-- its board, what it did with each word, and the answers of the hands that it took back
pub record KeeperView : Type 0 where
  pub board : TableId
  pub records : List Record
  pub gathered : List AnswerList

-- the word of this run was begun and not closed
abbrev pub IsOpen : List Record → ℕ → Type 0
IsOpen records run = (carried : UserVerdict) × (slice_get records run ≡ Some (Open carried))

-- the verdict that a word was begun with, by its record: none if it was not begun
abbrev pub carried_in : Option Record → UserVerdict
carried_in (Some (Open carried)) = carried
carried_in (Some (Closed carried counted)) = carried
carried_in _ = None

-- the verdict that the word of this run was begun with
abbrev pub carried_by : List Record → ℕ → UserVerdict
carried_by records run = carried_in (slice_get records run)

-- the keeper with another record of one word
abbrev pub recorded : KeeperView → ℕ → Record → KeeperView
recorded k run r = record k { records = slice_set k.records run r }
