-- What contracts see of a hand, and what a call adds to its answers.
use Rattle.std.specs.Prelude.{ℕ, List, [], ◌∷◌, ◌++◌}
use Rattle.atomic_table.specs.Seated.{TableId}
use Rattle.tc_entry.specs.Prelude.{UserVerdict}
use Rattle.tc_board.specs.declared.{answer.Answer.Answer, hand.Said.Said, hand.Said.TheVariants.Closed, hand.Said.TheVariants.Taken}

-- its board, the run whose word it writes, and the answers that it had
pub record HandView : Type 0 where
  pub board : TableId
  pub run : ℕ
  pub answers : List Answer

-- the answer to a setting
abbrev pub answer_to_set : UserVerdict → Said → Answer
answer_to_set v Taken = Answer.Taken v
answer_to_set v Closed = Answer.Shut

-- the hand with one more answer
abbrev pub answered : HandView → Answer → HandView
answered h x = record h { answers = h.answers ++ x ∷ [] }
