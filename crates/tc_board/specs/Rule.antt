-- The rule of the board, for each word: how the number in it, the keeper's record and the answers of its hand fit together.
use Rattle.std.specs.Prelude.{◌≡◌, ℕ, ◌+◌, List, [], ◌≢◌, Some, slice_get, ◌<◌, ◌⊎◌}
use Rattle.tc_entry.specs.Prelude.{level_of, given}
use Rattle.tc_board.specs.{Answers.{FindsWorst, worst_answer}, declared.{answer.Answer.{Answer, TheVariants.{Shut, Met}}, record.Record.{Record, TheVariants.{Closed, Open, Unbegun}}}}

-- the number in the word: 16 while it is unbegun, the place of the worst while it is open, and 8 more once it is closed
abbrev pub word_of : Record → List Answer → ℕ
word_of Unbegun answers = 16
word_of (Open carried) answers = level_of (worst_answer carried answers)
word_of (Closed carried counted) answers = 8 + level_of (given counted)

-- What the answers are, by the record. No call found an open word closed. The verdict of a closed word counts exactly the
-- settings that were taken, and once a call found it closed, no setting is taken and no verdict is found.
abbrev pub AnswersAgree : Record → List Answer → Type 0
AnswersAgree Unbegun answers = answers ≡ []
AnswersAgree (Open carried) answers = ((i : ℕ) → slice_get answers i ≢ Some Shut) × FindsWorst carried answers
AnswersAgree (Closed carried counted) answers =
    (given counted ≡ worst_answer carried answers) × FindsWorst carried answers
    × ((i j : ℕ) (x : Answer) → slice_get answers i ≡ Some Shut → i < j → slice_get answers j ≡ Some x → (x ≡ Shut) ⊎ (x ≡ Met))

-- the rule for one word
abbrev pub Fits : Record → List Answer → ℕ → Type 0
Fits r answers word = (word ≡ word_of r answers) × AnswersAgree r answers
