-- A new board: the word of run 0 is open with none and its hand has met it, every other word is unbegun.
use Rattle.std.specs.{Prelude.{ℕ, zero, suc, List, [], ◌∷◌, map, replicate, slice_set}, List.range_with_len}
use Rattle.atomic_table.specs.Seated.{TableId}
use Rattle.tc_entry.specs.Prelude.{UserVerdict}
use Rattle.tc_board.specs.{Hand.HandView, Keeper.KeeperView, declared.answer.Answer.Answer, declared.answer.Answer.TheVariants.Met, declared.record.Record.TheVariants.Open, declared.record.Record.TheVariants.Unbegun}

-- the first answers of the hand of a run
abbrev pub first_answers : ℕ → List Answer
first_answers zero = Met ∷ []
first_answers (suc run) = []

-- the hand of a run
abbrev pub new_hand : TableId → ℕ → HandView
new_hand board run = record { board = board; run = run; answers = first_answers run }

-- the hands of n runs, from this run on
abbrev pub new_hands : TableId → ℕ → ℕ → List HandView
new_hands board run n = map (new_hand board) (range_with_len run n)

-- the keeper of n words
abbrev pub new_keeper : TableId → ℕ → KeeperView
new_keeper board n = record { board = board; records = slice_set (replicate n Unbegun) 0 (Open UserVerdict.None); gathered = [] }
