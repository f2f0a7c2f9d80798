-- The views of the seats: each hand has one, and the keeper.
use Rattle.std.specs.{Prelude.{ℕ, zero, suc, true, false, List, [], ◌∷◌, ◌++◌, replicate, slice_get, slice_set}, Option.option_map_or}
use Rattle.tc_entry.specs.Prelude.{UserVerdict}
use Rattle.tc_board.specs.{Board.first_answers, declared.answer.Answer.Answer, declared.answer.AnswerList.AnswerList, declared.record.Record.Record, declared.record.Record.TheVariants.Open, declared.record.Record.TheVariants.Unbegun, declared.rule.View.View}

-- the answers of the hand of a run
abbrev pub list : ℕ → List Answer → AnswerList
list run answers = record { run = run; answers = answers }

-- the answers of the first of these lists
abbrev pub answers_of : List AnswerList → List Answer
answers_of lists = option_map_or (λ l. l.answers) (slice_get lists 0) []

-- the view of a hand
abbrev pub hand_view : ℕ → List Answer → View
hand_view run answers = record { lists = list run answers ∷ []; is_keeper = false; records = [] }

-- the view of the keeper
abbrev pub keeper_view : List Record → List AnswerList → View
keeper_view records lists = record { lists = lists; is_keeper = true; records = records }

-- the view that a seat is left with whose hand was taken back
abbrev pub spent_view : View
spent_view = record { lists = []; is_keeper = false; records = [] }

-- the first lists of n hands, from this run on
abbrev pub first_lists : ℕ → ℕ → List AnswerList
first_lists run zero = []
first_lists run (suc n) = list run (first_answers run) ∷ first_lists (suc run) n

-- at the opening the keeper's seat holds the list of each hand
abbrev pub opening_view : ℕ → View
opening_view n = keeper_view (slice_set (replicate n Unbegun) 0 (Open UserVerdict.None)) (first_lists 0 n)

-- only the first of these lists
abbrev pub first_list : List AnswerList → List AnswerList
first_list [] = []
first_list (l ∷ ls) = l ∷ []

-- and the others
abbrev pub other_lists : List AnswerList → List AnswerList
other_lists [] = []
other_lists (l ∷ ls) = ls

-- the view of a hand that is split off: the first list
abbrev pub split_off : View → View
split_off v = record { lists = first_list v.lists; is_keeper = false; records = [] }

-- and what the keeper's seat is left with
abbrev pub left_over : View → View
left_over v = record v { lists = other_lists v.lists }

-- the keeper's view once it took back a hand
abbrev pub taken_back : View → View → View
taken_back v w = record v { lists = v.lists ++ w.lists }
