-- What each kind of step shows its caller: the view of the seat afterwards, by the number that was found.
use Rattle.std.specs.Prelude.{◌≡◌, ℕ, ◌<◌, ◌==◌, if◌then◌else◌, nat_lt, List, [], ◌∷◌, ◌++◌, slice_set}
use mathlib.Core.Option.{some}
use lib.ListN.{get_elem?}
use Rattle.atomic_table.specs.Table.{Me, Step}
use Rattle.tc_entry.specs.Prelude.{UserVerdict, given}
use Rattle.tc_verdict.specs.declared.user_verdict.UserVerdict.TheVariants.{None, Pass, Inconc, Fail}
use Rattle.tc_board.specs.{Answers.worst_answer, Inside.Seats.answers_of, Inside.Seats.keeper_view, Keeper.carried_by, Rule.Fits, declared.answer.Answer.Answer, declared.answer.Answer.TheVariants.Found, declared.answer.Answer.TheVariants.Met, declared.answer.Answer.TheVariants.Shut, declared.answer.Answer.TheVariants.Taken, declared.answer.AnswerList.AnswerList, declared.record.Record.Record, declared.record.Record.TheVariants.Closed, declared.record.Record.TheVariants.Open, declared.rule.View.View}

-- a seat's view, and the slots that it holds: none
abbrev pub Seated : Type 0
Seated = Me (Unit {0}) View

-- a seat with the view of the keeper
abbrev pub IsKeeper : Seated → Type 0
IsKeeper me = me ≡ (keeper_view me.0.records me.0.lists, [])

-- the step: its word and its operand
abbrev At : Type 0
At = Step (Unit {0})

-- the verdict of a rank; above 3 it is fail
abbrev pub verdict_of : ℕ → UserVerdict
verdict_of n = if n == 0 then None else (if n == 1 then Pass else (if n == 2 then Inconc else Fail))

-- the first list with one more answer
abbrev pub add_answer : List AnswerList → Answer → List AnswerList
add_answer [] x = []
add_answer (l ∷ ls) x = record l { answers = l.answers ++ x ∷ [] } ∷ ls

-- the view of a hand with one more answer
abbrev pub with_answer : View → Answer → View
with_answer v x = record v { lists = add_answer v.lists x }

-- the view of the keeper with another record of one word
abbrev pub with_record : View → ℕ → Record → View
with_record v run r = record v { records = slice_set v.records run r }

-- the answer to a setting, by the number found
abbrev pub set_answer : UserVerdict → ℕ → Answer
set_answer v found = if nat_lt found 8 then Taken v else Shut

-- the answer to a get, by the number found
abbrev pub get_answer : ℕ → Answer
get_answer found = if nat_lt found 4 then Found (verdict_of found) else Shut

-- a setting adds its answer
abbrev pub was_set : At → Seated → ℕ → Seated → Type 0
was_set st m found m' = m' ≡ (with_answer m.0 (set_answer (verdict_of st.first) found), m.1)

-- so does a get
abbrev pub was_got : At → Seated → ℕ → Seated → Type 0
was_got st m found m' = m' ≡ (with_answer m.0 (get_answer found), m.1)

-- an unbegun word adds no answer, and the hand has had none
abbrev pub was_met : At → Seated → ℕ → Seated → Type 0
was_met st m found m' = (m' ≡ ((if found == 16 then m.0 else with_answer m.0 Met), m.1)) × (found ≡ 16 → answers_of m.0.lists ≡ [])

-- the record becomes open, with the verdict that was stored
abbrev pub was_opened : At → Seated → ℕ → Seated → Type 0
was_opened st m found m' = m' ≡ (with_record m.0 st.word (Open (verdict_of st.first)), m.1)

-- each list in the view that is of this word counts what was taken
abbrev pub Counts : At → Seated → ℕ → Type 0
Counts st m found = (p : ℕ) (l : AnswerList) → get_elem? m.0.lists p ≡ some l → l.run ≡ st.word → given (verdict_of found) ≡ worst_answer (carried_by m.0.records st.word) l.answers

-- the record becomes closed, with the verdict that was found
abbrev pub was_closed : At → Seated → ℕ → Seated → Type 0
was_closed st m found m' = (m' ≡ (with_record m.0 st.word (Closed (carried_by m.0.records st.word) (verdict_of found)), m.1)) × (found < 4) × Counts st m found

-- nothing changes; each list in the view that is of this word fits its record and the number found
abbrev pub was_seen : At → Seated → ℕ → Seated → Type 0
was_seen st m found m' =
    (m' ≡ m) × ((p : ℕ) (l : AnswerList) → get_elem? m.0.lists p ≡ some l → l.run ≡ st.word → (r : Record) × (get_elem? m.0.records l.run ≡ some r) × Fits r l.answers found)
