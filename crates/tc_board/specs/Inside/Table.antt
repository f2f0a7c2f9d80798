-- The rule of the board as a fact about its table: the words, and the views of all seats.
use Rattle.std.specs.Prelude.{◌≡◌, ℕ, true, List, map, length, slice_index}
use mathlib.Core.Option.{some}
use lib.ListN.{get_elem?}
use Rattle.atomic_table.specs.Table.{State}
use Rattle.tc_board.specs.{Inside.Seats.list, Rule.Fits, declared.answer.Answer.Answer, declared.answer.AnswerList.AnswerList, declared.record.Record.Record, declared.rule.View.View}

-- of one word: the keeper's record, the answers of its hand, and the seat in whose view they are
pub record Row : Type 0 where
  pub record_is : Record
  pub answers : List Answer
  pub seat : ℕ

-- the row of these three
abbrev pub row : Record → List Answer → ℕ → Row
row r answers seat = record { record_is = r; answers = answers; seat = seat }

-- the record of a row
abbrev pub record_of : Row → Record
record_of r = r.record_is

-- this list is that of its row, and is in the view of this seat
abbrev pub IsAt : List Row → ℕ → AnswerList → Type 0
IsAt rows seat l = (r : Record) × (get_elem? rows l.run ≡ some (row r l.answers seat))

-- the lists in the view of a seat are those of rows that name the seat, and the keeper's seat knows each record
pub record Knows (rows : List Row) (keeper seat : ℕ) (v : View) : Type 0 where
  pub lists : (p : ℕ) (l : AnswerList) → get_elem? v.lists p ≡ some l → IsAt rows seat l
  pub records : v.is_keeper ≡ true → (seat ≡ keeper) × (v.records ≡ map record_of rows)

-- the answers of a row are in the view of the seat that it names
abbrev pub Stands : List View → ℕ → Row → Type 0
Stands views run r = (v : View) × (p : ℕ) × (get_elem? views r.seat ≡ some v) × (get_elem? v.lists p ≡ some (list run r.answers))

-- the rule holds of each word, and the answers of each hand are in the view of one seat only
pub record Holds (s : State (Unit {0}) View) : Type 0 where
  pub rows : List Row
  pub keeper : ℕ
  pub as_many : length s.words ≡ length rows
  pub each_word : (run : ℕ) (r : Row) → get_elem? rows run ≡ some r → Fits r.record_is r.answers (slice_index s.words run)
  pub each_seat : (seat : ℕ) (v : View) → get_elem? s.views seat ≡ some v → Knows rows keeper seat v
  pub each_list : (run : ℕ) (r : Row) → get_elem? rows run ≡ some r → Stands s.views run r
