-- When a case may be closed: what came back is whole, and the close of each word counted the log of its run.
use Rattle.std.specs.Prelude.{◌≡◌, List, [], map, ℕ, ◌<◌, true, None, length, reverse, All, count_by, sum_by, ◌==◌}
use Rattle.tc_rules.specs.Prelude.{Entry, comp_of, is_over, IsLegal, merge, part, given}
use Rattle.tc_board.specs.{declared.record.Record.{Record, TheVariants.{Unbegun, Closed}}, Prelude.worst_answer}
use Rattle.tc_book.specs.{OneCase.all_started, OpenCase.{OpenCase, start_of}, Passes.LeftState, Words.record_at, Hands.answers_in}

-- there is one of each of the n runs, and no other
pub record IsOneEach (n : ℕ) (lefts : List LeftState) : Type 0 where
  pub count : length lefts ≡ n
  pub within : All (λ l. l.run.0 < n) lefts
  pub each : (b : ℕ) → b < n → count_by (λ l. l.run.0 == b) lefts ≡ 1

-- what a run left fits the history
pub record IsFitting (history : List Entry) (l : LeftState) : Type 0 where
  -- its log is its part
  pub part : l.log ≡ part history l.run.0
  -- above run 0 its component and arguments are those of its Start that was replied Ok, none if there is no such Start
  pub started : 0 < l.run.0 → l.started ≡ start_of (reverse history) l.run.0

-- what came back is whole
pub record IsWhole (n : ℕ) (history : List Entry) (lefts : List LeftState) : Type 0 where
  pub one_each : IsOneEach n lefts
  pub over : is_over (reverse history) ≡ true
  pub fitting : All (IsFitting history) lefts
  -- no run makes a call before it was started
  pub started : all_started (reverse history) ≡ true
  -- the history is as long as the logs together
  pub as_long : length history ≡ sum_by (λ l. length l.log) lefts

-- the history of a case with the verdict entries of what its runs left; the merge asks only for each run and its entries
abbrev pub merged : List Entry → List LeftState → List Entry
merged history lefts = merge history (map (λ l. record { run = l.run; comp = record { 0 = 0 }; entries = l.log }) lefts)

-- the word was closed, and its close counted what it was begun with and exactly the settings of this log that were replied Ok
abbrev pub Counts : Record → List Entry → Type 0
Counts (Closed carried counted) log = given counted ≡ worst_answer carried (answers_in log)
Counts _ log = ⊥

-- the word of a run agrees with the run's log: if it was begun, it was closed, and counted the log
abbrev pub Agrees : Record → List Entry → Type 0
Agrees Unbegun log = Unit {0}
Agrees r log = Counts r log

-- what came back of an open case closes it
pub record IsMerged (b : OpenCase) (lefts : List LeftState) : Type 0 where
  -- the word of each run agrees with its log
  pub agreed : All (λ l. Agrees (record_at b.words l.run.0) l.log) lefts
  -- each reply of the merged history is the component table's
  pub legal : IsLegal b.behaviours (reverse (merged b.history lefts))
  -- what came back is whole by the merged history
  pub whole : IsWhole b.behaviours (merged b.history lefts) lefts
