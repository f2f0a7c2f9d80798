-- What only the way the words are settled needs: no public clause names a word of this file.
use Rattle.std.specs.{Prelude.{ℕ, ◌≡◌, ◌<◌, Bool, true, false, Option, Some, List, [], ◌∷◌, is_some, length, set, None}, Option.{option_and_then, unwrap_or}}
use Rattle.tc_rules.specs.Prelude.{Run, UserVerdict, Comp, Entry, Op, Reply, comp_of, is_active, last_run}
use Rattle.tc_board.specs.declared.record.Record.{Record, TheVariants.Closed, TheVariants.Open, TheVariants.Unbegun}
use Rattle.tc_book.specs.Words.{IsWordOf, record_at, carried, run_before, closing}

-- what the close of this run's word gave: none if there is no run
abbrev pub left_by : List Record → Option Run → UserVerdict
left_by words last = unwrap_or (option_and_then (λ run. closing (record_at words run.0)) last) UserVerdict.None

-- the last run on this component, if there is one
abbrev pub last_on : List Entry → Option Comp → Option Run
last_on past comp = option_and_then (λ c. last_run past c.0) comp

-- the word was begun and not closed yet
abbrev pub is_open : Record → Bool
is_open (Open carried) = true
is_open _ = false

-- the verdict that a word was begun with
abbrev pub opening : Record → UserVerdict
opening (Open carried) = carried
opening (Closed carried counted) = carried
opening Unbegun = UserVerdict.None

-- the record of a run's word is right, if the word of a run that no longer continues may still be open
pub record Lags (past : List Entry) (words : List Record) (b : ℕ) : Type 0 where
  pub was : Bool
  pub active : is_active past b ≡ true → was ≡ true
  pub is : IsWordOf (comp_of past b) was (carried words past b) (record_at words b)

-- the words of the runs below i follow from the history, the others may lag
pub record WordsLag (n : ℕ) (past : List Entry) (words : List Record) (i : ℕ) : Type 0 where
  pub as_many : length words ≡ n
  pub each : (b : ℕ) → b < n → Lags past words b
  pub before : (b : ℕ) (a : Run) → run_before past b ≡ Some a → is_some (closing (record_at words a.0)) ≡ true
  pub settled : (b : ℕ) → b < i → is_open (record_at words b) ≡ true → is_active past b ≡ true

-- the word of a run that is started by this call is unbegun
abbrev pub CanBegin : Op → Reply → List Record → Type 0
CanBegin (Op.Start c run args) Reply.Ok words = (run.0 < length words) × (record_at words run.0 ≡ Unbegun)
CanBegin _ _ words = Unit {0}

-- the words once that of the run that this call starts is begun
abbrev pub with_start : Op → Reply → UserVerdict → List Record → List Record
with_start (Op.Start c run args) Reply.Ok u words = set words run.0 (Open u)
with_start _ _ u words = words

-- what the component carries on which this call would start a run
abbrev pub carried_to : List Record → List Entry → Op → UserVerdict
carried_to words past (Op.Start c run args) = left_by words (last_run past c.0)
carried_to words past _ = UserVerdict.None

-- what the component carried on which the newest entry would start a run
abbrev pub carried_to_newest : List Record → List Entry → UserVerdict
carried_to_newest words [] = UserVerdict.None
carried_to_newest words (e ∷ past) = carried_to words past e.op
