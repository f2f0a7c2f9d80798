-- The words of the verdict board next to a history without verdict entries: what was done with the word of each run.
-- `past` lists the entries so far, the newest first, and `words` has the record of each run's word, by its number.
use Rattle.std.specs.{Prelude.{ℕ, ◌≡◌, ◌<◌, if◌then◌else◌, Bool, true, false, Option, Some, None, is_some, List, [], ◌∷◌, length, slice_index_or}, Option.{option_and_then, unwrap_or}}
use Rattle.tc_rules.specs.Prelude.{Run, UserVerdict, Comp, Entry, comp_of, started_on, last_run, is_active}
use Rattle.tc_board.specs.declared.record.Record.{Record, TheVariants.Closed, TheVariants.Open, TheVariants.Unbegun}

-- the verdict that the close of a word gave, if it was begun and closed
abbrev pub closing : Record → Option UserVerdict
closing (Closed carried counted) = Some counted
closing _ = None

-- what was done with the word of run b
abbrev pub record_at : List Record → ℕ → Record
record_at words b = slice_index_or words b Unbegun

-- the run before run b on its component: the last on it as run b was started
abbrev pub run_before : List Entry → ℕ → Option Run
run_before [] b = None
run_before (e ∷ past) b = if is_some (comp_of past b) then run_before past b else option_and_then (λ c. last_run past c.0) (started_on e b)

-- what the component of run b carried as the run was started: what the close of the word of the run before it gave
abbrev pub carried : List Record → List Entry → ℕ → UserVerdict
carried words past b = unwrap_or (option_and_then (λ run. closing (record_at words run.0)) (run_before past b)) UserVerdict.None

-- The word of a run, by its component, whether it is active, and what it began with. It is unbegun if the run was never
-- started, open if it is active, and closed if it was halted.
abbrev pub IsWordOf : Option Comp → Bool → UserVerdict → Record → Type 0
IsWordOf None active u word = word ≡ Unbegun
IsWordOf (Some c) true u word = word ≡ Open u
IsWordOf (Some c) false u word = (v : UserVerdict) × (word ≡ Closed u v)

-- the word of each run is as the history says, and was begun with what its component carried
pub record WordsAgree (n : ℕ) (past : List Entry) (words : List Record) : Type 0 where
  pub as_many : length words ≡ n
  pub each : (b : ℕ) → b < n → IsWordOf (comp_of past b) (is_active past b) (carried words past b) (record_at words b)
  -- the word of the run before another on its component is closed
  pub before : (b : ℕ) (a : Run) → run_before past b ≡ Some a → is_some (closing (record_at words a.0)) ≡ true

-- a word that was closed stays as it was
abbrev pub StayClosed : List Record → List Record → Type 0
StayClosed before after = (b : ℕ) → is_some (closing (record_at before b)) ≡ true → record_at after b ≡ record_at before b
