-- What only the way the merge is made needs: no public clause names a word of this file.
use Rattle.std.specs.{Prelude.{ℕ, suc, ◌≡◌, ◌<◌, ◌≤◌, Option, List, [], length, reverse, slice_index_or}, Borrow.Bor, Option.option_map_or}
use Rattle.tc_rules.specs.Prelude.{Run, Entry, in_place, verdict_calls_after}

-- what the table has of run b, and this if it has no such run
abbrev pub entries_of : List (Bor (List Entry)) → ℕ → Bor (List Entry) → List Entry
entries_of table b d = (slice_index_or table b d).now

-- these are the entries after the first other entry of those
abbrev pub AreAfterOther : List Entry → List Entry → Type 0
AreAfterOther log rest = (k : ℕ) → verdict_calls_after k rest ≡ verdict_calls_after (suc k) log

-- if one table has entries of run b, the other has those after the first other entry of them
abbrev pub IsMovedOn : List (Bor (List Entry)) → List (Bor (List Entry)) → ℕ → Type 0
IsMovedOn before after b = (d : Bor (List Entry)) → b < length before → AreAfterOther (entries_of before b d) (entries_of after b d)

-- the verdict entries at the head of the log of this run, if there is one
abbrev pub head_at_start : (ℕ → List Entry) → Option Run → List Entry
head_at_start log run = option_map_or (λ b. verdict_calls_after 0 (log b.0)) run []

-- the history with the verdict entries that are put in place; the history is in the order in which it was made
abbrev pub placed : (ℕ → List Entry) → List Entry → List Entry
placed log history = in_place log (reverse history)

-- the table has the log of each run, by its number; the runs beyond it have none
pub record Has (table : List (Bor (List Entry))) (log : ℕ → List Entry) : Type 0 where
  pub each : (b : ℕ) (d : Bor (List Entry)) → b < length table → (slice_index_or table b d).now ≡ log b
  pub none : (b : ℕ) → length table ≤ b → log b ≡ []
