-- What contracts see of a book: the places that it keeps, what each run was started with, and the runs that an entry wakes.
use Rattle.std.specs.{Prelude.{ℕ, ◌≡◌, ◌++◌, ◌∷◌, [], if◌then◌else◌, Bool, true, false, List, reverse, set, slice_index_or, ◌==◌, Option, Some, None}, Option.{option_and_then, option_or}, List.AllByRecursion}
use Rattle.tc_rules.specs.Prelude.{Run, Entry, Op, Reply, is_verdict_call, answer, is_parked, Comp, is_ok, start, Target, is_over}
use Rattle.tc_board.specs.declared.record.Record.{Record}
use Rattle.tc_book.specs.declared.places.Places.{Places}

-- a case that is open: how many behaviours it has, its entries without those of verdict calls, the oldest first, the
-- places kept for each run, and what was done with each run's word
pub record OpenCase : Type 0 where
  pub behaviours : ℕ
  pub history : List Entry
  pub places : List Places
  pub words : List Record

-- none of the entries is one of a verdict call
abbrev pub AreOthers : List Entry → Type 0
AreOthers past = AllByRecursion (λ e. is_verdict_call e.op ≡ false) past

-- the entries of the case, the newest first
abbrev pub open_past : OpenCase → List Entry
open_past b = reverse b.history

-- the component table's reply to a call made now
abbrev pub reply_to : OpenCase → Run → Op → Reply
reply_to b run op = answer b.behaviours (open_past b) run.0 op

-- the history with one more entry
abbrev pub with_entry : OpenCase → Run → Op → Reply → List Entry
with_entry b run op reply = b.history ++ record { caller = run; op = op; reply = reply } ∷ []

-- the places that are kept for a run, for its leaving and for the Wake of its parked wait: none for one that does not exist
abbrev pub places_at : List Places → Run → Places
places_at ps run = slice_index_or ps run.0 (record { leave = false; wake = false })

-- the places once a call of the run got this reply: if it is parked, one is kept for its Wake
abbrev pub places_after : OpenCase → Run → Reply → List Places
places_after b run r = if is_parked r then set b.places run.0 (record (places_at b.places run) { wake = true }) else b.places

-- the places once the run's Wake is made
abbrev pub without_wake : OpenCase → Run → List Places
without_wake b run = set b.places run.0 (record (places_at b.places run) { wake = false })

-- the places once the run has left
abbrev pub without_leave : OpenCase → Run → List Places
without_leave b run = set b.places run.0 (record (places_at b.places run) { leave = false })

-- the component and the arguments with which a call with this reply starts run b: a Start that was carried out
abbrev pub started_with : Op → Reply → ℕ → Option (Comp × List Comp)
started_with op reply b = if is_ok reply then option_and_then (λ s. if s.0.0 == b then Some (s.1, s.2) else None) (start op) else None

-- the component and the arguments of the first Start of run b that was replied Ok
abbrev pub start_of : List Entry → ℕ → Option (Comp × List Comp)
start_of [] b = None
start_of (e ∷ past) b = option_or (start_of past b) (started_with e.op e.reply b)

-- the run's Wake would be parked again, if it were made now
abbrev pub WouldPark : OpenCase → Run → Bool → Target → Type 0
WouldPark b run killed target = reply_to b run (Op.Wake killed target) ≡ Reply.Parked

-- a run that waited still waits: the Wake that would be parked again still would be, no run is started, and the case is
-- over if it was
pub record NobodyWakes (before after : OpenCase) : Type 0 where
  pub parked : (run : Run) (killed : Bool) (target : Target) → WouldPark before run killed target → WouldPark after run killed target
  pub starts : (b : ℕ) → start_of (open_past after) b ≡ start_of (open_past before) b
  pub over : is_over (open_past after) ≡ is_over (open_past before)
