-- What only the way a book is kept needs: no public clause names a word of this file.
pub mod Merging
pub mod Replies
pub mod Waiting
pub mod Words
use Rattle.std.specs.{Prelude.{ℕ, zero, suc, ◌++◌, ◌∷◌, ◌≡◌, ◌+◌, ◌≤◌, ◌<◌, ◌==◌, ◌↔◌, Bool, if◌then◌else◌, option_map, Option, Some, None, List, [], length, map, filter, reverse, sum_by, slice_index_or, All, true, false, ◌||◌, not, is_some}, Borrow.Bor, Option.{option_and_then, option_map_or}, List.list_any}
use Rattle.tc_entry.specs.declared.limits.TheConstants.{BEHAVIOURS}
use Rattle.tc_rules.specs.{declared.{awaited.Awaited.Awaited, closed.CloseFault.CloseFault, run_log.RunLog.RunLog}, Prelude.{Comp, Entry, Op, Reply, IsLegal, answer, comp_of, ends_case, started_on, waiting, part, is_by, is_other, is_verdict_call, log_of, merge, Run, UserVerdict, is_over, is_parked, start, Kept, StandsFor, Target, given, ends_pass}}
use Rattle.tc_board.specs.{Prelude.{HandView, answered, worst_answer}, declared.{answer.Answer.Answer, record.Record.{Record, TheVariants.Closed}}}
use Rattle.tc_book.specs.{Closing.{IsOneEach, IsWhole, merged}, OneCase.all_started, Hands.{answer_in, answers_in}, OpenCase.{AreOthers, OpenCase, WouldPark, open_past, places_at, reply_to, start_of}, Passes.LeftState, Words.WordsAgree, declared.{logged_book.Started.Started, places.Places.Places, until.{Lack.Lack, Until.Until}}}

-- this was left of run b
abbrev pub is_left_of : ℕ → LeftState → Bool
is_left_of b l = l.run.0 == b

-- the log of a run that left; the merge asks only for its run and its entries
abbrev pub run_log : LeftState → RunLog
run_log l = record { run = l.run; comp = record { 0 = 0 }; entries = l.log }

-- some entry of this log ended the pass on this component
abbrev pub ended_by : Comp → List Entry → Bool
ended_by own log = list_any (ends_pass own) log

-- an entry of a run
abbrev pub entry_of : Run → Op → Reply → Entry
entry_of run op reply = record { caller = run; op = op; reply = reply }

-- at the opening each run has a place for its leaving
abbrev pub opening_place : Places
opening_place = record { leave = true; wake = false }

-- one if it is so
abbrev pub one_if : Bool → ℕ
one_if b = if b then 1 else 0

-- how many places are kept for one run
abbrev pub size_of : Places → ℕ
size_of p = one_if p.leave + one_if p.wake

-- how many places are kept
abbrev pub total : List Places → ℕ
total ps = sum_by size_of ps

-- nothing is kept for a run that does not exist
abbrev pub no_place : Places
no_place = record { leave = false; wake = false }

-- an entry of a verdict call is exactly one answer of the hand
abbrev pub IsOneAnswer : Entry → Type 0
IsOneAnswer e = is_verdict_call e.op ≡ true → length (answer_in e.op e.reply) ≡ 1

-- the component and the arguments with which this operation starts run b
abbrev pub starts_with : Op → ℕ → Option (Comp × List Comp)
starts_with op b = option_and_then (λ s. if s.0.0 == b then Some (s.1, s.2) else None) (start op)

-- what a list of starts has for run b
abbrev pub start_at : List (Option (Comp × List Comp)) → ℕ → Option (Comp × List Comp)
start_at starts b = slice_index_or starts b None

-- the list has what each run was started with
abbrev pub KnowsStarts : List (Option (Comp × List Comp)) → List Entry → Type 0
KnowsStarts starts past = (b : ℕ) → start_at starts b ≡ start_of past b

-- the component of run b, by what it was started with: the main component runs run 0 from the opening
abbrev pub comp_by : ℕ → Option (Comp × List Comp) → Option Comp
comp_by b start = if b == 0 then Some (record { 0 = 0 }) else option_map (λ s. s.0) start

-- the lists are the parts of the history by the first runs
abbrev pub KnowsParts : List (List Entry) → List Entry → Type 0
KnowsParts parts history = (b : ℕ) → b < length parts → slice_index_or parts b [] ≡ part history b

-- of what is left of each part one entry was taken off: it was the first of its caller's
abbrev pub IsTaken : List (Bor (List Entry)) → List (Bor (List Entry)) → Entry → Type 0
IsTaken before after e =
    (b : ℕ) (d : Bor (List Entry)) → b < length before → (slice_index_or before b d).now ≡ (if is_by b e then e ∷ [] else []) ++ (slice_index_or after b d).now

-- the entry's caller has a part, and what is left of it does not begin with the entry
abbrev pub IsNotNext : List (Bor (List Entry)) → Entry → Type 0
IsNotNext rests e =
    (e.caller.0 < length rests) × ((d : Bor (List Entry)) (es : List Entry) → (slice_index_or rests e.caller.0 d).now ≡ e ∷ es → ⊥)

-- the hand of a run that has not met its word yet
abbrev pub IsNewHand : HandView → ℕ → Type 0
IsNewHand hand b = (hand.run ≡ b) × (hand.answers ≡ [])

-- the log of run b with these entries, if it is on a component
abbrev pub log_on : Option Comp → ℕ → List Entry → List RunLog
log_on comp b entries = option_map_or (λ c. record { run = record { 0 = b }; comp = c; entries = entries } ∷ []) comp []

-- the logs of the first n runs, by what each was started with and by these parts
abbrev pub logs_from : List (Option (Comp × List Comp)) → List (List Entry) → ℕ → List RunLog
logs_from starts parts zero = []
logs_from starts parts (suc b) = logs_from starts parts b ++ log_on (comp_by b (start_at starts b)) b (slice_index_or parts b [])

-- what a run left is what these starts have of it
pub record IsPlaced (starts : List (Option (Comp × List Comp))) (l : LeftState) : Type 0 where
  pub started : 0 < l.run.0 → l.started ≡ start_at starts l.run.0
  pub unstarted : comp_by l.run.0 (start_at starts l.run.0) ≡ None → l.log ≡ []

-- what came back is one of each run, as these starts have it
pub record ArePlaced (n : ℕ) (starts : List (Option (Comp × List Comp))) (lefts : List LeftState) : Type 0 where
  pub one_each : IsOneEach n lefts
  pub each : All (IsPlaced starts) lefts

-- these lists are the logs that came back, each at the number of its run
pub record AreLogs (n : ℕ) (parts : List (List Entry)) (lefts : List LeftState) : Type 0 where
  pub as_many : length parts ≡ n
  pub each : (b : ℕ) → b < n → slice_index_or parts b [] ≡ log_of (map run_log lefts) b

-- these logs are those lists, by the numbers of their runs
abbrev pub AreLogsOf : List (List Entry) → List RunLog → Type 0
AreLogsOf parts logs = (b : ℕ) → log_of logs b ≡ slice_index_or parts b []

-- an entry can follow these: its caller was started, and its reply is the table's
abbrev pub CanFollow : ℕ → List Entry → Entry → Type 0
CanFollow n past e = (is_some (comp_of past e.caller.0) ≡ true) × (e.reply ≡ answer n past e.caller.0 e.op)

-- whatever entries the state represents, this says whether the entry can follow them
abbrev pub SaysWhether : Kept → Entry → Bool → Type 0
SaysWhether k e said = (past : List Entry) → StandsFor k past → said ≡ true ↔ CanFollow k.behaviours past e

-- a history is walked whole: each entry can follow those before it, and the entries of each run are what there is of it
pub record IsWalk (n : ℕ) (rests : List (Bor (List Entry))) (history : List Entry) : Type 0 where
  pub legal : IsLegal n (reverse history)
  pub started : all_started (reverse history) ≡ true
  pub parts : (b : ℕ) (d : Bor (List Entry)) → b < length rests → (slice_index_or rests b d).now ≡ part history b

-- a merged history of which these are the runs' parts is that of a case that is over
pub record IsSound (n : ℕ) (logs : List (List Entry)) (history : List Entry) : Type 0 where
  pub legal : IsLegal n (reverse history)
  pub started : all_started (reverse history) ≡ true
  pub parts : KnowsParts logs history
  pub over : is_over (reverse history) ≡ true

-- What came back of a case, with the history under its lock. It is one of each run as these starts have it. They are the
-- starts of the history, which has no entries of verdict calls.
pub record CameBack (n : ℕ) (starts : List (Option (Comp × List Comp))) (parts : List (List Entry)) (history : List Entry) (lefts : List LeftState) : Type 0 where
  pub placed : ArePlaced n starts lefts
  pub logs : AreLogs n parts lefts
  pub known : KnowsStarts starts (reverse history)
  pub others : AreOthers (reverse history)

-- The same with this merged history: these starts are its starts too, and it is a merge of itself with any list of the same
-- logs.
pub record IsJoined (n : ℕ) (starts : List (Option (Comp × List Comp))) (parts : List (List Entry)) (history : List Entry) (lefts : List LeftState) : Type 0 where
  pub placed : ArePlaced n starts lefts
  pub logs : AreLogs n parts lefts
  pub known : KnowsStarts starts (reverse history)
  pub itself : (logs : List RunLog) → AreLogsOf parts logs → history ≡ merge (filter is_other history) logs

-- if the fault is Torn, the merge of this history with the logs that came back is not legal, or not whole by them
abbrev pub IsTornRightly : ℕ → List Entry → List LeftState → CloseFault → Type 0
IsTornRightly n history lefts fault =
    fault ≡ CloseFault.Torn → IsLegal n (reverse (merged history lefts)) → IsWhole n (merged history lefts) lefts → ⊥

-- a run that is started by this call is one of the first n
abbrev pub StartsBelow : Op → Reply → ℕ → Type 0
StartsBelow (Op.Start c run args) Reply.Ok n = run.0 < n
StartsBelow _ _ n = Unit {0}

-- What a book keeps. Its history is legal and has no entries of verdict calls. What it knows of starts is the
-- history's, the words follow from it, and there is room for every place.
pub record IsKept (n : ℕ) (past : List Entry) (starts : List (Option (Comp × List Comp))) (places : List Places) (count room : ℕ) (words : List Record) : Type 0 where
  pub some : 1 ≤ n
  pub few : n ≤ BEHAVIOURS
  pub legal : IsLegal n past
  pub as_many_starts : length starts ≡ n
  pub each_start : KnowsStarts starts past
  pub few_places : length places ≤ BEHAVIOURS
  pub counted : count ≡ total places
  pub covered : count ≤ room
  pub others : AreOthers past
  pub agreeing : WordsAgree n past words

-- a call of the hand had the answer of an entry with this reply
abbrev pub Says : Op → Reply → HandView → HandView → Type 0
Says op reply before after = (x : Answer) × (answer_in op reply ≡ x ∷ []) × (after ≡ answered before x)

-- the log of a started run: what the run was started with, its entries, the oldest first, and how many more have their place
pub record LogState : Type 0 where
  pub started : Started
  pub entries : List Entry
  pub room : ℕ

-- an entry of the run has ended it
abbrev pub is_closed : LogState → Bool
is_closed l = ended_by l.started.comp l.entries

-- the entries with one more of the run's
abbrev pub with_own : LogState → Op → Reply → List Entry
with_own l op reply = l.entries ++ entry_of l.started.run op reply ∷ []

-- the reply is Ended, or a dynamic error
abbrev pub is_halt : Reply → Bool
is_halt Reply.Ended = true
is_halt (Reply.Fault f) = true
is_halt _ = false

-- a run that waits for this continues: its run was started, or the case is over; or its Wake would not be parked again
abbrev pub goes_on : OpenCase → Run → Until → Bool
goes_on b run Until.Start = is_some (start_of (open_past b) run.0) || is_over (open_past b)
goes_on b run (Until.Wake killed target) = not (is_parked (reply_to b run (Op.Wake killed target)))

-- the newest entry ends the case, or starts the run
abbrev pub newest_wakes : List Entry → ℕ → Bool
newest_wakes [] b = false
newest_wakes (e ∷ past) b = ends_case e || is_some (started_on e b)

-- the run is parked for this, and its Wake would not be parked again
abbrev pub parked_goes_on : OpenCase → Run → Option Awaited → Bool
parked_goes_on b run (Some a) = goes_on b run (Until.Wake a.killed a.target)
parked_goes_on b run None = false

-- a run is woken after an entry: by the entry itself, or since it can continue after its parked wait
abbrev pub wakes : OpenCase → Run → Bool
wakes b run = newest_wakes (open_past b) run.0 || parked_goes_on b run (waiting (open_past b) run.0)

-- the run lacks this by the book: no place is kept for its Wake, or for its leaving; or it was started, so its word is what it
-- waits for
abbrev pub lacks : OpenCase → Run → Lack → Bool
lacks b run Lack.PlaceForWake = not (places_at b.places run).wake
lacks b run Lack.PlaceForLeaving = not (places_at b.places run).leave
lacks b run Lack.Word = is_some (start_of (open_past b) run.0)

-- a ticket of this run is answered so by the case: by its start, or by none if the case is over without one
pub record IsAwaitedIn (b : OpenCase) (run : Run) (start : Option (Comp × List Comp)) : Type 0 where
  pub legal : IsLegal b.behaviours (open_past b)
  pub first : start ≡ start_of (open_past b) run.0
  pub over : start ≡ None → is_over (open_past b) ≡ true

-- the run's Wake would be parked again, if a place is kept for it
abbrev pub StaysParked : OpenCase → Run → Bool → Target → Type 0
StaysParked b run killed target = (places_at b.places run).wake ≡ true → WouldPark b run killed target

-- the setting of an entry, if it was replied Ok
abbrev pub setting_in : Op → Reply → List UserVerdict
setting_in (Op.SetVerdict v) Reply.Ok = v ∷ []
setting_in _ _ = []

-- the settings of a log that were replied Ok
abbrev pub settings : List Entry → List UserVerdict
settings [] = []
settings (e ∷ es) = setting_in e.op e.reply ++ settings es
