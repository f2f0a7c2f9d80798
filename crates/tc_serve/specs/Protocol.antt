-- The protocol: what a line asks for, when it may, what it adds to the evidence, who is woken by it, what a refused line
-- does, and how the service ends. An order has one spelling, and a refusal its words, which are this project's own. What
-- is written is in Serve.
use Rattle.std.specs.{Prelude.{ℕ, List, codes, ◌<◌, ◌^◌, false, ◌++◌, ◌≡◌, ◌==◌, ◌≤◌, ◌⊎◌, ◌&&◌, nat_lt, if◌then◌else◌, zero, suc, Bool, true, Option, Some, None, is_some, Result, Ok, Err, [], ◌∷◌, length, take, is_err}, Fmt.decimal, List.{AllByRecursion, list_all}, Option.option_map_or, Result.{result_map_both, result_unwrap_or}}
use Rattle.tc_rules.specs.{Prelude.{IsBehaviours, IsName, Run, Entry, Op, waiting, is_parked, is_wake, wake_op, entry_made}, declared.awaited.Awaited.Awaited}
use Rattle.tc_text.specs.Prelude.{move_text, IsOp, EndsNumber}
use Rattle.tc_blocks.specs.{Prelude.{naming_text, said_text, IsSentence, entries_of, is_met}, declared.line.Line.Line}
use Rattle.tc_serve.specs.declared.order.{Order.Order, TheConstants.LINE_BYTES, Refusal.Refusal}

-- why the line is refused
abbrev pub why_text : Refusal → List ℕ
why_text Refusal.Unended = codes "no line feed"
why_text Refusal.TooLong = codes "line too long"
why_text Refusal.BadRemark = codes "bad remark"
why_text Refusal.Behaviours = codes "a test case has 1 to 256 behaviours"
why_text Refusal.BadLine = codes "bad line"
why_text Refusal.CaseOpen = codes "a test case is open"
why_text Refusal.NoCase = codes "no test case is open"
why_text Refusal.NoRun = codes "no such run"
why_text Refusal.LateName = codes "late name"
why_text Refusal.Wake = codes "a wake comes of itself"
why_text Refusal.Waiting = codes "the run waits"

-- the line, without its LF, is the one spelling of what it asks for: names, sentences and operations are well formed, and numbers fit their
-- types. The one that opens a test case has its name, and how many behaviours it has
abbrev pub SpellsOrder : List ℕ → Order → Type 0
SpellsOrder line (Order.Case name n) = IsName name × IsBehaviours n × (line ≡ codes "case " ++ (name ++ (codes " " ++ decimal n)))
SpellsOrder line (Order.Named run name) = (run.0 < 2 ^ 16) × IsName name × (line ≡ naming_text run.0 name)
SpellsOrder line (Order.Move caller op) = (caller.0 < 2 ^ 16) × IsOp op × (line ≡ move_text caller.0 op)
SpellsOrder line (Order.Remark run sentence) = (run.0 < 2 ^ 16) × IsSentence sentence × (line ≡ said_text false run.0 sentence)
SpellsOrder line Order.End = line ≡ codes "end"

-- a test case: its name, how many behaviours it has, and the lines of its evidence, the newest first
pub record Played : Type 0 where
  pub name : List ℕ
  pub behaviours : ℕ
  pub lines : List Line

-- the state of the service: the test cases that were closed, the newest first, and the one that is open
pub record ServiceState : Type 0 where
  pub closed : List Played
  pub current : Option Played

-- ---- a call, and who is woken by it

-- the lines after the first k runs were woken, in the order of their numbers, each judged after those before it. A run that sleeps is woken
-- if it can continue: the entry of its wake is added, unless that is replied parked
abbrev pub woken : ℕ → List Line → ℕ → List Line
woken n lines zero = lines
woken n lines (suc k) = let now = woken n lines k in option_map_or (λ a. let e = entry_made n (entries_of now) (record { 0 = k }) (wake_op a) in
    if is_parked e.reply then now else Line.Entry e ∷ now) (waiting (entries_of now) k) now

-- ---- what may be asked of the test case that is open, and what that adds, or why it is refused

-- the test case after the call: its entry is added, and the wakes of all runs that can continue
abbrev pub moved : Played → Run → Op → Played
moved p caller op = record p { lines = woken p.behaviours (Line.Entry (entry_made p.behaviours (entries_of p.lines) caller op) ∷ p.lines) p.behaviours }

-- the call is made, unless it is a wake, or its run is one of the test case and sleeps
abbrev pub made : Run → Op → Played → Result Played Refusal
made caller op p = if is_wake op then Err Refusal.Wake
    else if nat_lt caller.0 p.behaviours && is_some (waiting (entries_of p.lines) caller.0) then Err Refusal.Waiting else Ok (moved p caller op)

-- the line of this run is added, if the run is one of the test case
abbrev pub with_added_line : Run → Line → Played → Result Played Refusal
with_added_line run l p = if nat_lt run.0 p.behaviours then Ok (record p { lines = l ∷ p.lines }) else Err Refusal.NoRun

-- so is the name of its behaviour, if no line is about the run
abbrev pub with_name : Run → List ℕ → Played → Result Played Refusal
with_name run name p = if nat_lt run.0 p.behaviours && is_met run.0 p.lines then Err Refusal.LateName else with_added_line run (Line.Named run name) p

-- ---- what a line does

-- the test case that is open becomes another, if one is open and this may be
abbrev pub with_open : ServiceState → (Played → Result Played Refusal) → Result ServiceState Refusal
with_open s change = result_map_both (λ p. record s { current = Some p }) (λ why. why) (option_map_or change s.current (Err Refusal.NoCase))

-- what is asked is done, or refused
abbrev pub after_order : ServiceState → Order → Result ServiceState Refusal
after_order s (Order.Case name n) = if is_some s.current then Err Refusal.CaseOpen else Ok (record s { current = Some (record { name = name; behaviours = n; lines = [] }) })
after_order s (Order.Named run name) = with_open s (with_name run name)
after_order s (Order.Move caller op) = with_open s (made caller op)
after_order s (Order.Remark run sentence) = with_open s (with_added_line run (Line.Remark run sentence))
after_order s Order.End = option_map_or (λ p. Ok (record { closed = p ∷ s.closed; current = None })) s.current (Err Refusal.NoCase)

-- a refused line changes nothing else: the run that sent it gets that, if it is one of a test case that is open
abbrev pub refused : ServiceState → Run → Refusal → Result ServiceState Refusal
refused s run why = with_open s (with_added_line run (Line.Refused run (why_text why)))

-- the line is of this run: it begins with its number
abbrev pub IsOf : List ℕ → ℕ → Type 0
IsOf line run = (rest : List ℕ) × EndsNumber rest × (line ≡ decimal run ++ rest)

-- the line asks for this; one that no LF ends asks for nothing
abbrev pub IsOrderOf : Bool → List ℕ → Order → Type 0
IsOrderOf ended line o = (ended ≡ true) × SpellsOrder line o

-- the line begins as a remark of some run does
abbrev pub BeginsRemark : List ℕ → Type 0
BeginsRemark line = (run : ℕ) × (text : List ℕ) × (run < 2 ^ 16) × (line ≡ said_text false run text)

-- the line would open a test case, of a number of behaviours that none has
abbrev pub OpensNone : List ℕ → Type 0
OpensNone line = (name : List ℕ) × (n : ℕ) × IsName name × (n < 2 ^ 32) × (IsBehaviours n → ⊥) × (line ≡ codes "case " ++ (name ++ (codes " " ++ decimal n)))

-- this is why a line asks for nothing, if it asks for nothing
abbrev pub IsWhyNothing : Refusal → Bool → List ℕ → Type 0
IsWhyNothing Refusal.Unended ended line = ended ≡ false
IsWhyNothing Refusal.TooLong ended line = (ended ≡ true) × (LINE_BYTES ≤ length line)
IsWhyNothing Refusal.BadRemark ended line = (ended ≡ true) × (length line < LINE_BYTES) × BeginsRemark line
IsWhyNothing Refusal.Behaviours ended line = (ended ≡ true) × (length line < LINE_BYTES) × OpensNone line
IsWhyNothing Refusal.BadLine ended line = (ended ≡ true) × (length line < LINE_BYTES) × (BeginsRemark line → ⊥) × (OpensNone line → ⊥)
IsWhyNothing _ ended line = ⊥

-- the line is refused for this: it asks for what may not be asked here, or for nothing
abbrev pub Refuses : Refusal → Bool → List ℕ → ServiceState → Type 0
Refuses why ended line s = ((o : Order) × IsOrderOf ended line o × (after_order s o ≡ Err why)) ⊎ (((o : Order) → IsOrderOf ended line o → ⊥) × IsWhyNothing why ended line)

-- this comes of a line in a state, and that is the state after it. What it asks for is done; or it is refused, and its run gets
-- that; or it is lost, since no run can get that. Outside a test case none may be lost
abbrev pub Comes : Result Order (Refusal × Option Run) → Bool → List ℕ → ServiceState → ServiceState → Type 0
Comes (Ok o) ended line s t = IsOrderOf ended line o × (after_order s o ≡ Ok t)
Comes (Err (why, Some run)) ended line s t = Refuses why ended line s × IsOf line run.0 × (refused s run why ≡ Ok t)
Comes (Err (why, None)) ended line s t =
    Refuses why ended line s × ((run : Run) → run.0 < 2 ^ 16 → IsOf line run.0 → is_err (refused s run why) ≡ true)
    × (is_some s.current ≡ true) × (t ≡ s)

-- ---- lines, one after the other

-- a line that came: its bytes, whether LF ended it, and what came of it: what was done, or why it was refused, and the run that
-- got that
pub record Sent : Type 0 where
  pub bytes : List ℕ
  pub ended : Bool
  pub came : Result Order (Refusal × Option Run)

-- no byte is LF
abbrev pub NoLf : List ℕ → Type 0
NoLf bytes = AllByRecursion (λ b. (b == 10) ≡ false) bytes

-- what is looked at of a line
abbrev pub seen : List ℕ → List ℕ
seen line = take LINE_BYTES line

-- these lines came, the newest first in the list, and this is the state after them; only the last may lack its LF
abbrev pub AreServed : List Sent → ServiceState → Type 0
AreServed [] s = s ≡ record { closed = []; current = None }
AreServed (l ∷ before) t = (s : ServiceState) × AreServed before s × (list_all (λ l. l.ended) before ≡ true) × NoLf l.bytes × Comes l.came l.ended (seen l.bytes) s t

-- the state after the end of the input: the test case that is open is closed, if one is
abbrev pub finished_state : ServiceState → ServiceState
finished_state s = result_unwrap_or (after_order s Order.End) s
