-- What the functions inside say.
use Rattle.std.specs.{Prelude.{ℕ, ◌≡◌, ◌+◌, ◌-◌, ◌<◌, ◌≤◌, ◌^◌, if◌then◌else◌, Bool, true, false, is_some, Option, Some, None, Result, Ok, Err, List, [], ◌∷◌, ◌++◌, length, MatchBool, MatchResult, codes, is_err}, Io.KnownBytes.{Appends, Consumes}, List.{list_all, list_any}, Option.option_map_or}
use Rattle.tc_stream.specs.Prelude.{AppendsPrefix}
use Rattle.tc_rules.specs.{Prelude.{Run, IsBehaviours, Kept, StandsFor, waiting, Entry, Op, Reply, entry_made, Verdict, is_over, overall, answer, is_parked, wake_op}, declared.awaited.Awaited.Awaited}
use Rattle.tc_blocks.specs.{declared.{line.Line.Line, met.MetRuns.MetRuns}, Prelude.{entries_of, AreMet}}
use Rattle.tc_serve.specs.{Protocol.{AreServed, IsOf, IsOrderOf, NoLf, OpensNone, Played, Refuses, Sent, ServiceState, after_order, finished_state, moved, refused, seen}, Serve.{HasEnded, bytes_of, lines_messages, stand_text, worst_case}, declared.{service.{ServeFault.ServeFault, Served.Served}, open_case.OpenCase.OpenCase, order.{Order.Order, Refusal.Refusal}, server.Server.Server, serving.Serving.Serving}}

-- the verdict that a test case counts as: error if it is not over
abbrev pub counted : Played → Verdict
counted p = if is_over (entries_of p.lines) then overall (entries_of p.lines) else Verdict.Error

-- and about the end of the input, by whether a test case is open
abbrev pub end_told : Bool → List ℕ
end_told inside = if inside then codes "ttrun: the input ended inside a test case" ++ (10 ∷ []) else []

-- no run gets this refusal of the line
abbrev pub IsNobodys : List ℕ → Refusal → ServiceState → Type 0
IsNobodys line why s = (run : Run) → run.0 < 2 ^ 16 → IsOf line run.0 → is_err (refused s run why) ≡ true

-- no run that can continue sleeps: the wake of each run that sleeps would be parked
abbrev pub IsSettled : Played → Type 0
IsSettled p = (b : ℕ) (a : Awaited) → b < p.behaviours → waiting (entries_of p.lines) b ≡ Some a → answer p.behaviours (entries_of p.lines) b (wake_op a) ≡ Reply.Parked

-- the entry of a call, with the component table's reply
abbrev pub called : ℕ → List Line → Run → Op → Entry
called n lines caller op = entry_made n (entries_of lines) caller op

-- the line is neither a move nor a remark
abbrev pub IsOther : Order → Type 0
IsOther (Order.Move caller op) = ⊥
IsOther (Order.Remark run sentence) = ⊥
IsOther _ = Unit {0}

-- this is why a line that is neither a move nor a remark asks for nothing
abbrev pub IsWhyOther : Refusal → List ℕ → Type 0
IsWhyOther Refusal.Behaviours line = OpensNone line
IsWhyOther Refusal.BadLine line = OpensNone line → ⊥
IsWhyOther _ line = ⊥

-- ---- the runs that sleep

-- of n runs none from run k on sleeps
abbrev pub AreAwake : ℕ → ℕ → List Entry → Type 0
AreAwake k n past = (b : ℕ) → k ≤ b → b < n → waiting past b ≡ None

-- ---- the test case that is open

-- the test case with one more line
abbrev pub with_line : Played → Line → Played
with_line p l = record p { lines = l ∷ p.lines }

-- this is kept of its history, and of the runs that its lines are about
pub record IsKept (state : Kept) (met : MetRuns) (p : Played) : Type 0 where
  pub behaviours : state.behaviours ≡ p.behaviours
  pub few : IsBehaviours p.behaviours
  pub stands : StandsFor state (entries_of p.lines)
  pub met_are : AreMet met p.lines

-- it is kept so
pub record IsOpen (o : OpenCase) (p : Played) : Type 0 where
  pub kept : IsKept o.state o.met p
  pub few : o.waited ≤ p.behaviours
  pub awake : AreAwake o.waited p.behaviours (entries_of p.lines)

-- after these closed ones the text of the test case is what was written before and this
abbrev pub IsText : Played → List Played → List ℕ → List ℕ → Type 0
IsText p closed before out = before ++ out ≡ stand_text (record { closed = closed; current = Some p })

-- it is kept so, and its text is
pub record Holds (o : OpenCase) (p : Played) (closed : List Played) (before out : List ℕ) : Type 0 where
  pub is : IsOpen o p
  pub text : IsText p closed before out

-- an entry
abbrev pub entry : Run → Op → Reply → Entry
entry caller op reply = record { caller = caller; op = op; reply = reply }

-- the lines after a call, before any run is woken
abbrev pub after_call : Played → Run → Op → List Line
after_call p caller op = Line.Entry (called p.behaviours p.lines caller op) ∷ p.lines

-- a call is made, and has this reply; who sleeps is kept as before
pub record IsCalled (caller : Run) (op : Op) (reply : Reply) (o o' : OpenCase) (out written : List ℕ) : Type 0 where
  pub same : o'.waited ≡ o.waited
  pub replied : (p : Played) → IsKept o.state o.met p → reply ≡ (called p.behaviours p.lines caller op).reply
  pub kept : (p : Played) → IsKept o.state o.met p → IsKept o'.state o'.met (record p { lines = after_call p caller op })
  pub text : (p : Played) (closed : List Played) (before : List ℕ) → IsKept o.state o.met p → IsText p closed before out → IsText (record p { lines = after_call p caller op }) closed before written

-- run b, of which this is the wait if it sleeps, is woken if it can continue
abbrev pub woken_from : ℕ → List Line → ℕ → Option Awaited → List Line
woken_from n lines b wait = option_map_or (λ a. let e = called n lines (record { 0 = b }) (wake_op a) in if is_parked e.reply then lines else Line.Entry e ∷ lines) wait lines

-- so is a run that sleeps
abbrev pub woken_once : ℕ → List Line → ℕ → List Line
woken_once n lines b = woken_from n lines b (waiting (entries_of lines) b)

-- it becomes another
abbrev pub Becomes : (Played → Played) → OpenCase → OpenCase → List ℕ → List ℕ → Type 0
Becomes change o o' out written = (p : Played) (closed : List Played) (before : List ℕ) → Holds o p closed before out → Holds o' (change p) closed before written

-- after an entry with this reply, whose operation keeps the phases or may not, no run can continue that could not before
abbrev pub wakes_nobody : Bool → Reply → Bool
wakes_nobody keeps Reply.Ended = true
wakes_nobody keeps Reply.Parked = false
wakes_nobody keeps (Reply.Fault f) = false
wakes_nobody keeps _ = keeps

-- a run makes a call while nobody sleeps who can continue, and then all are woken who can
abbrev pub Moves : Run → Op → OpenCase → OpenCase → List ℕ → List ℕ → Type 0
Moves caller op o o' out written = (p : Played) (closed : List Played) (before : List ℕ) → IsSettled p → Holds o p closed before out → Holds o' (moved p caller op) closed before written

-- between two lines it is kept so, and nobody sleeps who can continue
pub record IsAtRest (o : OpenCase) (p : Played) : Type 0 where
  pub opened : IsOpen o p
  pub settled : IsSettled p

-- it is at rest, and its text is
pub record Rests (o : OpenCase) (p : Played) (closed : List Played) (before out : List ℕ) : Type 0 where
  pub is : IsAtRest o p
  pub text : IsText p closed before out

-- it becomes another, or is refused that, and nothing changes
abbrev pub Changes : (Played → Result Played Refusal) → Option Refusal → OpenCase → OpenCase → List ℕ → List ℕ → Type 0
Changes change why o o' out written = (p : Played) (closed : List Played) (before : List ℕ) → Rests o p closed before out
    → MatchResult (change p) (λ q. (why ≡ None) × Rests o' q closed before written) (λ e. (why ≡ Some e) × Rests o' p closed before written)

-- ---- the server

-- before the first line
abbrev pub start : ServiceState
start = record { closed = []; current = None }

-- a test case is kept so and at rest, or none is open
abbrev pub IsCurrent : Option OpenCase → Option Played → Type 0
IsCurrent None None = Unit {0}
IsCurrent None (Some p) = ⊥
IsCurrent (Some o) None = ⊥
IsCurrent (Some o) (Some p) = IsAtRest o p

-- this is the server's state, whose text is what was written before and this
pub record StandsAs (v : Server) (s : ServiceState) (before out : List ℕ) : Type 0 where
  pub current : IsCurrent v.current s.current
  pub worst : v.worst ≡ worst_case s
  pub text : before ++ out ≡ stand_text s

-- what is asked is done, or refused, and nothing changes
abbrev pub Tries : (ServiceState → Result ServiceState Refusal) → Option Refusal → Server → Server → List ℕ → List ℕ → Type 0
Tries ask why v w out written = (s : ServiceState) (before : List ℕ) → StandsAs v s before out
    → MatchResult (ask s) (λ t. (why ≡ None) × StandsAs w t before written) (λ e. (why ≡ Some e) × StandsAs w s before written)

-- what the line asks for is done, or it is refused, and nothing changes
abbrev pub TriesLine : Bool → List ℕ → Option Refusal → Server → Server → List ℕ → List ℕ → Type 0
TriesLine ended line None v w out written = (s : ServiceState) (before : List ℕ) → StandsAs v s before out
    → (o : Order) × (t : ServiceState) × IsOrderOf ended line o × (after_order s o ≡ Ok t) × StandsAs w t before written
TriesLine ended line (Some why) v w out written = (s : ServiceState) (before : List ℕ) → StandsAs v s before out → Refuses why ended line s × StandsAs w s before written

-- the run that the line begins with gets this refusal, or no run gets one
abbrev pub TellsRun : List ℕ → Refusal → Bool → Server → Server → List ℕ → List ℕ → Type 0
TellsRun line why true v w out written = (s : ServiceState) (before : List ℕ) → StandsAs v s before out
    → (run : Run) × (t : ServiceState) × IsOf line run.0 × (refused s run why ≡ Ok t) × StandsAs w t before written
TellsRun line why false v w out written = (s : ServiceState) (before : List ℕ) → StandsAs v s before out → IsNobodys line why s × StandsAs w s before written

-- ---- lines that come in pieces

-- these lines were served, which are counted; what was written before and this is their text, and so it is with reports
pub record Counts (v : Serving) (lines : List Sent) (s : ServiceState) (before out before' told : List ℕ) : Type 0 where
  pub served : AreServed lines s
  pub stands : StandsAs v.server s before out
  pub tells : before' ++ told ≡ lines_messages lines
  pub many : v.lines ≡ length lines
  pub refused : v.refused ≡ list_any (λ l. is_err l.came) lines

-- of these bytes the lines that have ended were served, and what is looked at of the next one is kept
pub record IsFed (bytes : List ℕ) (v : Serving) (before out before' told : List ℕ) : Type 0 where
  pub lines : List Sent
  pub stand : ServiceState
  pub last : List ℕ
  pub parts : bytes ≡ bytes_of lines ++ last
  pub all : list_all (λ l. l.ended) lines ≡ true
  pub last_is : NoLf last
  pub kept : v.line.items ≡ seen last
  pub counts : Counts v lines stand before out before' told

-- the fault is none of a device
abbrev pub IsOwn : ServeFault → Type 0
IsOwn ServeFault.Read = ⊥
IsOwn ServeFault.Write = ⊥
IsOwn _ = Unit {0}

-- why a line ends the service
abbrev pub IsBadLine : ServeFault → Bool → List ℕ → List Sent → ServiceState → Type 0
IsBadLine (ServeFault.Line n why) ended line lines s = (n ≡ length lines + 1) × (is_some s.current ≡ false) × Refuses why ended (seen line) s
IsBadLine ServeFault.TooLong ended line lines s = 2 ^ 64 - 1 ≤ length lines
IsBadLine ServeFault.NoMemory ended line lines s = Unit {0}
IsBadLine _ ended line lines s = ⊥

-- the service is at this line, which has ended or is the last
pub record IsAtLine (line : List ℕ) (lines : List Sent) (stand : ServiceState) (v : Serving) (before out before' told : List ℕ) : Type 0 where
  pub all : list_all (λ l. l.ended) lines ≡ true
  pub last_is : NoLf line
  pub kept : v.line.items ≡ seen line
  pub counts : Counts v lines stand before out before' told

-- the line is served
abbrev pub Serves : Bool → Serving → Serving → List ℕ → List ℕ → List ℕ → List ℕ → Type 0
Serves ended v w out written told told' = (line : List ℕ) (lines : List Sent) (s : ServiceState) (before before' : List ℕ) → IsAtLine line lines s v before out before' told
    → (came : Result Order (Refusal × Option Run)) × (t : ServiceState) × Counts w (record { bytes = line; ended = ended; came = came } ∷ lines) t before written before' told'

-- it ends the service
abbrev pub Fails : Bool → Serving → List ℕ → List ℕ → ServeFault → Type 0
Fails ended v out told f = (line : List ℕ) (lines : List Sent) (s : ServiceState) (before before' : List ℕ) → IsAtLine line lines s v before out before' told → IsBadLine f ended line lines s

-- the test case that is open is closed, if one is, and that is reported
abbrev pub Closes : Serving → Serving → List ℕ → List ℕ → List ℕ → List ℕ → Type 0
Closes v w out written told told' = (lines : List Sent) (s : ServiceState) (before before' : List ℕ) → Counts v lines s before out before' told
    → StandsAs w.server (finished_state s) before written × (before' ++ told' ≡ lines_messages lines ++ end_told (is_some s.current))

-- these bytes are taken
abbrev pub Feeds : List ℕ → Serving → Serving → List ℕ → List ℕ → List ℕ → List ℕ → Type 0
Feeds bytes v w out written told told' = (read before before' : List ℕ) → IsFed read v before out before' told → IsFed (read ++ bytes) w before written before' told'

-- these bytes are taken, except the rest, which is shorter
pub record TakesPiece (bytes rest : List ℕ) (v w : Serving) (out written told told' : List ℕ) : Type 0 where
  pub piece : List ℕ
  pub parts : bytes ≡ piece ++ rest
  pub less : length rest < length bytes
  pub fed : Feeds piece v w out written told told'

-- the service ends in these bytes
abbrev pub StopsIn : List ℕ → Serving → List ℕ → List ℕ → List ℕ → List ℕ → ServeFault → Type 0
StopsIn bytes v out written told told' f =
    (read before before' : List ℕ) (input : Option (List ℕ)) → IsFed read v before out before' told
    → HasEnded (read ++ bytes) input (before ++ written) (before' ++ told') (Err f)

-- these bytes are lines that were served, of which the last may lack its LF
pub record IsEnd (bytes : List ℕ) (v : Serving) (before out before' told : List ℕ) : Type 0 where
  pub lines : List Sent
  pub stand : ServiceState
  pub parts : bytes ≡ bytes_of lines
  pub counts : Counts v lines stand before out before' told

-- ---- devices

-- what comes of a turn: the service continues, or it ends so
abbrev pub IsTurn : Type 0 → (Result Served ServeFault → Type 0) → Result (Option Served) ServeFault → Type 0
IsTurn Goes Ends (Ok None) = Goes
IsTurn Goes Ends (Ok (Some r)) = Ends (Ok r)
IsTurn Goes Ends (Err f) = Ends (Err f)

-- a device took the text, or a prefix of it
abbrev pub IsTaken : Bool → Option (List ℕ) → Option (List ℕ) → List ℕ → Type 0
IsTaken told before after text = MatchBool told (Appends before after text) (AppendsPrefix before after text)

-- standard error gets the text if it took all before it
abbrev pub Hears : Bool → Bool → Option (List ℕ) → Option (List ℕ) → List ℕ → Type 0
Hears true told before after text = IsTaken told before after text
Hears false told before after text = (told ≡ false) × (after ≡ before)

-- these bytes were read in this number of turns, and what came of them is written and reported
pub record IsAt (input input' output output' errors errors' : Option (List ℕ)) (told : Bool) (turns : ℕ) (v : Serving) : Type 0 where
  pub bytes : List ℕ
  pub read : Consumes input input' bytes
  pub many : turns ≤ length bytes
  pub before : List ℕ
  pub before' : List ℕ
  pub fed : IsFed bytes v before [] before' []
  pub written : Appends output output' before
  pub told_is : IsTaken told errors errors' before'
