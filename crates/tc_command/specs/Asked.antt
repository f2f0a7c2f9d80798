-- What the arguments ask for.
use Rattle.std.specs.{Prelude.{ℕ, ◌≡◌, ◌++◌, Bool, true, false, ◌&&◌, ◌||◌, not, List, [], ◌∷◌, Option, Some, None, Result, Ok, Err, All, IfSome, codes, find, if◌then◌else◌, is_none, option_map, unwrap_or}, List.list_any, Str.bytes_eq}
use Prim.Native.String.{String}
use Rattle.clap.specs.{Takes.is_given, Words.{HasKind, Row, Text, all_of, first_of, fault_of, matches_of, subcommand_of}, Kinds.{Kinds, or_else}, declared.error.kind.ErrorKind.TheVariants.{ArgumentConflict, MissingRequiredArgument}}
use Rattle.tc_entry.specs.Prelude.{IsName, IsPattern, ShardView, Verdict, name_of}
use Rattle.tc_command.specs.{Command.{IsShardOf, IsStatesOf, cases_app, offer_of, subcommands, ttrun}, declared.{command.Subcommand.{Subcommand, TheVariants.Run}, read.{Refused.Refused, TheConstants.APART}, task.{Choice.Choice, ExploreOptions.ExploreOptions, Form.Form, ReportForm.ReportForm, RunOptions.RunOptions, Task.Task}, word.WordFault.{WordFault, TheVariants.{Only, Progress, Shard, States, StopOn, Suite}}}}

-- the subcommand that is named, with its options; any other name is `run`, and so are options without a name
abbrev pub command_line_of : List Row → Option (Text × List Row) → Subcommand × List Row
command_line_of rows named =
    let line = unwrap_or named (codes "run", rows) in (unwrap_or (find (λ s. bytes_eq (offer_of s).0 line.0) subcommands) Run, line.1)

-- what a table has next to the first option of it that is given
abbrev pub first_given : {A : Type 0} → List Row → List (String × A) → Option A
first_given rows table = option_map (λ p. p.1) (find (λ p. is_given (codes p.0) rows) table)

-- the form that the options of `run` ask for
abbrev pub form_of : List Row → Form
form_of rows =
    unwrap_or (first_given rows (("csv", Form.Csv) ∷ ("history", Form.History) ∷ ("evidence", Form.Evidence)
    ∷ ("junit", Form.Junit (first_of (codes "suite") rows)) ∷ [])) Form.Text

-- the form that the options of `report` ask for, if they ask for one
abbrev pub report_form_of : List Row → Option ReportForm
report_form_of rows =
    first_given rows (("text", ReportForm.Text) ∷ ("csv", ReportForm.Csv) ∷ ("junit", ReportForm.Junit (first_of (codes "suite") rows))
    ∷ ("html", ReportForm.Html) ∷ ("summary", ReportForm.Summary) ∷ [])

-- the first of these options is given, without the second
abbrev pub lacks : List Row → String → String → Bool
lacks rows first second = is_given (codes first) rows && not (is_given (codes second) rows)

-- a shard of histories is chosen, or what is on a page, and there is no script
abbrev pub lacks_script : List Row → Bool
lacks_script rows = lacks rows "shard" "script" || (is_given (codes "html") rows && lacks rows "only" "script")

-- the options lack one that they need: a script, a form, or one that another needs
abbrev pub lacks_option : Subcommand → List Row → Bool
lacks_option Subcommand.Check rows = lacks_script rows
lacks_option Subcommand.Model rows = false
lacks_option Subcommand.Report rows = lacks_script rows || (is_none (report_form_of rows) || lacks rows "suite" "junit")
lacks_option subcommand rows = lacks rows "suite" "junit" || (lacks rows "times" "junit" || lacks rows "last" "failed")

-- why options are refused: two that exclude each other, or options without one that they need; none if they are taken
abbrev pub option_faults : Subcommand × List Row → Kinds
option_faults line =
    if list_any (λ p. is_given p.0.now line.1 && list_any (λ o. is_given o.now line.1) p.1.now) APART then ArgumentConflict ∷ []
    else (if lacks_option line.0 line.1 then MissingRequiredArgument ∷ [] else [])

-- faults are explained: if that is asked for, and at a terminal unless it is declined
abbrev pub is_explained : Bool → List Row → Bool
is_explained at_terminal rows = is_given (codes "explain") rows || (at_terminal && not (is_given (codes "no-explain") rows))

-- the options choose these test cases
pub record Chooses (rows : List Row) (c : Choice) : Type 0 where
  pub only : c.only.items ≡ unwrap_or (all_of (codes "only") rows) []
  pub shard : IsShardOf (first_of (codes "shard") rows) c.shard
  pub failed : c.failed ≡ is_given (codes "failed") rows
  pub last : c.last ≡ is_given (codes "last") rows
  pub long : c.long ≡ is_given (codes "long") rows

-- the options choose these test cases, and ask that faults are explained, or not
abbrev pub AsksFor : Bool → List Row → Choice → Bool → Type 0
AsksFor at_terminal rows c explains = Chooses rows c × (explains ≡ is_explained at_terminal rows)

-- the options ask for a run so
pub record AsksRun (at_terminal : Bool) (rows : List Row) (o : RunOptions) : Type 0 where
  pub form : o.form ≡ form_of rows
  pub times : o.times ≡ is_given (codes "times") rows
  pub live : o.live ≡ is_given (codes "live") rows
  pub progress : o.progress ≡ is_given (codes "progress") rows
  pub failures : first_of (codes "progress") rows ≡ (if o.failures then Some (codes "failures") else None)
  pub stop_on : first_of (codes "stop-on") rows ≡ option_map name_of o.stop_on
  pub choice : AsksFor at_terminal rows o.choice o.explains

-- the options ask for such an exploration
pub record AsksExplore (at_terminal : Bool) (rows : List Row) (o : ExploreOptions) : Type 0 where
  pub histories : o.histories ≡ is_given (codes "history") rows
  pub evidence : o.evidence ≡ is_given (codes "evidence") rows
  pub details : o.details ≡ is_given (codes "details") rows
  pub locals : o.locals ≡ is_given (codes "locals") rows
  pub states : IsStatesOf (first_of (codes "states") rows) o.states
  pub choice : AsksFor at_terminal rows o.choice o.explains

-- the subcommand with its options asks for this task
abbrev pub Asks : Bool → Subcommand × List Row → Task → Type 0
Asks at (Subcommand.Check, rows) (Task.Check c explains) = (is_given (codes "script") rows ≡ false) × AsksFor at rows c explains
Asks at (Subcommand.Check, rows) (Task.Compare None c explains) = (is_given (codes "script") rows ≡ true) × AsksFor at rows c explains
Asks at (Subcommand.Model, rows) (Task.Model c explains) = AsksFor at rows c explains
Asks at (Subcommand.Replay, rows) (Task.Replay explains) = explains ≡ is_explained at rows
Asks at (Subcommand.Report, rows) (Task.Report f c explains) = (is_given (codes "script") rows ≡ false) × (report_form_of rows ≡ Some f) × AsksFor at rows c explains
Asks at (Subcommand.Report, rows) (Task.Compare (Some f) c explains) = (is_given (codes "script") rows ≡ true) × (report_form_of rows ≡ Some f) × AsksFor at rows c explains
Asks at (Subcommand.Explore, rows) (Task.Explore o) = AsksExplore at rows o
Asks at (Subcommand.Run, rows) (Task.Run o) = (is_given (codes "list") rows ≡ false) × AsksRun at rows o
Asks at (Subcommand.Run, rows) (Task.List c explains) = (is_given (codes "list") rows ≡ true) × AsksFor at rows c explains
Asks at (Subcommand.Serve, rows) Task.Serve = Unit {0}
Asks at line task = ⊥

-- the value of the option of this fault names something, and so does each of --only
abbrev pub IsGoodWord : List Row → WordFault → Type 0
IsGoodWord rows Shard = (s : Option ShardView) × IsShardOf (first_of (codes "shard") rows) s
IsGoodWord rows Only = All IsPattern (unwrap_or (all_of (codes "only") rows) [])
IsGoodWord rows Suite = IfSome (first_of (codes "suite") rows) IsName
IsGoodWord rows StopOn = (v : Option Verdict) × (first_of (codes "stop-on") rows ≡ option_map name_of v)
IsGoodWord rows Progress = (only : Bool) × (first_of (codes "progress") rows ≡ (if only then Some (codes "failures") else None))
IsGoodWord rows States = (n : ℕ) × IsStatesOf (first_of (codes "states") rows) n

-- a value names nothing, and it is the first in this order
abbrev pub HasBadWord : List Row → WordFault → Type 0
HasBadWord rows fault = (before after : List WordFault) × (Shard ∷ Only ∷ Suite ∷ StopOn ∷ Progress ∷ States ∷ [] ≡ before ++ fault ∷ after)
    × All (IsGoodWord rows) before × (IsGoodWord rows fault → ⊥)

-- What a line is read as, in which the command finds these faults: the task that it asks for, or clap's error. Its kind is that
-- of its first fault, or that it asks for help or the version: the command's, or if it has none the options'. If it has none, it may be an
-- option value that names nothing.
abbrev pub IsReadAs : Bool → Kinds → Subcommand × List Row → Result Task Refused → Type 0
IsReadAs at_terminal found line (Ok task) = (or_else found (option_faults line) ≡ []) × Asks at_terminal line task
IsReadAs at_terminal found line (Err (Refused.Line e)) = HasKind (or_else found (option_faults line)) e
IsReadAs at_terminal found line (Err (Refused.Word fault)) = (or_else found (option_faults line) ≡ []) × HasBadWord line.1 fault

-- what the arguments of the program are read as
abbrev pub IsReading : Bool → List Text → Result Task Refused → Type 0
IsReading at_terminal words = IsReadAs at_terminal (fault_of ttrun words) (command_line_of (matches_of ttrun words) (subcommand_of ttrun words))

-- what those of a program with test cases of its own are read as: as those of `run`
abbrev pub IsCasesReading : List Text → Result Task Refused → Type 0
IsCasesReading words = IsReadAs false (fault_of cases_app words) (Subcommand.Run, matches_of cases_app words)
