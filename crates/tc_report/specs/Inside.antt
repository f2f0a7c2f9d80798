-- What the functions inside say, which no public clause names.
use Rattle.std.specs.{Prelude.{ℕ, ◌≡◌, ◌+◌, ◌==◌, ◌&&◌, Bool, true, false, MatchOption, None, Option, Some, List, [], ◌∷◌, ◌++◌, codes, drop, filter, if◌then◌else◌, length, map, nat_lt, not}, Global.Vec, Io.KnownBytes.Appends, List.{enumerate_from, flat_map, join_with_byte, list_any}, Option.{option_and_then, option_map_or, unwrap_or}}
use Rattle.csv.specs.{declared.writer.Writer.Writer, Writing.{default_writer, writer_setup, fields_written, has_written, writer_under, writer_pending}}
use Rattle.tc_stream.specs.Prelude.{AppendsPrefix}
use Rattle.tc_rules.specs.Prelude.{Comp, Entry, Kept, StandsFor, name_of, created, creation, is_parked, Verdict, level_of}
use Rattle.tc_blocks.specs.declared.{header.{Header.Header, Kind.Kind}, line.Line.Line as BlockLine}
use Rattle.tc_report.specs.{Blocks.{block_names, blocks_text}, Cause.decided_text, Csv.{columns_text, csv_of}, Live.form_parts, InWords.{behaviour_of, component_in}, Observers.AreTaken, Progress.{AreLinesOf, again_lines, case_place, is_failure, time_text}, Report.{count_of, report_text, tally_of_cases}, Said.{named_in, remarks_from}, Status.{ended, verdict_status}, Summary.case_summary, SummaryText.listed, Waits.{played, says_stuck}, declared.{cause.Cause.Cause, fault.OutFault.OutFault, live.LiveForm.LiveForm, naming.{Names.Names, Naming.Naming}, progress.Progress.Progress, results.{Finished.Finished, Results.Results, Tally.Tally}, said.Said.Said, summary.Summary.Summary}}

-- the bytes in memory, and then those that the writer holds back
abbrev pub written_by : Writer (Vec ℕ) → List ℕ
written_by w = (writer_under w).items ++ writer_pending w

-- with the default settings, and in no record
pub record IsBetweenRecords (w : Writer (Vec ℕ)) : Type 0 where
  pub setup : writer_setup w ≡ default_writer
  pub fields : fields_written w ≡ 0
  pub wrote : has_written w ≡ false

-- the header was written, and nothing else
pub record IsStarted (w : Writer (Vec ℕ)) : Type 0 where
  pub between : IsBetweenRecords w
  pub header : written_by w ≡ columns_text

-- how many components a test case has, and how many of them have each local verdict
abbrev pub counts_of : List Verdict → List ℕ
counts_of locals = length locals ∷ map (λ v. count_of v locals) (Verdict.None ∷ Verdict.Pass ∷ Verdict.Inconc ∷ Verdict.Fail ∷ Verdict.Error ∷ [])

-- fields with a comma between them, and LF
abbrev pub csv_line : List (List ℕ) → List ℕ
csv_line fields = join_with_byte 44 fields ++ (10 ∷ [])

-- the text of the results in this form
abbrev pub form_text : LiveForm → Results → List ℕ
form_text LiveForm.Text r = report_text r
form_text LiveForm.Csv r = csv_of (map case_summary r.finished)
form_text LiveForm.History r = blocks_text Kind.History2 r
form_text LiveForm.Evidence r = blocks_text Kind.Evidence r

-- the name of the behaviour of a run, empty if it has none here
abbrev pub name_or_none : List Naming → ℕ → List ℕ
name_or_none names b = unwrap_or (behaviour_of names b) []

-- what of it comes up to the last of these test cases
abbrev pub text_so_far : LiveForm → List Finished → List ℕ
text_so_far form fs = (form_parts form).0 ++ flat_map (form_parts form).1 fs

-- if the one is the tally of some test cases, the other is that of them and one more
abbrev pub IsOneMore : Tally → Finished → Tally → Type 0
IsOneMore before f after = (fs : List Finished) → before ≡ tally_of_cases fs → after ≡ tally_of_cases (fs ++ f ∷ [])

-- the name that a Create gave to the component that it made, if it gave one
abbrev pub made_name : Entry → List (Option (List ℕ))
made_name e = option_map_or (λ (c : Comp). option_and_then (λ m. m.1) (creation e.op) ∷ []) (created e.op e.reply) []

-- a line for the name of each behaviour, from that of this run on
abbrev pub namings : ℕ → List (List ℕ) → List BlockLine
namings run names = map (λ p. BlockLine.Named (record { 0 = p.0 }) p.1) (enumerate_from run names)

-- the first line of the block of a finished test case
abbrev pub finished_header : Kind → Finished → Header
finished_header kind f = record { kind = kind; name = f.name; behaviours = f.report.behaviours }

-- the lines inside that block: the names, and then the entries
abbrev pub case_lines : Kind → Finished → List BlockLine
case_lines kind f = namings 0 (block_names kind f) ++ map BlockLine.Entry f.report.history

-- what was said, with one line more after that many entries
abbrev pub said_with : Said → ℕ → BlockLine → Said
said_with s at l = record { names = s.names ++ named_in l; remarks = s.remarks ++ remarks_from at (l ∷ []) }

-- how many of the test cases have the overall verdict v
abbrev pub cases_of : Verdict → List Finished → ℕ
cases_of v cases = length (filter (λ f. level_of f.report.verdict == level_of v) cases)

module _ {O : Type 0} (takes : O → Finished → O → Bool → Type 0) where
  -- the observer was given each of these test cases once, in their order, and ended the campaign at the last
  pub record IsEndedAt (fs : List Finished) (before after : O) : Type 0 where
    pub others : List Finished
    pub last : Finished
    pub all : fs ≡ others ++ last ∷ []
    pub between : O
    pub each : AreTaken takes others before between
    pub at_last : takes between last after false

-- one if it is so, otherwise none
abbrev pub one_if : Bool → ℕ
one_if true = 1
one_if false = 0

-- the tally with one test case more, of this overall verdict
abbrev pub tally_with : Tally → Verdict → Tally
tally_with t v = record {
  cases = t.cases + 1;
  none = t.none + one_if (level_of v == level_of Verdict.None);
  pass = t.pass + one_if (level_of v == level_of Verdict.Pass);
  inconc = t.inconc + one_if (level_of v == level_of Verdict.Inconc);
  fail = t.fail + one_if (level_of v == level_of Verdict.Fail);
  error = t.error + one_if (level_of v == level_of Verdict.Error);
}

-- what decided the verdict of a finished test case, if it is one worse than pass
abbrev pub after_verdict : Finished → List ℕ
after_verdict f = option_map_or (λ (c : Cause). codes ": " ++ decided_text (case_summary f).names c) (case_summary f).cause []

-- the line of a finished test case with this reason, after its front
abbrev pub rest_by : List ℕ → Option (ℕ × ℕ) → Finished → List ℕ
rest_by why time f = codes " " ++ (f.name ++ (codes " " ++ (name_of f.report.verdict ++ (time_text (codes " ") time (codes " s") ++ (why ++ codes "\n")))))

-- the line that names it again, if it has failed and not only failures are printed
abbrev pub again_by : Bool → List ℕ → Finished → List ℕ
again_by only why f = if only then [] else (if is_failure f then codes "failed:" ++ rest_by why None f else [])

-- its line in this place, if it is printed
abbrev pub line_by_place : Bool × List (List ℕ) → ℕ → List ℕ → Option (ℕ × ℕ) → Finished → List ℕ
line_by_place shown at why time f = if shown.0 && not (is_failure f) then [] else case_place shown.1 at ++ rest_by why time f

module _ {O E C : Type 0} where
  -- a line was printed or not, and maybe one is kept
  pub record OnlyPrints (before after : Progress O E C) : Type 0 where
    pub others : after.observer ≡ before.observer
    pub watch : after.watch ≡ before.watch
    pub same_writer : after.writer.ghost_name ≡ before.writer.ghost_name
    pub same_failed : after.failed.ghost_name ≡ before.failed.ghost_name
    pub shown : after.shown ≡ before.shown
    pub tally : after.tally ≡ before.tally
    pub begun : after.begun ≡ before.begun
    pub fault : after.fault ≡ before.fault

-- so far each of these was reported, and a text has the lines of those that have failed; or a line was not printed whole
abbrev pub IsSoFar : Bool × List (List ℕ) → Option (List ℕ) → List Finished → Option (List ℕ) → List ℕ → Option OutFault → Tally → Bool → Type 0
IsSoFar shown start fs now again fault tally begun =
    (begins : Bool) × (text : List ℕ) × AreLinesOf shown 0 fs begins text
    × MatchOption fault ((tally ≡ tally_of_cases fs) × (begun ≡ begins) × Appends start now text × (again ≡ again_lines shown.0 fs)) (λ _. AppendsPrefix start now text)

-- a list that continues with this text continues after it, and its line has this room left
abbrev pub IsNext : List ℕ → ℕ → List ℕ → ℕ → List ℕ → Type 0
IsNext text room before left after = (ts : List (List ℕ)) → after ++ listed left ts ≡ before ++ listed room (text ∷ ts)

-- one of these calls is replied to so
abbrev pub is_cut : List Entry → Bool
is_cut past = list_any (λ e. says_stuck e.reply) past

-- the state before the first call that is replied to so; none if there is no such call
abbrev pub IsBeforeStuck : ℕ → List Entry → Option Kept → Type 0
IsBeforeStuck n past None = is_cut (played n past) ≡ false
IsBeforeStuck n past (Some state) = (is_cut (played n past) ≡ true) × StandsFor state (drop 1 (played n past))

-- an entry that was not parked
abbrev pub is_shown : Entry → Bool
is_shown e = not (is_parked e.reply)

-- a test case with a status other than 0
abbrev pub has_failed : Summary → Bool
has_failed s = nat_lt 0 (verdict_status (ended s.ending).1)

-- the numbers of the components with this local verdict
abbrev pub numbers_with : Verdict → List Verdict → List ℕ
numbers_with v locals = map (λ p. p.0) (filter (λ p. level_of p.1 == level_of v) (enumerate_from 0 locals))

-- all of them, each with its name if it has one
abbrev pub members : Names → List Verdict → Verdict → List (List ℕ)
members names locals v = map (λ p. component_in names p.0) (filter (λ p. level_of p.1 == level_of v) (enumerate_from 0 locals))
