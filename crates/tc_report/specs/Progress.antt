-- What is printed about test cases as they begin and finish.
use Rattle.std.specs.{Prelude.{ℕ, ◌≡◌, ◌==◌, ◌+◌, ◌/◌, ◌&&◌, nat_lt, not, if◌then◌else◌, Bool, true, false, List, [], ◌∷◌, ◌++◌, MatchOption, None, Option, Result, OnOk, OnErr, Ok, codes, drop, filter, length, slice_get}, Fmt.decimal, Io.KnownBytes.{Appends, Keeps}, List.flat_map, Option.option_map_or}
use Rattle.tc_stream.specs.Prelude.{AppendsPrefix}
use Rattle.tc_rules.specs.Prelude.{name_of}
use Rattle.tc_report.specs.{Cause.decided_text, Report.tally_of_cases, Status.verdict_status, Summary.case_summary, declared.{cause.Cause.Cause, fault.OutFault.OutFault, progress.Progress.Progress, results.{Finished.Finished, Tally.Tally}}}

-- a place among these names, and how many there are
abbrev pub case_place : List (List ℕ) → ℕ → List ℕ
case_place names at = decimal (at + 1) ++ (codes "/" ++ decimal (length names))

-- how long something took, between these texts, if a clock said it: seconds, and three digits for the thousandths
abbrev pub time_text : List ℕ → Option (ℕ × ℕ) → List ℕ → List ℕ
time_text first time last = option_map_or (λ (t : ℕ × ℕ). first ++ ((decimal t.0 ++ (codes "." ++ drop 1 (decimal (1000 + t.1)))) ++ last)) time []

-- the line of a finished test case: its name and overall verdict, how long it took, and what decided the verdict, if it is one
-- worse than pass
abbrev pub finished_line : List ℕ → Option (ℕ × ℕ) → Finished → List ℕ
finished_line front time f =
    let why = option_map_or (λ (c : Cause). codes ": " ++ decided_text (case_summary f).names c) (case_summary f).cause [] in
    front ++ (codes " " ++ (f.name ++ (codes " " ++ (name_of f.report.verdict ++ (time_text (codes " ") time (codes " s") ++ (why ++ codes "\n"))))))

-- the status for the verdict of the test case is not 0
abbrev pub is_failure : Finished → Bool
is_failure f = nat_lt 0 (verdict_status f.report.verdict)

-- how many have passed and how many have failed, and how long all took, if a clock said it: seconds, to a tenth
abbrev pub last_line : Option (ℕ × ℕ) → Tally → List ℕ
last_line time t =
    if t.cases == 0 then []
    else decimal (t.none + t.pass) ++ (codes " passed, " ++ (decimal (t.inconc + t.fail + t.error) ++ (codes " failed"
    ++ (option_map_or (λ (s : ℕ × ℕ). codes ", " ++ (decimal s.0 ++ (codes "." ++ (decimal (s.1 / 100) ++ codes " s")))) time [] ++ codes "\n"))))

-- ---- the lines of all test cases, or of failures only; with it come the names of all

-- the line of the test case in this place as it begins, if all have lines: nothing after the last
abbrev pub begun_text : Bool × List (List ℕ) → ℕ → List ℕ
begun_text shown at =
    if shown.0 then [] else option_map_or (λ name. case_place shown.1 at ++ (codes " " ++ (name ++ codes " ..\n"))) (slice_get shown.1 at) []

-- its line as it finishes, if all have lines or it has failed
abbrev pub finished_text : Bool × List (List ℕ) → ℕ → Option (ℕ × ℕ) → Finished → List ℕ
finished_text shown at time f = if shown.0 && not (is_failure f) then [] else finished_line (case_place shown.1 at) time f

-- the lines that name those again that have failed: none if there is nothing else
abbrev pub again_lines : Bool → List Finished → List ℕ
again_lines only fs = if only then [] else flat_map (finished_line (codes "failed:") None) (filter is_failure fs)

-- the lines of these test cases from this place on, of each as it begins and as it finishes; the next one has begun or not
abbrev pub AreLinesOf : Bool × List (List ℕ) → ℕ → List Finished → Bool → List ℕ → Type 0
AreLinesOf shown at [] begun text = text ≡ (if begun then begun_text shown at else [])
AreLinesOf shown at (f ∷ fs) begun text =
    (time : Option (ℕ × ℕ)) × (rest : List ℕ) × (text ≡ begun_text shown at ++ (finished_text shown at time f ++ rest)) × AreLinesOf shown (at + 1) fs begun rest

-- by this answer each of these was reported, or the failures only, and what comes after them, or a prefix of it; nothing, if it is not
-- asked for
abbrev pub IsToldBy : Bool → Bool × List (List ℕ) → Option (List ℕ) → Option (List ℕ) → List Finished → Result (Unit {0}) OutFault → Type 0
IsToldBy false shown before after fs answer = (answer ≡ Ok tt) × Keeps before after
IsToldBy true shown before after fs answer =
    (begun : Bool) × (lines : List ℕ) × (time : Option (ℕ × ℕ)) × AreLinesOf shown 0 fs begun lines
    × OnOk answer (Appends before after (lines ++ (again_lines shown.0 fs ++ last_line time (tally_of_cases fs))))
    × OnErr answer (AppendsPrefix before after (lines ++ (again_lines shown.0 fs ++ last_line time (tally_of_cases fs))))

module _ {O E C : Type 0} (contents : E → Option (List ℕ)) where
  -- so far each of these was reported, and the lines of those that have failed are kept; or a line was not printed whole
  abbrev pub HasTold : Option (List ℕ) → List Finished → Progress O E C → Type 0
  HasTold start fs p =
      (begun : Bool) × (text : List ℕ) × AreLinesOf (p.shown.only, p.shown.names.now) 0 fs begun text × MatchOption p.fault
      ((p.tally ≡ tally_of_cases fs) × (p.begun ≡ begun) × Appends start (contents p.writer.now) text × (p.failed.now.items ≡ again_lines p.shown.only fs))
      (λ _. AppendsPrefix start (contents p.writer.now) text)
