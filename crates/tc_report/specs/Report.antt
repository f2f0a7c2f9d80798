-- The text report of a campaign, with its tally and how it ended.
use Rattle.std.specs.{Prelude.{ℕ, ◌==◌, if◌then◌else◌, List, [], ◌∷◌, ◌++◌, length, filter, codes, Option, Some, None, slice_get, unwrap_or}, Fmt.decimal, List.{enumerate_from, flat_map}, Option.option_map_or}
use Rattle.tc_rules.specs.{Prelude.{Verdict, level_of, is_parked, refusal_text, name_of, Entry, Op}, declared.{refusal.CaseError.CaseError, run_log.RunLog.RunLog}}
use Rattle.tc_text.specs.Prelude.{op_text, reply_text}
use Rattle.tc_report.specs.declared.results.{CampaignEnd.CampaignEnd, Finished.Finished, Results.Results, Tally.Tally}

-- how many of the verdicts are v
abbrev pub count_of : Verdict → List Verdict → ℕ
count_of v verdicts = length (filter (λ w. level_of w == level_of v) verdicts)

-- the tally of that many test cases, by how many have each overall verdict
abbrev pub tally_by : ℕ → (Verdict → ℕ) → Tally
tally_by cases having =
    record { cases = cases; none = having Verdict.None; pass = having Verdict.Pass; inconc = having Verdict.Inconc; fail = having Verdict.Fail; error = having Verdict.Error }

-- these test cases by their overall verdicts
abbrev pub tally_of_cases : List Finished → Tally
tally_of_cases fs = tally_by (length fs) (λ v. length (filter (λ f. level_of f.report.verdict == level_of v) fs))

-- the line of a tally
abbrev pub tally_line : Tally → List ℕ
tally_line t =
    codes "cases " ++ (decimal t.cases ++ (codes " none " ++ (decimal t.none ++ (codes " pass " ++ (decimal t.pass ++
    (codes " inconc " ++ (decimal t.inconc ++ (codes " fail " ++ (decimal t.fail ++ (codes " error " ++ (decimal t.error ++ (10 ∷ []))))))))))))

-- the case that was refused, and why
abbrev pub aborted_text : List ℕ → CaseError → List ℕ
aborted_text name why = codes "aborted at " ++ (name ++ (codes ": " ++ refusal_text why))

-- the last line of the text report
abbrev pub ending_line : CampaignEnd → List ℕ
ending_line CampaignEnd.Complete = codes "complete\n"
ending_line (CampaignEnd.StoppedAfter name) = codes "stopped after " ++ (name ++ (10 ∷ []))
ending_line (CampaignEnd.Aborted name why) = aborted_text name why ++ (10 ∷ [])

-- the case that was refused, and why, if one was
abbrev pub aborted_case : CampaignEnd → Option (List ℕ × CaseError)
aborted_case (CampaignEnd.Aborted name why) = Some (name, why)
aborted_case ending = None

-- the line on standard error that says so, if a case was refused
abbrev pub abort_text : CampaignEnd → List ℕ
abort_text ending = option_map_or (λ (c : List ℕ × CaseError). codes "ttrun: " ++ (aborted_text c.0 c.1 ++ (10 ∷ []))) (aborted_case ending) []

-- a Wake is shown as the Wait with the same target
abbrev pub shown_op : Op → Op
shown_op (Op.Wake killed target) = Op.Wait killed target
shown_op op = op

-- the line of an entry, a call and its reply: none if it was parked
abbrev pub shown_entry : Entry → List ℕ
shown_entry e = if is_parked e.reply then [] else codes "  " ++ ((op_text (shown_op e.op) ++ (codes " -> " ++ reply_text e.reply)) ++ (10 ∷ []))

-- a run that was started: its number, its behaviour's name, if it has one here, its component, and its log
abbrev pub run_text : (ℕ → List ℕ) → RunLog → List ℕ
run_text names log =
    (codes "run " ++ (decimal log.run.0 ++ (codes " " ++ (names log.run.0 ++ (codes " on " ++ (decimal log.comp.0 ++ (10 ∷ []))))))) ++ flat_map shown_entry log.entries

-- the lines of local verdicts, each with the number of its component
abbrev pub local_lines : List Verdict → List ℕ
local_lines vs = flat_map (λ p. codes "local " ++ (decimal p.0 ++ (codes " " ++ (name_of p.1 ++ (10 ∷ []))))) (enumerate_from 0 vs)

-- the line of an overall verdict
abbrev pub verdict_line : Verdict → List ℕ
verdict_line v = codes "verdict " ++ (name_of v ++ (10 ∷ []))

-- a test case: its name, its runs by their numbers, the local verdicts, and the overall verdict
abbrev pub test_case_text : List ℕ → (ℕ → List ℕ) → List RunLog → List Verdict → Verdict → List ℕ
test_case_text name names logs locals verdict =
    (codes "testcase " ++ (name ++ (10 ∷ []))) ++ (flat_map (run_text names) logs ++ (local_lines locals ++ verdict_line verdict))

-- a finished test case
abbrev pub case_text : Finished → List ℕ
case_text f = test_case_text f.name (λ b. unwrap_or (slice_get f.names b) []) f.report.logs f.report.locals f.report.verdict

-- each finished test case, the tally and the ending
abbrev pub report_text : Results → List ℕ
report_text r = flat_map case_text r.finished ++ (tally_line (tally_of_cases r.finished) ++ ending_line r.ending)
