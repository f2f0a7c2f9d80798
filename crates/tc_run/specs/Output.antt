-- What `run` writes.
use Rattle.std.specs.Prelude.{ℕ, ◌≡◌, Bool, true, false, List, Option, Some, None, length, map}
use Rattle.tc_report.specs.{declared.{fault.OutFault.OutFault, live.LiveForm.LiveForm, results.Results.Results, stopwatch.Times.Times}, Prelude.{blocks_text, csv_of, report_text, LeavesPrefix, junit_of, no_times, case_summary, results_summaries}}
use Rattle.tc_blocks.specs.declared.header.Kind.{Kind}
use Rattle.tc_command.specs.declared.{command.TheConstants.VERSION, task.Form.Form}
use Rattle.tc_answer.specs.declared.fault.RunFault.{RunFault}

-- the form in which test cases are written as they finish, if it is asked for that they are; a JUnit report has none,
-- since its head counts all of them
abbrev pub live_form : Bool → Form → Option LiveForm
live_form false form = None
live_form true Form.Text = Some LiveForm.Text
live_form true Form.Csv = Some LiveForm.Csv
live_form true Form.History = Some LiveForm.History
live_form true Form.Evidence = Some LiveForm.Evidence
live_form true (Form.Junit suite) = None

-- nothing is known of times, unless they are asked for: then there is one for each of n test cases, if a clock said it
abbrev pub AreTimes : Bool → ℕ → Times → Type 0
AreTimes false n times = times ≡ no_times
AreTimes true n times = length times.cases ≡ n

-- the text of the results of test cases with these names and times in this form
abbrev pub results_in_form : Form → Times → List (List ℕ) → Results → List ℕ
results_in_form Form.Text times names r = report_text r
results_in_form Form.Csv times names r = csv_of (map case_summary r.finished)
results_in_form Form.History times names r = blocks_text Kind.History2 r
results_in_form Form.Evidence times names r = blocks_text Kind.Evidence r
results_in_form (Form.Junit suite) times names r = junit_of VERSION.now suite times (results_summaries names r)

-- the fault for an output that was not written whole
abbrev pub of_output : OutFault → RunFault
of_output OutFault.NoMemory = RunFault.NoMemory
of_output OutFault.Write = RunFault.Write

-- why a text was not written whole: without memory nothing was, if the writer failed a prefix; there is no other fault
abbrev pub LeavesUnwritten : Option (List ℕ) → Option (List ℕ) → List ℕ → RunFault → Type 0
LeavesUnwritten before after text fault = (why : OutFault) × (fault ≡ of_output why) × LeavesPrefix before after text why
