-- The run of a campaign, what is written of it, and what the reports of its test cases say of their scripts.
use Rattle.std.specs.{Prelude.{ℕ, ◌≡◌, List, Option, Some, None, Result, map, ◌⊎◌, length}, Io.KnownBytes.Appends, Result.{result_and, result_map_both}}
use Rattle.tc_stream.specs.Prelude.{AppendsPrefix}
use Rattle.tc_campaign.specs.Prelude.{Outline, AreFinished, IsRunTo}
use Rattle.tc_report.specs.{declared.{fault.OutFault.OutFault, live.LiveForm.LiveForm, results.{Finished.Finished, Results.Results}, stopwatch.Times.Times}, Prelude.{abort_text, LeavesPrefix, IsToldBy, results_status}}
use Rattle.tc_command.specs.declared.task.RunOptions.{RunOptions}
use Rattle.tc_answer.specs.{declared.{fault.RunFault.RunFault, outcome.Outcome.Outcome}, Prelude.{Streams, IsTold, run_fault_line, IsPrintedRefusal, CaseView, scripts_of}}
use Rattle.tc_entry.specs.declared.limits.TheConstants.{BEHAVIOURS}
use Rattle.tc_exec.specs.Prelude.{AreCalled, IsHandedBack, IsMadeOf, AreLogsBy}
use Rattle.tc_script.specs.Prelude.{Acts, MakesItsCalls}
use Rattle.tc_course.specs.Prelude.{IsWitness}
use Rattle.tc_run.specs.Output.{AreTimes, of_output, live_form, results_in_form}

-- the names of these cases, in their order
abbrev pub case_names : {C : Type 0} → (C → Outline) → List C → List (List ℕ)
case_names outline cases = map (λ c. (outline c).name) cases

module _ {C : Type 0} (outline : C → Outline) (called : C → Finished → Type 0) (back : C → Type 0) (cases : List C) (options : RunOptions) where
  -- these cases were run under these options, and the results were given
  pub record IsRun (streams : Streams) (outcome : Outcome) : Type 0 where
    pub results : Results
    pub right : IsRunTo outline called cases options.stop_on BEHAVIOURS back results.finished results.ending
    -- the outcome has their status
    pub status : outcome.status ≡ results_status results
    -- their text was written in the form asked for, with times if these are asked for
    pub times : Times
    pub timed : AreTimes options.times (length results.finished) times
    pub written : Appends streams.before streams.after (results_in_form options.form times (case_names outline cases) results)
    -- what is due as they finish was printed, and then the line of an aborted campaign; the outcome has the first fault
    pub between : Option (List ℕ)
    pub telling : Result (Unit {0}) OutFault
    pub cases_told : IsToldBy options.progress (options.failures, case_names outline cases) streams.untold between results.finished telling
    pub line_told : (line : Result (Unit {0}) RunFault) × IsTold between streams.told (abort_text results.ending) line
        × (outcome.told ≡ result_and (result_map_both (λ x. x) of_output telling) line)

  -- by this fault the text of the results was not written whole: at the end, or as the test cases finished. Then a
  -- prefix of it is out, and the fault may have ended the campaign.
  abbrev pub IsLeft : Option LiveForm → Streams → Times → Results → OutFault → Type 0
  IsLeft None s times r fault =
      IsRunTo outline called cases options.stop_on BEHAVIOURS back r.finished r.ending
      × LeavesPrefix s.before s.after (results_in_form options.form times (case_names outline cases) r) fault
  IsLeft (Some form) s times r fault =
      AreFinished outline called cases options.stop_on BEHAVIOURS r.finished × AppendsPrefix s.before s.after (results_in_form options.form times (case_names outline cases) r)

  -- these cases were run under these options, and the text of the results was not written whole; what is due of them was
  -- printed, or not all of it
  pub record IsUnwrittenRun (streams : Streams) (fault : OutFault) : Type 0 where
    pub results : Results
    pub times : Times
    pub timed : AreTimes options.times (length results.finished) times
    pub left : IsLeft (live_form options.live options.form) streams times results fault
    pub told : (telling : Result (Unit {0}) OutFault) × IsToldBy options.progress (options.failures, case_names outline cases) streams.untold streams.told results.finished telling

module _ {C : Type 0} (outline : C → Outline) (called : C → Finished → Type 0) (back : C → Type 0) (AreToBeRun : List C → Type 0) (o : RunOptions) (streams : Streams) (outcome : Outcome) where
  -- the results of these test cases were not written whole, and that is printed after what was printed of them
  pub record LeavesCases (cases : List C) : Type 0 where
    pub fault : OutFault
    pub between : Option (List ℕ)
    pub run : IsUnwrittenRun outline called back cases o (record streams { told = between }) fault
    pub refusal : IsPrintedRefusal between streams.told (run_fault_line (of_output fault)) outcome

  -- The test cases that are asked for were run, as it is asked for. Their right results were written, and their status
  -- and the line of an aborted campaign are those of the outcome; or the results were not written whole.
  pub record RunsCases : Type 0 where
    pub asked_for : List C
    pub chosen : AreToBeRun asked_for
    pub run : IsRun outline called back asked_for o streams outcome ⊎ LeavesCases asked_for

-- the outline of a test case: each behaviour is one job
abbrev pub script_outline : CaseView → Outline
script_outline c = record { name = c.0; names = map (λ b. b.0) c.1; jobs = length c.1 }

-- each behaviour of which the run was started got as many arguments as its script has parameters, and made the calls of
-- its steps with a new pass of that run. The report is made of what these passes have logged, and each of its logs is
-- that of the script of its run. Its history is a complete course of the scripts, with the verdict of the report.
abbrev pub IsScripted : CaseView → Finished → Type 0
IsScripted c f =
    AreCalled MakesItsCalls (scripts_of c.1) f.report × IsMadeOf MakesItsCalls (scripts_of c.1) f.report × AreLogsBy MakesItsCalls (scripts_of c.1) f.report
    × IsWitness (scripts_of c.1) f.report.history f.report.verdict

-- each script of this case was called, did not run out of memory, and handed back its pass; or its run was never started
abbrev pub AreScriptsBack : CaseView → Type 0
AreScriptsBack c = IsHandedBack Acts (scripts_of c.1)
