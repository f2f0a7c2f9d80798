-- The results of the test cases that were made of a script are those of the script.
use Rattle.std.{proofs.{Common.{ℕ, zero, suc, ◌≡◌, ◌∙◌, ◌-◌, ◌⊎◌, inl, inr, List, [], ◌∷◌, Option, None, Some, All, length, map, take, arith, refl, sym, ap, subst}, lemmas.List.{Elements.{All-cons, All-nil, All-tail}, length-map}}, specs.{Io.KnownBytes.Appends, List.AllZip, Vec.vec_len, Prelude.{IfSome, slice_get}}}
use Rattle.tc_stream.specs.Prelude.{AppendsPrefix}
use Rattle.tc_rules.specs.{Prelude.Verdict, declared.refusal.CaseError.CaseError}
use Rattle.tc_step.specs.Prelude.{ScriptView}
use Rattle.tc_script.{specs.Prelude.{Acts, MakesItsCalls}, proofs.Lemmas.{Reports.report_is_course, Running.run_grown, Spelled.{are_called, made_of_calls}}}
use Rattle.tc_reader.specs.Prelude.{IsCase}
use Rattle.tc_book.specs.Prelude.{PassState}
use Rattle.tc_exec.{specs.{declared.{job.Back.Back, test_case.Case.Case}, Prelude.{IsCaseReport, IsHandedBack, IsMadeOf}}, proofs.Lemmas.Logs.logs_by}
use Rattle.tc_report.specs.{declared.{fault.OutFault.OutFault, live.LiveForm.LiveForm, results.{CampaignEnd.CampaignEnd, Finished.Finished, Results.Results}, stopwatch.Times.Times}, Prelude.{LeavesPrefix, IsMet, IsToldBy}}
use Rattle.tc_campaign.specs.Prelude.{AreBack, Outline, HasNames, outline_of, AreFinished, IsCalled, IsEnding, IsOfCase, IsRefusal as RefusesCase, IsRunTo}
use Rattle.tc_campaign.specs.Inside.{IsReported}
use Rattle.tc_command.specs.declared.task.RunOptions.{RunOptions}
use Rattle.tc_answer.specs.{Prelude.{run_fault_line, IsPrintedRefusal, Streams, CaseView, scripts_of}, Inside.IsCaseOf, declared.outcome.Outcome.Outcome}
use Rattle.tc_run.specs.{Inside.worker_limit, Output.{live_form, of_output, results_in_form}, Run.{AreScriptsBack, IsLeft, IsRun, IsScripted, IsUnwrittenRun, RunsCases, case_names, script_outline}}

count : (c : CaseView) (k : Case ScriptView) → IsCaseOf c k → vec_len k.jobs ≡ length c.1
count c k is = omega (arith, ap length is.jobs, length-map c.1 (λ b. b.1))

has_names : (c : CaseView) (k : Case ScriptView) → IsCaseOf c k → HasNames k
has_names c k is = omega (arith, count c k is, ap length is.names, length-map c.1 (λ b. b.0))

same_outline : (c : CaseView) (k : Case ScriptView) → IsCaseOf c k → outline_of k ≡ script_outline c
same_outline c k is =
    ap (λ n. let o : Outline = record { name = n; names = k.names.items; jobs = vec_len k.jobs } in o) is.name
    ∙ ap (λ ns. let o : Outline = record { name = c.0; names = ns; jobs = vec_len k.jobs } in o) is.names
    ∙ ap (λ n. let o : Outline = record { name = c.0; names = map (λ b. b.0) c.1; jobs = n } in o) (count c k is)

pub even : (cs : List CaseView) (ks : List (Case ScriptView)) → AllZip IsCaseOf cs ks → All HasNames ks
even [] [] each = All-nil HasNames
even [] (k ∷ ks) each = absurd each
even (c ∷ cs) [] each = absurd each
even (c ∷ cs) (k ∷ ks) each = All-cons HasNames k ks (has_names c k each.0) (even cs ks each.1)

outlines : (cs : List CaseView) (ks : List (Case ScriptView)) → AllZip IsCaseOf cs ks → map outline_of ks ≡ map script_outline cs
outlines [] [] each = refl
outlines [] (k ∷ ks) each = absurd each
outlines (c ∷ cs) [] each = absurd each
outlines (c ∷ cs) (k ∷ ks) each = ap (λ o. o ∷ map outline_of ks) (same_outline c k each.0) ∙ ap (λ os. script_outline c ∷ os) (outlines cs ks each.1)

same_names : (cs : List CaseView) (ks : List (Case ScriptView)) → AllZip IsCaseOf cs ks → case_names outline_of ks ≡ case_names script_outline cs
same_names [] [] each = refl
same_names [] (k ∷ ks) each = absurd each
same_names (c ∷ cs) [] each = absurd each
same_names (c ∷ cs) (k ∷ ks) each = rw (each.0.name, same_names cs ks each.1) refl

-- a script hands back the pass of its own run
own : (s : ScriptView) (p : PassState) (k : Back) → MakesItsCalls s p k → k.pass.run ≡ p.run
own s p k is = ap (λ q. q.run) (run_grown s.steps p k.pass k.ending is.calls).1

of_script : (c : CaseView) (k : Case ScriptView) (f : Finished) → IsCase c.1 → IsCaseOf c k → IsReported (script_outline c) f → IsCalled Acts k f → IsScripted c f
of_script c k f lawful is report called =
    let made : IsMadeOf Acts (scripts_of c.1) f.report = subst (λ js. IsMadeOf Acts js f.report) is.jobs called.1 in
    let calls : IsMadeOf MakesItsCalls (scripts_of c.1) f.report = made_of_calls c.1 f.report lawful report.one_history report.behaviours made in
    let as_many : IsCaseReport (length (scripts_of c.1)) f.report = subst (λ n. IsCaseReport n f.report) (sym (length-map c.1 (λ b. b.1))) report in (
      are_called c.1 f.report lawful report.one_history report.behaviours made,
      calls,
      logs_by MakesItsCalls own f.report (scripts_of c.1) report.one_history (report.behaviours ∙ sym (length-map c.1 (λ b. b.1))) calls,
      report_is_course (scripts_of c.1) f.report (record { report = as_many; made = calls }),
    )

scripted : (n : ℕ) (cs : List CaseView) (ks : List (Case ScriptView)) (fs : List Finished) → All (λ c. IsCase c.1) cs → AllZip IsCaseOf cs ks
    → AllZip IsReported (take n (map script_outline cs)) fs → AllZip (IsCalled Acts) (take n ks) fs → AllZip IsScripted (take n cs) fs
scripted zero cs ks [] lawful each reports called = tt
scripted zero cs ks (f ∷ fs) lawful each reports called = absurd called
scripted (suc n) [] [] [] lawful each reports called = tt
scripted (suc n) [] [] (f ∷ fs) lawful each reports called = absurd called
scripted (suc n) [] (k ∷ ks) fs lawful each reports called = absurd each
scripted (suc n) (c ∷ cs) [] fs lawful each reports called = absurd each
scripted (suc n) (c ∷ cs) (k ∷ ks) [] lawful each reports called = absurd called
scripted (suc n) (c ∷ cs) (k ∷ ks) (f ∷ fs) lawful each reports called =
    (of_script c k f (lawful 0 c (omega arith)) each.0 reports.0 called.0, scripted n cs ks fs (All-tail (λ c. IsCase c.1) c cs lawful) each.1 reports.1 called.1)

-- the scripts of a torn test case are those of the script
torn_scripts : (n : ℕ) (cs : List CaseView) (ks : List (Case ScriptView)) → AllZip IsCaseOf cs ks → IfSome (slice_get ks n) (AreBack Acts) → IfSome (slice_get cs n) AreScriptsBack
torn_scripts n [] ks each back = tt
torn_scripts n (c ∷ cs) [] each back = absurd each
torn_scripts zero (c ∷ cs) (k ∷ ks) each back = subst (IsHandedBack Acts) each.0.jobs back
torn_scripts (suc n) (c ∷ cs) (k ∷ ks) each back = torn_scripts n cs ks each.1 back

module _ (cs : List CaseView) (ks : List (Case ScriptView)) (stop_on : Option Verdict) (threads : ℕ) (lawful : All (λ c. IsCase c.1) cs) (each : AllZip IsCaseOf cs ks) where
  same : map outline_of ks ≡ map script_outline cs
  same = outlines cs ks each

  -- the finished test cases are those of the script
  finished : (fs : List Finished) → AreFinished outline_of (IsCalled Acts) ks stop_on threads fs → AreFinished script_outline IsScripted cs stop_on threads fs
  finished fs are =
      let reports : AllZip IsReported (take (length fs) (map script_outline cs)) fs = subst (λ os. AllZip IsReported (take (length fs) os) fs) same are.reports in
      record {
        names = subst (λ os. AllZip IsOfCase (take (length fs) os) fs) same are.names;
        better = are.better;
        reports = reports;
        calls = scripted (length fs) cs ks fs lawful each reports are.calls;
        named = are.named;
        threads_are = are.threads_are;
        behaviours = are.behaviours;
      }

  -- and so are they if the campaign ended
  results : (fs : List Finished) (ending : CampaignEnd) → IsRunTo outline_of (IsCalled Acts) ks stop_on threads (AreBack Acts) fs ending
      → IsRunTo script_outline IsScripted cs stop_on threads AreScriptsBack fs ending
  results fs ending are = record {
    each = finished fs are.each;
    last = subst (λ os. IsEnding (λ f. IsMet stop_on f.report.verdict) (λ why c. RefusesCase threads why c ⊎ ((fs ≡ []) × (why ≡ CaseError.NoMemory)))
        (slice_get fs (length fs - 1)) (slice_get os (length fs)) ending) same are.last;
    torn = λ name is. torn_scripts (length fs) cs ks each (are.torn name is);
  }

module _ (o : RunOptions) (Are : List CaseView → Type 0) (cs : List CaseView) (ks : List (Case ScriptView)) (chosen : Are cs) (lawful : All (λ c. IsCase c.1) cs)
    (each : AllZip IsCaseOf cs ks) where
  -- a run of the test cases that were made of a script is a run of that script
  pub run_done : (streams : Streams) (outcome : Outcome) → IsRun outline_of (IsCalled Acts) (AreBack Acts) ks o streams outcome
      → RunsCases script_outline IsScripted AreScriptsBack Are o streams outcome
  run_done streams outcome run = record {
    asked_for = cs;
    chosen = chosen;
    run = inl (record {
      results = run.results;
      right = results cs ks o.stop_on worker_limit lawful each run.results.finished run.results.ending run.right;
      status = run.status;
      times = run.times;
      timed = run.timed;
      written = subst (λ ns. Appends streams.before streams.after (results_in_form o.form run.times ns run.results)) (same_names cs ks each) run.written;
      between = run.between;
      telling = run.telling;
      cases_told = subst (λ ns. IsToldBy o.progress (o.failures, ns) streams.untold run.between run.results.finished run.telling) (same_names cs ks each) run.cases_told;
      line_told = run.line_told;
    });
  }

  left_of : (live : Option LiveForm) (s : Streams) (t : Times) (r : Results) (fault : OutFault) → IsLeft outline_of (IsCalled Acts) (AreBack Acts) ks o live s t r fault
      → IsLeft script_outline IsScripted AreScriptsBack cs o live s t r fault
  left_of None s t r fault left = (
    results cs ks o.stop_on worker_limit lawful each r.finished r.ending left.0,
    subst (λ ns. LeavesPrefix s.before s.after (results_in_form o.form t ns r) fault) (same_names cs ks each) left.1,
  )
  left_of (Some form) s t r fault left = (
    finished cs ks o.stop_on worker_limit lawful each r.finished left.0,
    subst (λ ns. AppendsPrefix s.before s.after (results_in_form o.form t ns r)) (same_names cs ks each) left.1,
  )

  -- and so is one whose results were not written whole
  pub run_left : (streams : Streams) (fault : OutFault) (told : Option (List ℕ)) (outcome : Outcome) → IsUnwrittenRun outline_of (IsCalled Acts) (AreBack Acts) ks o streams fault
      → IsPrintedRefusal streams.told told (run_fault_line (of_output fault)) outcome
      → RunsCases script_outline IsScripted AreScriptsBack Are o (record streams { told = told }) outcome
  run_left streams fault told outcome run refusal = record {
    asked_for = cs;
    chosen = chosen;
    run = inr (record {
      fault = fault;
      between = streams.told;
      run = record {
        results = run.results;
        times = run.times;
        timed = run.timed;
        left = left_of (live_form o.live o.form) streams run.times run.results fault run.left;
        told = (run.told.0, subst (λ ns. IsToldBy o.progress (o.failures, ns) streams.untold streams.told run.results.finished run.told.0) (same_names cs ks each) run.told.1);
      };
      refusal = refusal;
    });
  }
