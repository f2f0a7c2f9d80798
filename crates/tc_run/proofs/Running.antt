-- What comes of a campaign that was run.
use Rattle.std.{proofs.{Common.{ℕ, ◌≡◌, ◌∙◌, [], ◌∷◌, Bool, true, false, subst, ap, List, Option, Some, None, Result, Ok, Err, IfErr, length, map, refl, replicate, sym}, lemmas.List.length-replicate}, specs.{Borrow.GName, Io.KnownBytes.{Appends, Keeps}, Prelude.{IfNone, IfSome, IsErrAnd, unwrap_or}}}
use Rattle.tc_rules.specs.{Prelude.Verdict, declared.refusal.CaseError.CaseError}
use Rattle.tc_stream.specs.Prelude.{AppendsPrefix}
use Rattle.tc_book.specs.Prelude.{PassState}
use Rattle.tc_exec.specs.declared.{job.Back.Back, test_case.Case.Case}
use Rattle.tc_report.{specs.{Inside.form_text, declared.{fault.OutFault.OutFault, live.{LiveForm.LiveForm, LiveWriter.LiveWriter}, results.{CampaignEnd.CampaignEnd, Finished.Finished, Results.Results}, stopwatch.Times.Times}, Prelude.{abort_text, no_times, form_parts, LeavesPrefix, IsToldBy, ending_status, results_status, tally_of_cases}}, proofs.Lemmas.{Pieces.{IsAt, Takes, all_at, all_written, begun, case_left, closing_left, ended_at, opening_left, status_at}, Telling.nothing_of}}
use Rattle.tc_answer.{specs.{Prelude.{case_name, Streams, IsTold}, declared.{fault.RunFault.RunFault, outcome.Outcome.Outcome}}, proofs.Lemmas.Giving.keeps_same}
use Rattle.tc_campaign.{specs.{Prelude.{AreBack, outline_of, AreFinished, IsCalled, IsRunTo}, Inside.IsUnrun}, proofs.Lemmas.Keeping.{none_finished, unrun_run}}
use Rattle.tc_command.specs.declared.task.{Form.Form, RunOptions.RunOptions}
use Rattle.tc_run.specs.{Inside.{AreGiven, first_fault, worker_limit}, Output.{AreTimes, live_form, results_in_form}, Run.{IsLeft, IsRun, IsUnwrittenRun, case_names}}

-- times of which no clock said one: as many as test cases, if they are asked for
untimed : (asked : Bool) (n : ℕ) → (times : Times) × AreTimes asked n times
untimed false n = (no_times, refl)
untimed true n = (record { begun = None; whole = None; cases = replicate n None }, length-replicate {A = Option (ℕ × ℕ)} n None)

-- the text in a form that is written live is that of the form that was asked for
live_text : (live : Bool) (form : Form) (found : LiveForm) (times : Times) (names : List (List ℕ)) (r : Results) → live_form live form ≡ Some found
    → form_text found r ≡ results_in_form form times names r
live_text true Form.Text found times names r is = sym (ap (λ o. form_text (unwrap_or o LiveForm.Text) r) is)
live_text true Form.Csv found times names r is = sym (ap (λ o. form_text (unwrap_or o LiveForm.Text) r) is)
live_text true Form.History found times names r is = sym (ap (λ o. form_text (unwrap_or o LiveForm.Text) r) is)
live_text true Form.Evidence found times names r is = sym (ap (λ o. form_text (unwrap_or o LiveForm.Text) r) is)
live_text true (Form.Junit suite) found times names r is = absurd (cc is)
live_text false form found times names r is = absurd (cc is)

-- what is printed after the test cases, and what comes of both
abbrev pub EndsTold : Option (List ℕ) → Option (List ℕ) → CampaignEnd → Result (Unit {0}) OutFault → Result (Unit {0}) RunFault → Type 0
EndsTold between told ending telling answer =
    (line : Result (Unit {0}) RunFault) × IsTold between told (abort_text ending) line × (answer ≡ first_fault telling line)

-- if no test case was finished, nothing is printed
pub untold : (tells : Bool) (shown : Bool × List (List ℕ)) (start : Option (List ℕ)) (finished : List Finished) → finished ≡ []
    → IsToldBy tells shown start start finished (Ok tt)
untold tells shown start finished none = subst (λ fs. IsToldBy tells shown start start fs (Ok tt)) (sym none) (nothing_of tells shown start)

-- the ending of a campaign that runs none of these test cases because memory ran out
abbrev unrun_ending : {B : Type 0} → List (Case B) → CampaignEnd
unrun_ending [] = CampaignEnd.Complete
unrun_ending (k ∷ ks) = CampaignEnd.Aborted k.name CaseError.NoMemory

is_unrun : {B : Type 0} (ks : List (Case B)) → IsUnrun (map outline_of ks) (unrun_ending ks)
is_unrun [] = refl
is_unrun (k ∷ ks) = refl

-- which writer a live writer writes to
abbrev pub name_of : {W : Type 0} → LiveWriter W → GName
name_of l = l.writer.ghost_name

-- if a live writer has done nothing, its writer holds what it held
pub writes_nothing : {W A : Type 0} (contents : W → Option (List ℕ)) (ending : Option A) (before after : LiveWriter W) → IfNone ending (after ≡ before)
    → IfNone ending (contents after.writer.now ≡ contents before.writer.now)
writes_nothing contents None before after same = ap (λ (l : LiveWriter _). contents l.writer.now) same
writes_nothing contents (Some ending) before after same = tt

module _ {B : Type 0} (outcome : B → PassState → Back → Type 0) (cases : List (Case B)) (options : RunOptions) where
  -- the results of a run were given, and what is due on standard error was printed
  pub whole_done : (streams : Streams) (between : Option (List ℕ)) (times : Times) (r : Results) → AreTimes options.times (length r.finished) times → (telling : Result (Unit {0}) OutFault) (ended : Outcome)
      → IsRunTo outline_of (IsCalled outcome) cases options.stop_on worker_limit (AreBack outcome) r.finished r.ending
      → IsToldBy options.progress (options.failures, case_names outline_of cases) streams.untold between r.finished telling
      → ended.status ≡ results_status r → Appends streams.before streams.after (results_in_form options.form times (case_names outline_of cases) r)
      → EndsTold between streams.told r.ending telling ended.told → IsRun outline_of (IsCalled outcome) (AreBack outcome) cases options streams ended
  whole_done streams between times r timed telling ended run told status written line = record {
    results = r;
    times = times;
    timed = timed;
    right = run;
    status = status;
    written = written;
    between = between;
    telling = telling;
    cases_told = told;
    line_told = line;
  }

  -- the results of a run were not written whole
  pub whole_left : (streams : Streams) (times : Times) (r : Results) → AreTimes options.times (length r.finished) times → (telling : Result (Unit {0}) OutFault) (fault : OutFault) (answer : Result Outcome OutFault)
      → IsErrAnd answer (λ f. f ≡ fault) → live_form options.live options.form ≡ None
      → IsRunTo outline_of (IsCalled outcome) cases options.stop_on worker_limit (AreBack outcome) r.finished r.ending
      → IsToldBy options.progress (options.failures, case_names outline_of cases) streams.untold streams.told r.finished telling
      → LeavesPrefix streams.before streams.after (results_in_form options.form times (case_names outline_of cases) r) fault
      → IfErr answer (IsUnwrittenRun outline_of (IsCalled outcome) (AreBack outcome) cases options streams)
  whole_left streams times r timed telling fault (Ok ended) what is run told left = absurd what
  whole_left streams times r timed telling fault (Err f) what is run told left = record {
    results = r;
    times = times;
    timed = timed;
    left = subst (λ live. IsLeft outline_of (IsCalled outcome) (AreBack outcome) cases options live streams times r f) (sym is)
        (run, subst (LeavesPrefix streams.before streams.after (results_in_form options.form times (case_names outline_of cases) r)) (sym what) left);
    told = (telling, told);
  }

  module _ (streams : Streams) (form : LiveForm) (same : live_form options.live options.form ≡ Some form) where
    -- a run that was not written whole as its test cases finished left a prefix
    cut_up : (r : Results) (telling : Result (Unit {0}) OutFault) (fault : OutFault)
        → AreFinished outline_of (IsCalled outcome) cases options.stop_on worker_limit r.finished
        → IsToldBy options.progress (options.failures, case_names outline_of cases) streams.untold streams.told r.finished telling
        → AppendsPrefix streams.before streams.after (form_text form r) → IsUnwrittenRun outline_of (IsCalled outcome) (AreBack outcome) cases options streams fault
    cut_up r telling fault each told left =
        let unsaid = untimed options.times (length r.finished) in
        record {
          results = r;
          times = unsaid.0;
          timed = unsaid.1;
          left = subst (λ live. IsLeft outline_of (IsCalled outcome) (AreBack outcome) cases options live streams unsaid.0 r fault) (sym same)
              (each, subst (AppendsPrefix streams.before streams.after) (live_text options.live options.form form unsaid.0 (map case_name cases) r same) left);
          told = (telling, told);
        }

    -- what is before the test cases was not written whole, and nothing was printed
    pub at_opening : (fault : OutFault) → streams.told ≡ streams.untold → LeavesPrefix streams.before streams.after (form_parts form).0 fault
        → IsUnwrittenRun outline_of (IsCalled outcome) (AreBack outcome) cases options streams fault
    at_opening fault nothing left =
        cut_up (record { finished = []; ending = CampaignEnd.Complete }) (Ok tt) fault (none_finished outcome cases options.stop_on worker_limit)
        (subst (λ t. IsToldBy options.progress (options.failures, case_names outline_of cases) streams.untold t [] (Ok tt)) (sym nothing) (nothing_of options.progress (options.failures, case_names outline_of cases) streams.untold))
        (opening_left form streams.before streams.after fault CampaignEnd.Complete left)

    module _ {W : Type 0} (contents : W → Option (List ℕ)) (before after : LiveWriter W)
        (form_is : before.form ≡ form) (opening : Appends streams.before (contents before.writer.now) (form_parts form).0)
        (tally : before.tally ≡ tally_of_cases []) (worst : before.worst ≡ Verdict.None)
        (finished : List Finished) (answer : Option CampaignEnd) (given : AreGiven outcome (Takes contents) cases options before after finished answer) where
      first : IsAt contents form streams.before [] before
      first = begun contents form streams.before before form_is opening tally worst

      -- the writer is the same one
      pub named_still : name_of after ≡ name_of before
      named_still = go answer given
        where
          go : (a : Option CampaignEnd) → AreGiven outcome (Takes contents) cases options before after finished a → name_of after ≡ name_of before
          go (Some ending) given = (all_at contents form streams.before [] finished before after first given.1).1
          go None given = (ended_at contents form streams.before finished before after first given.1).1

      -- a test case, or what follows all, was not written whole
      pub live_left : (telling : Result (Unit {0}) OutFault) (fault : OutFault)
          → IsToldBy options.progress (options.failures, case_names outline_of cases) streams.untold streams.told finished telling
          → IfNone answer (streams.after ≡ (contents after.writer.now))
          → IfSome answer (λ e. LeavesPrefix (contents after.writer.now) streams.after ((form_parts after.form).2 after.tally e) fault)
          → IsUnwrittenRun outline_of (IsCalled outcome) (AreBack outcome) cases options streams fault
      live_left telling fault told cut part = go answer given cut part
        where
          go : (a : Option CampaignEnd) → AreGiven outcome (Takes contents) cases options before after finished a
              → IfNone a (streams.after ≡ (contents after.writer.now))
              → IfSome a (λ e. LeavesPrefix (contents after.writer.now) streams.after ((form_parts after.form).2 after.tally e) fault)
              → IsUnwrittenRun outline_of (IsCalled outcome) (AreBack outcome) cases options streams fault
          go (Some ending) given cut part =
              cut_up (record { finished = finished; ending = ending }) telling fault given.0.each told
              (closing_left contents form streams.before before after first finished ending given.1 streams.after fault part)
          go None given cut part =
              cut_up (record { finished = finished; ending = CampaignEnd.Complete }) telling fault given.0 told
              (subst (λ now. AppendsPrefix streams.before now (form_text form (record { finished = finished; ending = CampaignEnd.Complete }))) (sym cut)
              (case_left contents form streams.before before after first finished CampaignEnd.Complete given.1))

      -- all was written, and what is due on standard error was printed
      pub live_done : (between : Option (List ℕ)) (telling : Result (Unit {0}) OutFault) (ending : CampaignEnd) (ended : Outcome)
          → IsToldBy options.progress (options.failures, case_names outline_of cases) streams.untold between finished telling → answer ≡ Some ending
          → Appends (contents after.writer.now) streams.after ((form_parts after.form).2 after.tally ending)
          → ended.status ≡ ending_status ending after.worst
          → EndsTold between streams.told ending telling ended.told → IsRun outline_of (IsCalled outcome) (AreBack outcome) cases options streams ended
      live_done between telling ending ended told is out status line =
          let had : AreGiven outcome (Takes contents) cases options before after finished (Some ending) =
          subst (AreGiven outcome (Takes contents) cases options before after finished) is given in
          let r : Results = record { finished = finished; ending = ending } in
          let unsaid = untimed options.times (length finished) in
          whole_done streams between unsaid.0 r unsaid.1 telling ended had.0 told
          (status ∙ status_at contents form streams.before before after first finished ending had.1)
          (subst (Appends streams.before streams.after) (live_text options.live options.form form unsaid.0 (map case_name cases) r same)
          (all_written contents form streams.before before after first finished ending had.1 streams.after out)) line

  -- nothing was run or written, since memory ran out
  pub unrun_left : (streams : Streams) → streams.after ≡ streams.before → streams.told ≡ streams.untold
      → IsUnwrittenRun outline_of (IsCalled outcome) (AreBack outcome) cases options streams OutFault.NoMemory
  unrun_left streams unwritten untold = go (live_form options.live options.form) refl
    where
      keeps : Keeps streams.before streams.after
      keeps = subst (Keeps streams.before) (sym unwritten) (keeps_same streams.before)

      go : (live : Option LiveForm) → live_form options.live options.form ≡ live → IsUnwrittenRun outline_of (IsCalled outcome) (AreBack outcome) cases options streams OutFault.NoMemory
      go None is =
          let unsaid = untimed options.times 0 in
          whole_left streams unsaid.0 (record { finished = []; ending = unrun_ending cases }) unsaid.1 (Ok tt) OutFault.NoMemory (Err OutFault.NoMemory) refl is
          (unrun_run outcome [] (unrun_ending cases) refl cases options.stop_on worker_limit (is_unrun cases))
          (subst (λ t. IsToldBy options.progress (options.failures, case_names outline_of cases) streams.untold t [] (Ok tt)) (sym untold) (nothing_of options.progress (options.failures, case_names outline_of cases) streams.untold)) keeps
      go (Some form) is = at_opening streams form is OutFault.NoMemory untold keeps
