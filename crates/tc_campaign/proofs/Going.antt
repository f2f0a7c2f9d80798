-- The run of a campaign with its observer, case by case.
use Rattle.std.{proofs.{Common.{ℕ, ◌≡◌, ◌∙◌, ◌++◌, ◌∷◌, [], Bool, Option, Some, None, List, map, length, refl, subst, sym, ap}, lemmas.List.Elements.All-nil}, specs.Prelude.{IfSome, slice_get}}
use Rattle.tc_rules.specs.{Prelude.Verdict, declared.refusal.CaseError.CaseError}
use Rattle.tc_book.specs.Prelude.{PassState}
use Rattle.tc_exec.{specs.declared.{job.Back.Back, test_case.Case.Case}, proofs.Lemmas.Taking.{done_more, done_none}}
use Rattle.tc_report.{specs.{declared.results.{CampaignEnd.CampaignEnd, Finished.Finished}, Prelude.AreTaken}, proofs.Lemmas.Keeping.taken_more}
use Rattle.tc_campaign.{specs.{Campaign.{AreBack, IsCalled, IsRefusal}, Inside.{HasThreads, IsGoing, IsOf, IsSoFar, IsStep, WasRun}, Outline.outline_of, declared.campaign.Step.Step}, proofs.{Lemmas.Running.{done_begin, run_aborted, run_complete, run_cut, run_stopped, so_far_more, so_far_none, threads_more}, Places.slice_get-behind}}

module _ {B O : Type 0} (outcome : B → PassState → Back → Type 0) (takes : O → Finished → O → Bool → Type 0)
    (stop_on : Option Verdict) (threads : ℕ) (cases : List (Case B)) where
  pub going_none : (left : List (Case B)) (before : O) → left ≡ cases → IsGoing outcome takes stop_on threads cases left before before
  going_none left before same = record {
    finished = [];
    so = subst (λ l. IsSoFar (map outline_of cases) stop_on (map outline_of l) []) (sym same) (so_far_none (map outline_of cases) stop_on);
    called = done_none (IsCalled outcome) cases left same;
    threads_are = All-nil (HasThreads threads);
    taken = refl;
  }

  module _ (left : List (Case B)) (c : Case B) (rest : List (Case B)) (before between after : O)
      (going : IsGoing outcome takes stop_on threads cases left before between) (at : left ≡ c ∷ rest) where
    pub going_more : IsStep outcome takes stop_on threads c between after Step.GoesOn → IsGoing outcome takes stop_on threads cases rest before after
    going_more step = record {
      finished = going.finished ++ step.0 ∷ [];
      so = so_far_more _ _ _ _ _ _ step.0 _ going.so (ap (map outline_of) at) step.1.is step.2 refl;
      called = done_more (IsCalled outcome) cases left c rest going.finished step.0 _ going.called at step.1.called refl;
      threads_are = threads_more threads going.finished step.0 _ going.threads_are step.1.threads_are refl;
      taken = taken_more takes going.finished step.0 before between after going.taken step.3;
    }

    pub was_stopped : (ending : CampaignEnd) → IsStep outcome takes stop_on threads c between after (Step.Stops ending)
        → WasRun outcome takes stop_on threads cases before after (Some ending)
    was_stopped ending step = record {
      finished = going.finished ++ step.0 ∷ [];
      run = run_stopped _ _ _ _ _ going.finished step.0 ending going.so (ap (map outline_of) at) step.1.is step.2;
      called = done_begin _ _ _ _ (done_more (IsCalled outcome) cases left c rest going.finished step.0 _ going.called at step.1.called refl);
      threads_are = threads_more threads going.finished step.0 _ going.threads_are step.1.threads_are refl;
      why = rw step.2.0 tt;
      torn = λ name is. let bad : CampaignEnd.StoppedAfter step.0.name ≡ CampaignEnd.Aborted name CaseError.Torn = sym step.2.0 ∙ is in absurd cc;
      given = taken_more takes going.finished step.0 before between after going.taken step.3;
    }

    outline_next : slice_get (map outline_of cases) (length going.finished) ≡ Some (outline_of c)
    outline_next =
        slice_get-behind IsOf (map outline_of cases) going.so.done (map outline_of left) going.finished going.so.prefix going.so.each ∙ ap (λ l. slice_get (map outline_of l) 0) at

    case_next : slice_get cases (length going.finished) ≡ Some c
    case_next = slice_get-behind (IsCalled outcome) cases going.called.done left going.finished going.called.prefix going.called.each ∙ ap (λ l. slice_get l 0) at

    pub was_refused : (ending : CampaignEnd) → IsStep outcome takes stop_on threads c between after (Step.Refused ending)
        → WasRun outcome takes stop_on threads cases before after (Some ending)
    was_refused ending step = record {
      finished = going.finished;
      run = run_aborted _ _ _ _ _ going.finished ending going.so (ap (map outline_of) at) (record { why = step.0.why; aborted = step.0.aborted });
      called = done_begin _ _ _ _ going.called;
      threads_are = going.threads_are;
      why = rw step.0.aborted (subst (λ o. IfSome o (IsRefusal threads step.0.why)) (sym outline_next) step.0.cause);
      torn = λ name is.
          let both : CampaignEnd.Aborted c.name step.0.why ≡ CampaignEnd.Aborted name CaseError.Torn = sym step.0.aborted ∙ is in
          let why : step.0.why ≡ CaseError.Torn = cc in
          subst (λ o. IfSome o (AreBack outcome)) (sym case_next) (step.0.torn why);
      given = subst (AreTaken takes going.finished before) (sym step.1) going.taken;
    }

    pub was_cut : IsStep outcome takes stop_on threads c between after Step.CutShort → WasRun outcome takes stop_on threads cases before after None
    was_cut step = record {
      finished = going.finished ++ step.0 ∷ [];
      run = run_cut _ _ _ _ _ going.finished step.0 going.so (ap (map outline_of) at) step.1.is;
      called = done_begin _ _ _ _ (done_more (IsCalled outcome) cases left c rest going.finished step.0 _ going.called at step.1.called refl);
      threads_are = threads_more threads going.finished step.0 _ going.threads_are step.1.threads_are refl;
      why = tt;
      torn = tt;
      given = record { others = going.finished; last = step.0; all = refl; between = between; each = going.taken; at_last = step.2 };
    }

  pub was_complete : (left : List (Case B)) (before now : O) → IsGoing outcome takes stop_on threads cases left before now → length left ≡ 0
      → WasRun outcome takes stop_on threads cases before now (Some CampaignEnd.Complete)
  was_complete left before now going none = record {
    finished = going.finished;
    run = run_complete outline_of _ _ _ _ going.so none;
    called = done_begin _ _ _ _ going.called;
    threads_are = going.threads_are;
    why = tt;
    torn = λ name is. absurd cc;
    given = going.taken;
  }
