-- What a campaign leaves with an observer that has room for all its test cases, and one that has no room for them.
use Rattle.std.{proofs.{Common.{ℕ, zero, suc, ◌≡◌, ◌≤◌, ◌∷◌, ◌++◌, [], Bool, List, Option, Some, None, length, map, take, arith, inl, inr, refl, sym, subst, ◌∙◌}, lemmas.{List.Elements.All-nil, Slice.Zip.AllZip-long}}, specs.{Prelude.{◌⊎◌, IfSome, slice_get}, Vec.vec_capacity}}
use Rattle.tc_rules.specs.{Prelude.Verdict, declared.refusal.CaseError.CaseError}
use Rattle.tc_book.specs.Prelude.{PassState}
use Rattle.tc_exec.specs.declared.{job.Back.Back, test_case.Case.Case}
use Rattle.tc_report.{specs.{Inside.IsEndedAt, declared.results.{CampaignEnd.CampaignEnd, Finished.Finished, Kept.Kept}, Prelude.{Keeps, AreTaken, IsMet}}, proofs.Lemmas.Keeping.{are_kept, never_ended}}
use Rattle.tc_campaign.specs.{Campaign.{AreBack, AreFinished, IsCalled, IsCutShort, IsEnding, IsObserved, IsRefusal, IsRunTo}, Inside.{HasBehaviours, IsUnrun}, Outline.{Outline, outline_of}}

take_short : {A : Type 0} (n : ℕ) (xs : List A) → length (take n xs) ≤ length xs
take_short zero xs = omega arith
take_short (suc n) [] = omega arith
take_short (suc n) (x ∷ xs) = omega (arith, take_short n xs)

-- an ending for which a case can be refused is one for which it can be refused so or otherwise
may_end : (Stops : Finished → Type 0) (Refuses Also : CaseError → Outline → Type 0) (last : Option Finished) (next : Option Outline) (ending : CampaignEnd)
    → IsEnding Stops Refuses last next ending → IsEnding Stops (λ why c. Refuses why c ⊎ Also why c) last next ending
may_end Stops Refuses Also last next CampaignEnd.Complete ends = ends
may_end Stops Refuses Also last next (CampaignEnd.StoppedAfter name) ends = ends
may_end Stops Refuses Also last None (CampaignEnd.Aborted name why) ends = absurd ends.1
may_end Stops Refuses Also last (Some c) (CampaignEnd.Aborted name why) ends = (ends.0, (ends.1.0, inl ends.1.1))

-- a campaign that was observed is one that was run
pub run_to : {B O : Type 0} {outcome : B → PassState → Back → Type 0} {cases : List (Case B)} {stop_on : Option Verdict} {threads : ℕ}
    {takes : O → Finished → O → Bool → Type 0} {before after : O} {ending : CampaignEnd} (seen : IsObserved outcome cases stop_on threads takes before after ending)
    → IsRunTo outline_of (IsCalled outcome) cases stop_on threads (AreBack outcome) seen.finished ending
run_to {B} {O} {outcome} {cases} {stop_on} {threads} {takes} {before} {after} {ending} seen = record {
  each = seen.run.each;
  last = may_end (λ f. IsMet stop_on f.report.verdict) (IsRefusal threads) (λ why c. (seen.finished ≡ []) × (why ≡ CaseError.NoMemory)) _ _ ending seen.run.last;
  torn = seen.run.torn;
}

-- an observer that cut a campaign short has ended it
pub ended_at : {B O : Type 0} {outcome : B → PassState → Back → Type 0} {cases : List (Case B)} {stop_on : Option Verdict} {threads : ℕ}
    {takes : O → Finished → O → Bool → Type 0} {before after : O} (cut : IsCutShort outcome cases stop_on threads takes before after)
    → IsEndedAt takes (cut.others ++ cut.last ∷ []) before after
ended_at cut = record { others = cut.others; last = cut.last; all = refl; between = cut.between; each = cut.taken; at_last = cut.ended }

module _ {B : Type 0} (outcome : B → PassState → Back → Type 0) (cases : List (Case B)) (stop_on : Option Verdict) (threads : ℕ) where
  pub none_finished : AreFinished outline_of (IsCalled outcome) cases stop_on threads []
  none_finished = record {
    names = tt;
    better = All-nil _;
    reports = tt;
    calls = tt;
    named = All-nil _;
    threads_are = All-nil _;
    behaviours = All-nil HasBehaviours;
  }

  pub no_more : (finished : List Finished) → AreFinished outline_of (IsCalled outcome) cases stop_on threads finished → length finished ≤ length cases
  no_more finished each =
      let same = AllZip-long (IsCalled outcome) (take (length finished) cases) finished each.calls in
      omega (arith, same, take_short (length finished) cases)

  module _ (before after : Kept) (none : before.finished.items ≡ []) (room : length cases ≤ vec_capacity before.finished) (finished : List Finished)
      (each : AreFinished outline_of (IsCalled outcome) cases stop_on threads finished) where
    fits : length finished ≤ vec_capacity before.finished
    fits = omega (arith, no_more finished each, room)

    -- if there is room for all test cases, the finished ones are kept
    pub all_are_kept : AreTaken Keeps finished before after → after.finished.items ≡ finished
    all_are_kept taken = are_kept finished before after none fits taken

    -- and the campaign is not ended because room is missing
    pub not_ended : IsEndedAt Keeps finished before after → ⊥
    not_ended ended = never_ended finished before after none fits ended

  module _ (before after : Kept) (none : before.finished.items ≡ []) (room : length cases ≤ vec_capacity before.finished) where
    pub not_cut : IsCutShort outcome cases stop_on threads Keeps before after → ⊥
    not_cut cut = not_ended before after none room (cut.others ++ cut.last ∷ []) cut.each (ended_at cut)

    module _ (answer : Option CampaignEnd) (ending : CampaignEnd) (is : answer ≡ Some ending)
        (observed : IfSome answer (IsObserved outcome cases stop_on threads Keeps before after)) where
      seen : IsObserved outcome cases stop_on threads Keeps before after ending
      seen = subst (λ a. IfSome a (IsObserved outcome cases stop_on threads Keeps before after)) is observed

      same : seen.finished ≡ after.finished.items
      same = sym (all_are_kept before after none room seen.finished seen.run.each seen.taken)

      pub kept_run : IsRunTo outline_of (IsCalled outcome) cases stop_on threads (AreBack outcome) after.finished.items ending
      kept_run = subst (λ fs. IsRunTo outline_of (IsCalled outcome) cases stop_on threads (AreBack outcome) fs ending) same (run_to seen)

module _ {B : Type 0} (outcome : B → PassState → Back → Type 0) (finished : List Finished) (ending : CampaignEnd) (none : finished ≡ []) where
  -- a campaign that was not run because there is no room
  pub unrun_run : (cases : List (Case B)) (stop_on : Option Verdict) (threads : ℕ) → IsUnrun (map outline_of cases) ending
      → IsRunTo outline_of (IsCalled outcome) cases stop_on threads (AreBack outcome) finished ending
  unrun_run cases stop_on threads is = subst (λ fs. IsRunTo outline_of (IsCalled outcome) cases stop_on threads (AreBack outcome) fs ending) (sym none) (go cases is)
    where
      go : (cs : List (Case B)) → IsUnrun (map outline_of cs) ending → IsRunTo outline_of (IsCalled outcome) cs stop_on threads (AreBack outcome) [] ending
      go [] is = rw is (record { each = none_finished outcome [] stop_on threads; last = (tt, refl); torn = λ name torn. absurd cc })
      go (c ∷ cs) is = rw is (record { each = none_finished outcome (c ∷ cs) stop_on threads; last = (tt, (refl, inr (refl, refl))); torn = λ name torn. absurd cc })
