-- The results of a run are right.
use Rattle.std.{proofs.{Common.{ℕ, Bool, Some, None, ◌≡◌, ◌∙◌, ◌-◌, ◌++◌, ◌∷◌, [], Option, List, All, length, map, take, arith, refl, sym, ap, subst, append_assoc, slice_index_or}, lemmas.List.Elements.{All-map, All-nil, All-cons, All-head, All-tail, All-take}}, specs.{Prelude.{IfNone, IfSome, IsNone, IsSomeAnd, slice_get}, List.AllZip}}
use Rattle.tc_rules.specs.{Prelude.Verdict, declared.refusal.CaseError.CaseError}
use Rattle.tc_book.specs.Prelude.{PassState}
use Rattle.tc_exec.{specs.declared.{job.Back.Back, test_case.Case.Case}, proofs.Lemmas.Taking.AllZip-pushed}
use Rattle.tc_report.specs.{declared.results.{CampaignEnd.CampaignEnd, Finished.Finished}, Prelude.IsMet}
use Rattle.tc_campaign.{specs.{Campaign.{AreFinished, IsCalled, IsCutShort, IsEnding, IsObserved, IsOfCase, IsRefusal}, Inside.{HasBehaviours, IsBetter, IsNamed, IsOf, IsReported, IsRun, IsRun.{aborted, complete, cut, stopped}, IsSoFar, IsWhy, WasRun}, Outline.{HasNames, Outline, outline_of}}, proofs.Places.{AllZip-weaker, AllZip-begin, slice_get-behind, take-front, slice_get-last, All-slice_get}}

-- the finished cases are of a beginning of the list
each_of : (cases : List Outline) (stop_on : Option Verdict) (finished : List Finished) (answer : Option CampaignEnd) → IsRun cases stop_on finished answer → AllZip IsOf (take (length finished) cases) finished
each_of cases stop_on finished _ (complete _ so) = AllZip-begin IsOf cases so.done [] finished so.prefix so.each
each_of cases stop_on finished _ (aborted _ c left _ so refused) = AllZip-begin IsOf cases so.done (c ∷ left) finished so.prefix so.each
each_of cases stop_on _ _ (stopped finished f c left so is met) =
    AllZip-begin IsOf cases (so.done ++ c ∷ []) left (finished ++ f ∷ []) (simp append_assoc so.prefix) (AllZip-pushed IsOf so.done finished c f so.each is)
each_of cases stop_on _ _ (cut finished f c left so is) =
    AllZip-begin IsOf cases (so.done ++ c ∷ []) left (finished ++ f ∷ []) (simp append_assoc so.prefix) (AllZip-pushed IsOf so.done finished c f so.each is)

-- all except the last are better than stop_on
each_better : (cases : List Outline) (stop_on : Option Verdict) (finished : List Finished) (answer : Option CampaignEnd) → IsRun cases stop_on finished answer
    → All (λ f. IsBetter stop_on f.report.verdict) (take (length finished - 1) finished)
each_better cases stop_on finished _ (complete _ so) = All-take (λ f. IsBetter stop_on f.report.verdict) (length finished - 1) finished so.better
each_better cases stop_on finished _ (aborted _ c left _ so refused) = All-take (λ f. IsBetter stop_on f.report.verdict) (length finished - 1) finished so.better
each_better cases stop_on _ _ (stopped finished f c left so is met) = subst (All (λ g. IsBetter stop_on g.report.verdict)) (sym (take-front finished f)) so.better
each_better cases stop_on _ _ (cut finished f c left so is) = subst (All (λ g. IsBetter stop_on g.report.verdict)) (sym (take-front finished f)) so.better

last_better : (cases : List Outline) (stop_on : Option Verdict) (left : List Outline) (finished : List Finished) → IsSoFar cases stop_on left finished
    → IfSome (slice_get finished (length finished - 1)) (λ f. IsBetter stop_on f.report.verdict)
last_better cases stop_on left finished so = All-slice_get (λ f. IsBetter stop_on f.report.verdict) finished (length finished - 1) so.better

next_is : (cases : List Outline) (stop_on : Option Verdict) (left : List Outline) (finished : List Finished) → IsSoFar cases stop_on left finished
    → slice_get left 0 ≡ slice_get cases (length finished)
next_is cases stop_on left finished so = sym (slice_get-behind IsOf cases so.done left finished so.prefix so.each)

-- the campaign was aborted at the next case, which can be refused so
aborted_at : (threads : ℕ) (next : Option Outline) (c : Outline) (refused : CaseError) → Some c ≡ next → IfSome next (IsRefusal threads refused)
    → IsSomeAnd next (λ d. (c.name ≡ d.name) × IsRefusal threads refused d)
aborted_at threads next c refused is why =
    subst (λ o. IsSomeAnd o (λ d. (c.name ≡ d.name) × IsRefusal threads refused d)) is (refl, subst (λ o. IfSome o (IsRefusal threads refused)) (sym is) why)

ends_so : (cases : List Outline) (stop_on : Option Verdict) (threads : ℕ) (finished : List Finished) (ending : CampaignEnd) → IsRun cases stop_on finished (Some ending)
    → IsWhy threads (slice_get cases (length finished)) ending
    → IsEnding (λ f. IsMet stop_on f.report.verdict) (IsRefusal threads) (slice_get finished (length finished - 1)) (slice_get cases (length finished)) ending
ends_so cases stop_on threads finished _ (complete _ so) why = (last_better cases stop_on [] finished so, subst IsNone (next_is cases stop_on [] finished so) refl)
ends_so cases stop_on threads finished ending (aborted _ c left _ so refused) why =
    rw refused.aborted (
      last_better cases stop_on (c ∷ left) finished so,
      aborted_at threads (slice_get cases (length finished)) c refused.why (next_is cases stop_on (c ∷ left) finished so)
          (subst (IsWhy threads (slice_get cases (length finished))) refused.aborted why),
    )
ends_so cases stop_on threads _ _ (stopped finished f c left so is met) why =
    subst (λ o. IsSomeAnd o (λ g. (f.name ≡ g.name) × IsMet stop_on g.report.verdict)) (sym (slice_get-last finished f)) (refl, met)

-- as many names as jobs
abbrev AreEven : Outline → Type 0
AreEven o = length o.names ≡ o.jobs

all_named : (cases : List Outline) (finished : List Finished) → All AreEven cases → AllZip IsOf cases finished → All IsNamed finished
all_named [] [] even each = All-nil IsNamed
all_named [] (f ∷ finished) even each = absurd each
all_named (c ∷ cases) [] even each = absurd each
all_named (c ∷ cases) (f ∷ finished) even each =
    All-cons IsNamed f finished (named c f (All-head AreEven c cases even) each.0) (all_named cases finished (All-tail AreEven c cases even) each.1)
  where
    named : (c : Outline) (f : Finished) → AreEven c → IsOf c f → IsNamed f
    named c f e of = ap length of.names.names ∙ e ∙ sym of.report.behaviours

even : {B : Type 0} (c : Case B) → HasNames c → AreEven (outline_of c)
even c e = omega arith

names : {B : Type 0} (cases : List (Case B)) (stop_on : Option Verdict) (finished : List Finished) (answer : Option CampaignEnd)
    → All HasNames cases → IsRun (map outline_of cases) stop_on finished answer → All IsNamed finished
names cases stop_on finished answer all run =
    all_named (take (length finished) (map outline_of cases)) finished
    (All-take AreEven (length finished) (map outline_of cases) (All-map AreEven outline_of cases (λ k d lt. even (slice_index_or cases k d) (all k d lt))))
    (each_of (map outline_of cases) stop_on finished answer run)

all_few : (cases : List Outline) (finished : List Finished) → AllZip IsOf cases finished → All HasBehaviours finished
all_few [] [] each = All-nil HasBehaviours
all_few [] (f ∷ finished) each = absurd each
all_few (c ∷ cases) [] each = absurd each
all_few (c ∷ cases) (f ∷ finished) each = All-cons HasBehaviours f finished (rw each.0.report.behaviours each.0.few) (all_few cases finished each.1)

module _ {B O : Type 0} (outcome : B → PassState → Back → Type 0) (takes : O → Finished → O → Bool → Type 0)
    (cases : List (Case B)) (stop_on : Option Verdict) (threads : ℕ) (named : All HasNames cases) (before after : O) where
  are_finished : (answer : Option CampaignEnd) (was : WasRun outcome takes stop_on threads cases before after answer)
      → AreFinished outline_of (IsCalled outcome) cases stop_on threads was.finished
  are_finished answer was =
      let each = each_of (map outline_of cases) stop_on was.finished answer was.run in
      let first = take (length was.finished) (map outline_of cases) in
      record {
        names = AllZip-weaker IsOf IsOfCase (λ c f of. of.names) first was.finished each;
        better = each_better (map outline_of cases) stop_on was.finished answer was.run;
        reports = AllZip-weaker IsOf IsReported (λ c f of. of.report) first was.finished each;
        calls = was.called;
        named = names cases stop_on was.finished answer named was.run;
        threads_are = was.threads_are;
        behaviours = all_few first was.finished each;
      }

  observed : (ending : CampaignEnd) → WasRun outcome takes stop_on threads cases before after (Some ending) → IsObserved outcome cases stop_on threads takes before after ending
  observed ending was = record {
    finished = was.finished;
    run = record {
      each = are_finished (Some ending) was;
      last = ends_so (map outline_of cases) stop_on threads was.finished ending was.run was.why;
      torn = was.torn;
    };
    taken = was.given;
  }

  cut_short : WasRun outcome takes stop_on threads cases before after None → IsCutShort outcome cases stop_on threads takes before after
  cut_short was = record {
    others = was.given.others;
    last = was.given.last;
    each = subst (AreFinished outline_of (IsCalled outcome) cases stop_on threads) was.given.all (are_finished None was);
    between = was.given.between;
    taken = was.given.each;
    ended = was.given.at_last;
  }

  -- with an ending it was run to it, and each finished test case was given to the observer
  pub if_ended : (answer : Option CampaignEnd) → WasRun outcome takes stop_on threads cases before after answer
      → IfSome answer (IsObserved outcome cases stop_on threads takes before after)
  if_ended (Some ending) was = observed ending was
  if_ended None was = tt

  -- without one the observer ended it
  pub if_cut : (answer : Option CampaignEnd) → WasRun outcome takes stop_on threads cases before after answer
      → IfNone answer (IsCutShort outcome cases stop_on threads takes before after)
  if_cut (Some ending) was = tt
  if_cut None was = cut_short was
