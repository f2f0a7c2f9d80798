-- The run of a campaign, case by case.
use Rattle.std.{proofs.{Common.{ℕ, ◌≡◌, ◌∙◌, ◌++◌, ◌∷◌, [], Option, Some, None, List, All, map, length, take, arith, refl, sym, subst, append_assoc}, lemmas.List.Elements.{All-nil, All-push}}, specs.List.AllZip}
use Rattle.tc_rules.specs.Prelude.{Verdict}
use Rattle.tc_report.specs.{declared.results.{CampaignEnd.CampaignEnd, Finished.Finished}, Prelude.IsMet}
use Rattle.tc_exec.{specs.Inside.AreDone, proofs.Lemmas.Taking.AllZip-pushed}
use Rattle.tc_campaign.{specs.{Inside.{HasThreads, IsAbortedAt, IsBetter, IsOf, IsRun, IsRun.{aborted, complete, cut, stopped}, IsSoFar}, Outline.Outline}, proofs.Places.AllZip-begin}

pub done_begin : {A B : Type 0} (R : A → B → Type 0) (all left : List A) (ys : List B) → AreDone R all left ys → AllZip R (take (length ys) all) ys
done_begin R all left ys are = AllZip-begin R all are.done left ys are.prefix are.each

pub threads_more : (threads : ℕ) (finished : List Finished) (f : Finished) (now : List Finished)
    → All (HasThreads threads) finished → HasThreads threads f → now ≡ finished ++ f ∷ [] → All (HasThreads threads) now
threads_more threads finished f now all one added = rw added (All-push (HasThreads threads) finished f all one)

pub so_far_none : (cases : List Outline) (stop_on : Option Verdict) → IsSoFar cases stop_on cases []
so_far_none cases stop_on = record { done = []; prefix = refl; each = tt; better = All-nil (λ f. IsBetter stop_on f.report.verdict) }

-- the next case is taken up
next_up : (cases : List Outline) (stop_on : Option Verdict) (left : List Outline) (c : Outline) (rest : List Outline) (finished : List Finished)
    → IsSoFar cases stop_on left finished → left ≡ c ∷ rest → IsSoFar cases stop_on (c ∷ rest) finished
next_up cases stop_on left c rest finished so at = subst (λ l. IsSoFar cases stop_on l finished) at so

pub so_far_more : (cases : List Outline) (stop_on : Option Verdict) (left : List Outline) (c : Outline) (rest : List Outline) (finished : List Finished) (f : Finished) (now : List Finished)
    → IsSoFar cases stop_on left finished → left ≡ c ∷ rest → IsOf c f → IsBetter stop_on f.report.verdict → now ≡ finished ++ f ∷ [] → IsSoFar cases stop_on rest now
so_far_more cases stop_on left c rest finished f now so at is better added = rw added (record {
  done = so.done ++ c ∷ [];
  prefix = subst (λ l. cases ≡ so.done ++ l) at so.prefix ∙ sym (append_assoc so.done (c ∷ []) rest);
  each = AllZip-pushed IsOf so.done finished c f so.each is;
  better = All-push (λ f. IsBetter stop_on f.report.verdict) finished f so.better better;
})

pub run_aborted : (cases : List Outline) (stop_on : Option Verdict) (left : List Outline) (c : Outline) (rest : List Outline) (finished : List Finished) (ending : CampaignEnd)
    → IsSoFar cases stop_on left finished → left ≡ c ∷ rest → IsAbortedAt c ending → IsRun cases stop_on finished (Some ending)
run_aborted cases stop_on left c rest finished ending so at refused = aborted finished c rest ending (next_up cases stop_on left c rest finished so at) refused

pub run_stopped : (cases : List Outline) (stop_on : Option Verdict) (left : List Outline) (c : Outline) (rest : List Outline) (finished : List Finished) (f : Finished) (ending : CampaignEnd)
    → IsSoFar cases stop_on left finished → left ≡ c ∷ rest → IsOf c f → (ending ≡ CampaignEnd.StoppedAfter f.name) × IsMet stop_on f.report.verdict → IsRun cases stop_on (finished ++ f ∷ []) (Some ending)
run_stopped cases stop_on left c rest finished f ending so at is met = rw met.0 (stopped finished f c rest (next_up cases stop_on left c rest finished so at) is met.1)

pub run_cut : (cases : List Outline) (stop_on : Option Verdict) (left : List Outline) (c : Outline) (rest : List Outline) (finished : List Finished) (f : Finished)
    → IsSoFar cases stop_on left finished → left ≡ c ∷ rest → IsOf c f → IsRun cases stop_on (finished ++ f ∷ []) None
run_cut cases stop_on left c rest finished f so at is = cut finished f c rest (next_up cases stop_on left c rest finished so at) is

pub run_complete : {A : Type 0} (f : A → Outline) (cases : List Outline) (stop_on : Option Verdict) (left : List A) (finished : List Finished)
    → IsSoFar cases stop_on (map f left) finished → length left ≡ 0 → IsRun cases stop_on finished (Some CampaignEnd.Complete)
run_complete f cases stop_on [] finished so none = complete finished so
run_complete f cases stop_on (x ∷ left) finished so none = absurd (omega arith)
