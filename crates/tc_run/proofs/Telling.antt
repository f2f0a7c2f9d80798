-- What an observer of a campaign was given, and what was kept and printed of it.
use Rattle.std.{proofs.Common.{Bool, ℕ, ◌≡◌, ◌++◌, ◌∷◌, ◌≤◌, List, [], Option, Some, None, Result, ap, length, subst, ◌∙◌}, specs.{Global.Vec, Prelude.{IfNone, IfSome}, Vec.vec_capacity}}
use Rattle.tc_rules.specs.Prelude.{Verdict}
use Rattle.tc_book.specs.Prelude.{PassState}
use Rattle.tc_exec.specs.declared.{job.Back.Back, test_case.Case.Case}
use Rattle.tc_report.{specs.{Inside.IsEndedAt, declared.{fault.OutFault.OutFault, progress.Progress.Progress, results.{CampaignEnd.CampaignEnd, Finished.Finished}, stopwatch.{Timed.Timed, Times.Times}}, Prelude.{AreTaken, HasTold, IsToldBy, KeepsTimes}}, proofs.Lemmas.{Keeping.{all_timed, ended_timed}, Telling.{AreSame, Takes, all_told, ended_told}}}
use Rattle.tc_campaign.{specs.Prelude.{IsCutShort, IsObserved, outline_of}, proofs.Lemmas.Keeping.{ended_at, run_to}}
use Rattle.tc_command.specs.declared.task.RunOptions.{RunOptions}
use Rattle.tc_run.specs.{Inside.{AreGiven, WasTold, worker_limit}, Run.case_names}

module _ {O C : Type 0} (takes : O → Finished → O → Bool → Type 0) where
  -- what a test case does to an observer that has it measured, and to the one that it passes it on to
  abbrev pub TakesTimed : Timed O C → Finished → Timed O C → Bool → Type 0
  TakesTimed before f after goes_on =
      takes before.observer.now f after.observer.now goes_on × KeepsTimes before.watch.now.cases 1 after.watch.now.cases
      × (after.observer.ghost_name ≡ before.observer.ghost_name) × (after.watch.ghost_name ≡ before.watch.ghost_name)

  -- the other observer and the stopwatch are the same ones
  abbrev pub AreNamed : Timed O C → Timed O C → Type 0
  AreNamed before after = (after.observer.ghost_name ≡ before.observer.ghost_name) × (after.watch.ghost_name ≡ before.watch.ghost_name)

  -- those that it was given were passed on
  all_passed : (fs : List Finished) (before after : Timed O C) → AreTaken TakesTimed fs before after
      → AreTaken takes fs before.observer.now after.observer.now × AreNamed before after
  all_passed [] before after same = (ap (λ t. t.observer.now) same, (ap (λ t. t.observer.ghost_name) same, ap (λ t. t.watch.ghost_name) same))
  all_passed (f ∷ fs) before after taken =
      let rest = all_passed fs taken.0 after taken.2 in
      ((taken.0.observer.now, taken.1.0, rest.0), (rest.1.0 ∙ taken.1.2, rest.1.1 ∙ taken.1.3))

  ended_passed : (fs : List Finished) (before after : Timed O C) → IsEndedAt TakesTimed fs before after
      → IsEndedAt takes fs before.observer.now after.observer.now × AreNamed before after
  ended_passed fs before after ended =
      let others = all_passed ended.others before ended.between ended.each in
      let one = ended.at_last in (
        record { others = ended.others; last = ended.last; all = ended.all; between = ended.between.observer.now; each = others.0; at_last = one.0 },
        (one.2 ∙ others.1.0, one.3 ∙ others.1.1),
      )

module _ {B O : Type 0} (outcome : B → PassState → Back → Type 0) (cases : List (Case B)) (options : RunOptions) (takes : O → Finished → O → Bool → Type 0) where
  -- the test cases that a campaign gave to its observer
  pub given_of : (before after : O) (answer : Option CampaignEnd) → IfSome answer (IsObserved outcome cases options.stop_on worker_limit takes before after)
      → IfNone answer (IsCutShort outcome cases options.stop_on worker_limit takes before after)
      → (fs : List Finished) × AreGiven outcome takes cases options before after fs answer
  given_of before after (Some ending) seen none = (seen.finished, (run_to seen, seen.taken))
  given_of before after None some short = (short.others ++ short.last ∷ [], (short.each, ended_at short))

  -- what was given to an observer that has it measured was passed on
  pub given_inside : {C : Type 0} (before after : Timed O C) (fs : List Finished) (answer : Option CampaignEnd)
      → AreGiven outcome (TakesTimed takes) cases options before after fs answer
      → AreGiven outcome takes cases options before.observer.now after.observer.now fs answer
      × AreNamed takes before after
  given_inside before after fs (Some ending) given =
      let all = all_passed takes fs before after given.1 in
      ((given.0, all.0), all.1)
  given_inside before after fs None given =
      let all = ended_passed takes fs before after given.1 in
      ((given.0, all.0), all.1)

  -- what was given to a `Progress` was reported too
  pub given_told : {E C : Type 0} (contents : E → Option (List ℕ)) (start : Option (List ℕ)) (before after : Progress O E C) (fs : List Finished) (answer : Option CampaignEnd)
      → HasTold contents start [] before → AreGiven outcome (Takes contents takes) cases options before after fs answer
      → AreGiven outcome takes cases options before.observer.now after.observer.now fs answer × HasTold contents start fs after
      × AreSame contents takes before after
  given_told contents start before after fs (Some ending) fresh given =
      let all = all_told contents takes start [] fs before after fresh given.1 in
      ((given.0, all.0), all.1, all.2)
  given_told contents start before after fs None fresh given =
      let all = ended_told contents takes start fs before after fresh given.1 in
      ((given.0, all.0), all.1, all.2)

module _ {B O : Type 0} (outcome : B → PassState → Back → Type 0) (cases : List (Case B)) (options : RunOptions) (takes : O → Finished → O → Bool → Type 0)
    (kept : O → Vec (Option (ℕ × ℕ))) (each : (before : O) (f : Finished) (after : O) (goes_on : Bool) → takes before f after goes_on → KeepsTimes (kept before) 1 (kept after)) where
  -- if a time is kept of each test case, as many are kept as were given
  pub given_timed : (before after : O) (fs : List Finished) (answer : Option CampaignEnd) → AreGiven outcome takes cases options before after fs answer
      → KeepsTimes (kept before) (length fs) (kept after)
  given_timed before after fs (Some ending) given = all_timed takes kept each fs before after given.1
  given_timed before after fs None given = ended_timed takes kept each fs before after given.1

-- the same of an observer and of lines that are the same ones
pub told_same : {B O : Type 0} {outcome : B → PassState → Back → Type 0} {takes : O → Finished → O → Bool → Type 0} {cases : List (Case B)} {options : RunOptions}
    {b c a d : O} {u v t s : Option (List ℕ)} {k l : Vec (Option (ℕ × ℕ))} {times : Times} {answer : Option CampaignEnd} {line : Result (Unit {0}) OutFault}
    → WasTold outcome takes cases options b a u t k times answer line → b ≡ c → a ≡ d → u ≡ v → t ≡ s → k ≡ l
    → WasTold outcome takes cases options c d v s l times answer line
told_same {B} {O} {outcome} {takes} {cases} {options} {b} {c} {a} {d} {u} {v} {t} {s} {k} {l} {times} {answer} {line} was first last start end room = record {
  finished = was.finished;
  given = subst (λ o. AreGiven outcome takes cases options o d was.finished answer) first (subst (λ o. AreGiven outcome takes cases options b o was.finished answer) last was.given);
  told_of = subst (λ o. IsToldBy options.progress (options.failures, case_names outline_of cases) o s was.finished line) start
      (subst (λ o. IsToldBy options.progress (options.failures, case_names outline_of cases) u o was.finished line) end was.told_of);
  timed = subst (λ (o : Vec (Option (ℕ × ℕ))). o.items ≡ [] → length was.finished ≤ vec_capacity o → length times.cases ≡ length was.finished) room was.timed;
}
