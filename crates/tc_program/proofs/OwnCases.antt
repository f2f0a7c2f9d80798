-- Test cases of a program's own, as a task asks for them.
use Rattle.std.{proofs.Common.{ℕ, ◌≡◌, ◌⊎◌, ◌++◌, ◌∷◌, [], All, Bool, false, true, List, Option, ap₂, IfOk, Result, Ok, Err, inl, inr, refl, subst, sym}, specs.{Prelude.{◌≢◌, codes}, Global.Vec, Io.KnownBytes.Keeps, List.AllZip}}
use Rattle.tc_book.specs.Prelude.{PassState}
use Rattle.tc_campaign.specs.Prelude.{AreBack, IsCalled, HasNames, outline_of}
use Rattle.tc_answer.{specs.{Prelude.{CaseView, case_name, chosen, have_names, AreChosenOf, run_fault_line, said, IsPrintedRefusal, Streams}, Inside.{IsCaseOf, script_name}, declared.{fault.RunFault.RunFault, outcome.Outcome.Outcome}}, proofs.Lemmas.Chosen.all_chosen}
use Rattle.tc_exec.specs.declared.{job.Back.Back, test_case.Case.Case}
use Rattle.tc_command.specs.{Prelude.{IsCasesReading, IsReading}, declared.{read.Refused.Refused, task.{Choice.Choice, RunOptions.RunOptions, Task.Task}}}
use Rattle.tc_report.specs.declared.fault.OutFault.{OutFault}
use Rattle.tc_run.specs.Prelude.{of_output, IsRun, IsUnwrittenRun}
use Rattle.tc_step.specs.Prelude.{ScriptView}
use Rattle.tc_blocks.specs.Prelude.{IsInLimit}
use Rattle.tc_program.specs.{Alone.IsAnsweredAlone, Answer.{IsAnsweredBy, IsRefused}, Cases.{DoesCases, RefusesCases, WereMade}, Inside.{IsAsked, IsOfCases, list_text}, Limits.limit_of, Program.IsDoneBy}

-- what such arguments ask for is a run or a list
pub of_cases : (words : List (List ℕ)) (task : Task) → IsCasesReading words (Ok task) → IsOfCases task
of_cases words (Task.Run o) reads = tt
of_cases words (Task.List choice explains) reads = tt
of_cases words task reads = absurd reads.1

-- such a task is one of these two
pub no_other : (task : Task) → IsOfCases task → ((o : RunOptions) → task ≢ Task.Run o) → ((choice : Choice) (explains : Bool) → task ≢ Task.List choice explains) → ⊥
no_other (Task.Run o) is no_run no_list = no_run o refl
no_other (Task.List choice explains) is no_run no_list = no_list choice explains refl
no_other task is no_run no_list = is

-- what holds of the value of an answer
pub of_value : {V E : Type 0} (P : V → Type 0) (r : Result V E) (v : V) → r ≡ Ok v → P v → IfOk r P
of_value P r v is holds = subst (λ x. IfOk x P) (sym is) holds

-- arguments that ask to run test cases are answered without threads if it is said that they are not
pub not_begun : (words : List (List ℕ)) (task : Task) (input : Option (List ℕ)) (o : RunOptions) (ready : List (Case ScriptView)) (s : Streams) (Unread Unwritten : Type 0) (outcome : Outcome)
    → IsReading false words (Ok task) → IsAsked task input o ready → Keeps s.before s.after
    → IsPrintedRefusal s.untold s.told (said (codes "a run needs threads, and there are none here: try explore")) outcome → IsAnsweredAlone words input s Unread Unwritten outcome
not_begun words task input o ready s Unread Unwritten outcome reads asked keeps refusal =
    let read = asked.1 in
    inr (
      o,
      subst (λ t. IsReading false words (Ok t)) asked.0 reads,
      (read.0, subst (λ t. IsInLimit (limit_of t) read.0) asked.0 read.1, read.2, (read.3.cases, read.3.chosen)),
      keeps,
      refusal,
    )

module _ (Reads : Result Task Refused → Type 0) (Does : Task → Type 0) (s : Streams) (Unwritten : Type 0) (outcome : Outcome) where
  -- arguments that are a task are answered if it is done
  pub task_answered : {Unread : Type 0} (task : Task) → Reads (Ok task) → Does task → IsAnsweredBy Reads Does s Unread Unwritten outcome
  task_answered task reads does = record { answer = Ok task; reading = reads; answered = does }

  -- and those that are none, if that is said
  pub refusal_answered : (why : Refused) → Reads (Err why) → IsRefused why s Unwritten outcome → IsAnsweredBy Reads Does s (Unit {0}) Unwritten outcome
  refusal_answered why reads refused = record { answer = Err why; reading = reads; answered = (refused, tt) }

module _ {B E : Type 0} (made : Result (Vec (Case B)) E) where
  -- the chosen ones of test cases that were made are chosen of these
  pub chosen_made : (v : Vec (Case B)) (choice : Choice) (ks : List (Case B)) → made ≡ Ok v → have_names case_name choice.only.items v.items ≡ true
      → ks ≡ chosen case_name choice.only.items choice.shard v.items → AreChosenOf case_name (WereMade made) choice ks
  chosen_made v choice ks is have are = record { all = v.items; spelled = subst (λ r. WereMade r v.items) (sym is) refl; named = have; are = are }

  -- a choice that is refused of these is refused
  pub unchosen_made : (v : Vec (Case B)) (choice : Choice) (fault : RunFault) → made ≡ Ok v → (fault ≡ RunFault.NoMemory) ⊎ ((fault ≡ RunFault.Only) × (have_names case_name choice.only.items v.items ≡ false))
      → RefusesCases (WereMade made) choice fault
  unchosen_made v choice fault is (inl why) = subst (RefusesCases (WereMade made) choice) (sym why) tt
  unchosen_made v choice fault is (inr why) = subst (RefusesCases (WereMade made) choice) (sym why.0) (v.items, subst (λ r. WereMade r v.items) (sym is) refl, why.1)

-- chosen ones of test cases with names of their behaviours have such names
pub named_still : {B E : Type 0} (made : Result (Vec (Case B)) E) (choice : Choice) (ks : List (Case B)) → IfOk made (λ v. All HasNames v.items)
    → AreChosenOf case_name (WereMade made) choice ks → All HasNames ks
named_still (Ok v) choice ks names are =
    subst (All HasNames) (sym are.are) (all_chosen HasNames case_name choice.only.items choice.shard are.all (subst (All HasNames) are.spelled names))
named_still (Err e) choice ks names are = absurd are.spelled

module _ {B E : Type 0} (called : B → PassState → Back → Type 0) (made : Result (Vec (Case B)) E) (task : Task) (o : RunOptions) (is : task ≡ Task.Run o)
    (ks : List (Case B)) (are : AreChosenOf case_name (WereMade made) o.choice ks) where
  -- a run of the chosen ones is what a task does that asks for it
  pub ran : (s : Streams) (outcome : Outcome) → IsRun outline_of (IsCalled called) (AreBack called) ks o s outcome → DoesCases called (WereMade made) task s outcome
  ran s outcome run = IsDoneBy.run o is (record { asked_for = ks; chosen = are; run = inl run })

  -- and so is one whose results were not written whole
  pub ran_unwritten : (s : Streams) (fault : OutFault) (told : Option (List ℕ)) (outcome : Outcome) → IsUnwrittenRun outline_of (IsCalled called) (AreBack called) ks o s fault
      → IsPrintedRefusal s.told told (run_fault_line (of_output fault)) outcome → DoesCases called (WereMade made) task (record s { told = told }) outcome
  ran_unwritten s fault told outcome run refusal = IsDoneBy.run o is (record {
    asked_for = ks;
    chosen = are;
    run = inr (record {
      fault = fault;
      between = s.told;
      run = record { results = run.results; times = run.times; timed = run.timed; left = run.left; told = run.told };
      refusal = refusal;
    });
  })

-- the list of test cases that were made of a script is the list of the script
pub same_lines : (cs : List CaseView) (ks : List (Case ScriptView)) → AllZip IsCaseOf cs ks → list_text case_name ks ≡ list_text script_name cs
same_lines [] [] each = refl
same_lines [] (k ∷ ks) each = absurd each
same_lines (c ∷ cs) [] each = absurd each
same_lines (c ∷ cs) (k ∷ ks) each = ap₂ (λ (n : List ℕ) rest. (n ++ (10 ∷ [])) ++ rest) each.0.name (same_lines cs ks each.1)
