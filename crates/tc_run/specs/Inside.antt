-- What the functions inside of a run say, which no public clause names.
use Rattle.std.specs.{Prelude.{ℕ, ◌≡◌, ◌≤◌, Bool, Option, Some, None, Result, List, [], length}, Global.Vec, Result.{result_and, result_map_both}, Vec.vec_capacity}
use Rattle.tc_entry.specs.declared.limits.TheConstants.{BEHAVIOURS}
use Rattle.tc_report.specs.{Inside.IsEndedAt, declared.{fault.OutFault.OutFault, results.{CampaignEnd.CampaignEnd, Finished.Finished}, stopwatch.Times.Times}, Prelude.{AreTaken, IsToldBy}}
use Rattle.tc_book.specs.Prelude.{PassState}
use Rattle.tc_exec.specs.declared.{job.Back.Back, test_case.Case.Case}
use Rattle.tc_campaign.specs.Prelude.{AreBack, AreFinished, IsCalled, IsRunTo, outline_of}
use Rattle.tc_command.specs.declared.task.RunOptions.{RunOptions}
use Rattle.tc_answer.specs.declared.fault.RunFault.{RunFault}
use Rattle.tc_run.specs.{Output.{of_output}, Run.{case_names}}

-- the first fault, of the lines about test cases as they finish, and of the line after them
abbrev pub first_fault : Result (Unit {0}) OutFault → Result (Unit {0}) RunFault → Result (Unit {0}) RunFault
first_fault telling line = result_and (result_map_both (λ x. x) of_output telling) line

-- the workers of a test case
abbrev pub worker_limit : ℕ
worker_limit = BEHAVIOURS

module _ {B O : Type 0} (outcome : B → PassState → Back → Type 0) (takes : O → Finished → O → Bool → Type 0) (cases : List (Case B)) (o : RunOptions) where
  -- these test cases were finished and given to the observer; the campaign ended so, or the observer has ended it at the last of them
  abbrev pub AreGiven : O → O → List Finished → Option CampaignEnd → Type 0
  AreGiven before after fs (Some ending) =
      IsRunTo outline_of (IsCalled outcome) cases o.stop_on worker_limit (AreBack outcome) fs ending × AreTaken takes fs before after
  AreGiven before after fs None = AreFinished outline_of (IsCalled outcome) cases o.stop_on worker_limit fs × IsEndedAt takes fs before after

  -- the campaign was run so, what was printed is what is due about the test cases that were finished, and each has a time, if
  -- there was room for them
  pub record WasTold (before after : O) (untold told : Option (List ℕ)) (room : Vec (Option (ℕ × ℕ))) (times : Times) (answer : Option CampaignEnd) (line : Result (Unit {0}) OutFault) : Type 0 where
    pub finished : List Finished
    pub given : AreGiven before after finished answer
    pub told_of : IsToldBy o.progress (o.failures, case_names outline_of cases) untold told finished line
    pub timed : room.items ≡ [] → length finished ≤ vec_capacity room → length times.cases ≡ length finished
