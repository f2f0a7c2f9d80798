use Rattle.std.proofs.Common.{◌≡◌, ◌≤◌, length}
use Rattle.tc_rules.specs.Prelude.{runs_end, log_of}
use Rattle.tc_book.proofs.InPlace.{HasAfter}
use Rattle.tc_book.proofs.by_run.logs_by_run.Given as goal

abbrev pub invariant-loop-log : goal.invariant-loop-log
invariant-loop-log l = record {
  len : length l.by_run.items ≡ runs_end l.logs;
  within : runs_end l.rest ≤ length l.by_run.items;
  has : HasAfter l.by_run.items l.rest (log_of l.logs);
}

abbrev pub decreases-loop-log : goal.decreases-loop-log
decreases-loop-log l = length l.rest
