use Rattle.std.{proofs.Common.{◌≡◌, ◌<◌, length, map}, specs.List.All}
use Rattle.tc_rules.specs.Prelude.{log_of}
use Rattle.tc_book.{specs.Inside.run_log, proofs.ByRun.HasAfter}
use Rattle.tc_book.proofs.parts.logs_by_run.Given as goal

abbrev pub invariant-loop-left : goal.invariant-loop-left
invariant-loop-left l = record {
  len : length l.parts.items ≡ l.behaviours;
  within : All (λ r. r.run.0 < l.behaviours) l.lefts.items;
  has : HasAfter l.parts.items (map run_log l.lefts.items) l.behaviours (log_of (map run_log l.initial.lefts.items));
}

abbrev pub decreases-loop-left : goal.decreases-loop-left
decreases-loop-left l = length l.lefts.items
