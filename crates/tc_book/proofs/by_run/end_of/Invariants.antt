use Rattle.std.proofs.Common.{◌≡◌, max, length}
use Rattle.tc_rules.specs.Prelude.{runs_end}
use Rattle.tc_book.proofs.by_run.end_of.Given as goal

abbrev pub invariant-loop-log : goal.invariant-loop-log
invariant-loop-log l = max l.end (runs_end l.rest) ≡ runs_end l.logs

abbrev pub decreases-loop-log : goal.decreases-loop-log
decreases-loop-log l = length l.rest
