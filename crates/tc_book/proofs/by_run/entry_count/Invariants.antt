use Rattle.std.proofs.Common.{◌≡◌, take, length, sum_by}
use Rattle.tc_book.proofs.by_run.entry_count.Given as goal

abbrev pub invariant-loop-log : goal.invariant-loop-log
invariant-loop-log l = l.count ≡ sum_by (λ m. length m.now) (take l.log-index l.logs)
