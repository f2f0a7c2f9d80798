use Rattle.std.proofs.Common.{◌≡◌, length}
use Rattle.tc_book.specs.Inside.{logs_from}
use Rattle.tc_book.proofs.report.logs_of.Given as goal

-- the logs of the runs so far
abbrev pub invariant-loop-entries : goal.invariant-loop-entries
invariant-loop-entries l = (l.run.0 ≡ length l.yielded) × (l.logs.items ≡ logs_from l.starts l.yielded (length l.yielded))
