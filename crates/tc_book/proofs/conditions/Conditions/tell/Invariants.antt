use Rattle.std.proofs.Common.{◌≡◌}
use Rattle.tc_book.proofs.conditions.Conditions.tell.Given as goal

-- the runs before this one were looked at
abbrev pub invariant-loop-condition : goal.invariant-loop-condition
invariant-loop-condition l = l.told.runs ≡ l.condition-index
