use Rattle.std.proofs.Common.{◌≡◌, ◌++◌, length, filter}
use Rattle.tc_rules.specs.Prelude.{is_late}
use Rattle.tc_book.proofs.heads.add_late.Given as goal

abbrev pub invariant-loop-entry : goal.invariant-loop-entry
invariant-loop-entry l = l.all.items ++ filter is_late l.rest ≡ l.initial.all.items ++ filter is_late l.log

abbrev pub decreases-loop-entry : goal.decreases-loop-entry
decreases-loop-entry l = length l.rest
