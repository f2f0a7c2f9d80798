use Rattle.std.proofs.Common.{◌≡◌, ◌++◌, length}
use Rattle.tc_rules.specs.Prelude.{verdict_calls_after}
use Rattle.tc_book.proofs.heads.add_head.Given as goal

abbrev pub invariant-loop-entry : goal.invariant-loop-entry
invariant-loop-entry l = l.all.items ++ verdict_calls_after 0 l.rest ≡ l.initial.all.items ++ verdict_calls_after 0 l.log

abbrev pub decreases-loop-entry : goal.decreases-loop-entry
decreases-loop-entry l = length l.rest
