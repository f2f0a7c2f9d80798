use Rattle.std.proofs.Common.{◌≡◌, ℕ, suc, length}
use Rattle.tc_rules.specs.Prelude.{verdict_calls_after}
use Rattle.tc_book.proofs.heads.after_other.Given as goal

abbrev pub invariant-loop-entry : goal.invariant-loop-entry
invariant-loop-entry l = (k : ℕ) → verdict_calls_after (suc k) l.rest ≡ verdict_calls_after (suc k) l.log

abbrev pub decreases-loop-entry : goal.decreases-loop-entry
decreases-loop-entry l = length l.rest
