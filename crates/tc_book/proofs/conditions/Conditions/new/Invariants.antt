use Rattle.std.proofs.Common.{◌≡◌, ◌<◌, ℕ, length, get_or}
use Rattle.tc_book.specs.declared.conditions.condition.Condition.{Condition}
use Rattle.tc_book.proofs.conditions.Conditions.new.Given as goal

-- the conditions so far are those of the runs below b
abbrev pub invariant-loop-b : goal.invariant-loop-b
invariant-loop-b l = (length l.of_runs.items ≡ l.b) × ((k : ℕ) (d : Condition) → k < l.b → (get_or l.of_runs.items k d).run.0 ≡ k)
