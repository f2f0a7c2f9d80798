use Rattle.std.proofs.Common.{ℕ, None, [], ◌≡◌, ◌<◌}
use Rattle.tc_rules.specs.Prelude.{past_of}
use Rattle.tc_course.specs.Prelude.{turn}
use Rattle.tc_model.proofs.following.end_fault.Given as goal

-- none of the runs so far has a call left
abbrev pub invariant-loop-run : goal.invariant-loop-run
invariant-loop-run l = (b : ℕ) → b < l.run → turn [] (past_of l.course) b ≡ None
