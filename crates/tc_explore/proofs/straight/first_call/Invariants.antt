use Rattle.std.proofs.Common.{ℕ, ◌<◌}
use Rattle.tc_rules.specs.Prelude.{past_of}
use Rattle.tc_explore.specs.Inside.Seen.{IsHeldAt, run_at}
use Rattle.tc_explore.proofs.straight.first_call.Given as goal

-- the runs before have no call, or do not continue
abbrev pub invariant-loop-at : goal.invariant-loop-at
invariant-loop-at l = (k : ℕ) → k < l.at → IsHeldAt l.scripts (past_of l.course) (run_at l.from_highest l.count k)
