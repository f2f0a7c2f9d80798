use Rattle.std.proofs.Common.{◌-◌}
use Rattle.tc_explore.specs.Inside.Seen.{AreClosed, IsFurther}
use Rattle.tc_explore.proofs.search.search_all.Given as goal

abbrev pub invariant-loop-at : goal.invariant-loop-at
invariant-loop-at l = record {
  further : IsFurther l.initial.search l.search;
  closed : AreClosed l.search l.at;
}

abbrev pub decreases-loop-at : goal.decreases-loop-at
decreases-loop-at l = l.search.met.limit - l.at
