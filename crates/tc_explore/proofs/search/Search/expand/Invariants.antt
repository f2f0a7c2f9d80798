use Rattle.std.proofs.Common.{◌≡◌, ◌<◌, ℕ, true, false}
use Rattle.tc_rules.specs.Prelude.{past_of}
use Rattle.tc_explore.specs.Inside.{Seen.{AreStill, IsFurther, IsRunClosed}, Simulation.GoesOn}
use Rattle.tc_explore.proofs.search.Search.expand.Given as goal

abbrev pub invariant-loop-run : goal.invariant-loop-run
invariant-loop-run l = record {
  further : IsFurther l.initial.self l.self;
  closed : (b : ℕ) → b < l.run → IsRunClosed l.self (past_of l.course) b;
  goes_on : l.goes_on ≡ true → GoesOn l.initial.self.met.scripts.now (past_of l.course);
  still : l.goes_on ≡ false → AreStill l.initial.self.met.scripts.now (past_of l.course) l.run;
}
