use Rattle.tc_rules.specs.Prelude.{past_of}
use Rattle.tc_explore.specs.Inside.Locals.{AreLocalsRuns, IsLocalFurther}
use Rattle.tc_explore.proofs.search_locals.LocalSearch.expand.Given as goal

abbrev pub invariant-loop-run : goal.invariant-loop-run
invariant-loop-run l = record {
  further : IsLocalFurther l.initial.self l.self;
  closed : AreLocalsRuns l.self (past_of l.course) l.run;
}
