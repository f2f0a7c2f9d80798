use Rattle.std.proofs.Common.{◌≡◌, ◌<◌, ◌++◌, length}
use Rattle.tc_rules.specs.Prelude.{past_of}
use Rattle.tc_model.specs.Naming.{lacking, starters}
use Rattle.tc_model.proofs.given.lacking.Given as goal

-- the runs so far, and those from the next one on, are those from the first one on
abbrev pub invariant-loop-comp : goal.invariant-loop-comp
invariant-loop-comp l = record {
  within : l.run.0 < l.course.behaviours;
  rest : l.found.items ++ lacking (past_of l.course) l.run.0 l.comp.0 ≡ lacking (past_of l.course) l.fn.run.0 l.comp.0;
}

abbrev pub decreases-loop-comp : goal.decreases-loop-comp
decreases-loop-comp l = length (starters (past_of l.course) l.run.0)
