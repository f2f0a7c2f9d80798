-- What the report of a run of scripts says of their courses.
use Rattle.std.specs.Prelude.{List, length}
use Rattle.tc_rules.specs.declared.closed.Closed.{Closed}
use Rattle.tc_exec.specs.Prelude.{IsCaseReport, IsMadeOf}
use Rattle.tc_step.specs.Prelude.{ScriptView}
use Rattle.tc_script.specs.Calls.{MakesItsCalls}

-- this is the report of a run of these scripts: one history, made of the logs of passes with which each script made its calls
pub record IsReportOf (scripts : List ScriptView) (c : Closed) : Type 0 where
  pub report : IsCaseReport (length scripts) c
  pub made : IsMadeOf MakesItsCalls scripts c
