use Rattle.std.{proofs.Common.{◌≡◌, ◌++◌}, specs.List.flat_map}
use Rattle.tc_rules.specs.Prelude.{logs_below}
use Rattle.tc_report.specs.{Inside.name_or_none, Report.run_text}
use Rattle.tc_report.proofs.report.append_runs_of.Given as goal

abbrev pub invariant-loop-run : goal.invariant-loop-run
invariant-loop-run l = l.out.items ≡ l.fn.out.items ++ flat_map (run_text (name_or_none l.names)) (logs_below l.history l.run)
