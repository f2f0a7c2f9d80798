use Rattle.std.{proofs.Common.{◌≡◌, ◌++◌, [], slice_get, take}, specs.{List.flat_map, Option.unwrap_or}}
use Rattle.tc_report.specs.Report.{run_text}
use Rattle.tc_report.proofs.report.append_runs.Given as goal

abbrev pub invariant-loop-log : goal.invariant-loop-log
invariant-loop-log l = l.out.items ≡ l.fn.out.items ++ flat_map (run_text (λ b. unwrap_or (slice_get l.names b) [])) (take l.log-index l.logs)
