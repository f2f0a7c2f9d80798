use Rattle.std.{proofs.Common.{◌≡◌, ◌++◌, ◌∷◌, [], codes, take}, specs.{Prelude.slice_get, Fmt.decimal, List.flat_map, Option.unwrap_or}}
use Rattle.tc_report.specs.Report.{shown_entry}
use Rattle.tc_report.proofs.report.append_run.Given as goal

abbrev pub invariant-loop-entry : goal.invariant-loop-entry
invariant-loop-entry l =
    l.out.items ≡ (l.fn.out.items ++ (codes "run " ++ (decimal l.log.run.0 ++ (codes " " ++ (unwrap_or (slice_get l.names l.log.run.0) []
    ++ (codes " on " ++ (decimal l.log.comp.0 ++ 10 ∷ []))))))) ++ flat_map shown_entry (take l.entry-index l.log.entries)
