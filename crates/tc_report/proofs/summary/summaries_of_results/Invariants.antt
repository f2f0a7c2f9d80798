use Rattle.std.{proofs.Common.{ℕ, ◌≡◌, ◌++◌, ◌∷◌, [], List, drop, map, take}, specs.Option.option_map_or}
use Rattle.tc_rules.specs.declared.refusal.CaseError.{CaseError}
use Rattle.tc_report.specs.{Report.aborted_case, Summary.{bare_summary, case_summary}, declared.results.CaseEnd.TheVariants.{Aborted, NotRun}}
use Rattle.tc_report.proofs.summary.summaries_of_results.Given as goal

abbrev pub invariant-loop-name : goal.invariant-loop-name
invariant-loop-name l =
    l.summaries.items ≡ (map case_summary l.results.finished ++ option_map_or (λ (c : List ℕ × CaseError). bare_summary (Aborted c.1) c.0 ∷ []) (aborted_case l.results.ending) [])
    ++ map (bare_summary NotRun) (take l.name-index (drop l.begun l.names))
