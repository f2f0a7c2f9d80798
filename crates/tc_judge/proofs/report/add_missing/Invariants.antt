use Rattle.std.proofs.Common.{◌≡◌, ◌++◌, map, take}
use Rattle.tc_report.specs.{Prelude.bare_summary, declared.results.CaseEnd.TheVariants.Missing}
use Rattle.tc_judge.proofs.report.add_missing.Given as goal

abbrev pub invariant-loop-name : goal.invariant-loop-name
invariant-loop-name l = l.cases.items ≡ l.initial.cases.items ++ map (bare_summary Missing) (take l.name-index l.missing)
