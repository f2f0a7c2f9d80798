use Rattle.std.{proofs.Common.{◌≡◌, ◌++◌, [], if◌then◌else◌, take}, specs.List.flat_map}
use Rattle.tc_rules.specs.Prelude.{is_by}
use Rattle.tc_report.specs.Report.{shown_entry}
use Rattle.tc_report.proofs.report.append_part.Given as goal

abbrev pub invariant-loop-entry : goal.invariant-loop-entry
invariant-loop-entry l = l.out.items ≡ l.fn.out.items ++ flat_map (λ e. if is_by l.run e then shown_entry e else []) (take l.entry-index l.history)
