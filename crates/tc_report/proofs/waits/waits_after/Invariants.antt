use Rattle.std.{proofs.Common.{◌≡◌, [], if◌then◌else◌, List}, specs.List.{flat_map, range_with_len}}
use Rattle.tc_rules.specs.Prelude.{Entry, StandsFor, comp_of, is_active, waiting}
use Rattle.tc_report.specs.Waits.{wait_line}
use Rattle.tc_report.proofs.waits.waits_after.Given as goal

abbrev pub invariant-loop-run : goal.invariant-loop-run
invariant-loop-run l =
    (past : List Entry) → StandsFor l.state past
    → l.out.items ≡ flat_map (λ b. if is_active past b then wait_line l.names past b (comp_of past b) (waiting past b) else []) (range_with_len 0 l.run)
