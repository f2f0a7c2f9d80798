use Rattle.std.proofs.Common.{◌≡◌, false, reverse, take}
use Rattle.tc_rules.specs.Prelude.{StandsFor}
use Rattle.tc_report.specs.{Inside.is_cut, Waits.played}
use Rattle.tc_report.proofs.waits.state_before_stuck.Given as goal

-- so far no call is replied to so
abbrev pub invariant-loop-entry : goal.invariant-loop-entry
invariant-loop-entry l =
    let past = reverse (take l.entry-index l.history) in
    (l.state.behaviours ≡ l.behaviours) × StandsFor l.state (played l.behaviours past) × (is_cut (played l.behaviours past) ≡ false)
