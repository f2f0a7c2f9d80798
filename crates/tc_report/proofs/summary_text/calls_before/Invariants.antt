use Rattle.std.proofs.Common.{◌≡◌, filter, take}
use Rattle.tc_report.specs.Inside.{is_shown}
use Rattle.tc_report.proofs.summary_text.calls_before.Given as goal

abbrev pub invariant-loop-entry : goal.invariant-loop-entry
invariant-loop-entry l = l.calls.items ≡ filter is_shown (take l.entry-index (take l.cause.before l.cause.log))
