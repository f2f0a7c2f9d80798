use Rattle.std.proofs.Common.{sym}
use Rattle.tc_rules.proofs.Runs.{caller_changed, two_changed, none_started, caller_started}
use Rattle.tc_rules.proofs.step.take_in_runs.Goals as goal

pub returns-in_default-clause-each : goal.returns-in_default-clause-each
returns-in_default-clause-each c =
    caller_changed c.args.entry.now c.args.runs.now.items c.take_in_run.new.runs.items (none_started c.args.entry.now (sym c.in_default.ensures)) c.take_in_run.ensures.at c.take_in_run.ensures.others

pub returns-then-run-entry-clause-each : goal.returns-then-run-entry-clause-each
returns-then-run-entry-clause-each c =
    two_changed c.args.entry.now c.in-Some.run' c.args.runs.now.items c.take_in_run.new.runs.items c.take_in_run-then-run-entry.new.runs.items (sym c.in-Some.ensures) c.if-run-entry.true c.take_in_run.ensures.as_many
    c.take_in_run.ensures.at c.take_in_run.ensures.others c.take_in_run-then-run-entry.ensures.at c.take_in_run-then-run-entry.ensures.others

pub returns-else-run-entry-clause-each : goal.returns-else-run-entry-clause-each
returns-else-run-entry-clause-each c =
    caller_changed c.args.entry.now c.args.runs.now.items c.take_in_run.new.runs.items (caller_started c.args.entry.now c.in-Some.run' (sym c.in-Some.ensures) c.if-run-entry.false) c.take_in_run.ensures.at c.take_in_run.ensures.others
