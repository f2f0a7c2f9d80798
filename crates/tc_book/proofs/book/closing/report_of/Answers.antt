use Rattle.std.proofs.Common.{reverse}
use Rattle.tc_rules.specs.Prelude.{logs_below}
use Rattle.tc_book.proofs.{Joining.below_logs, Reporting.none_beyond, Wholeness.whole_by}
use Rattle.tc_book.proofs.book.closing.report_of.Goals as goal

pub report-requires-clause-merged : goal.report-requires-clause-merged
report-requires-clause-merged c =
    rw c.requires.joined.logs.as_many (c.requires.joined.itself (logs_below c.args.history.items c.args.state.now.behaviours)
    (below_logs c.args.state.now.behaviours c.args.parts.items c.args.history.items c.requires.joined.logs.as_many c.requires.sound (none_beyond c.args.state.now (reverse c.args.history.items) c.requires.stands)))

pub returns-in-Ok-clause-whole : goal.returns-in-Ok-clause-whole
returns-in-Ok-clause-whole c =
    whole_by c.args.state.now.behaviours c.args.starts.now c.args.parts.items c.args.history.items c.args.lefts.value.items c.requires.joined c.requires.sound (none_beyond c.args.state.now (reverse c.args.history.items) c.requires.stands)
