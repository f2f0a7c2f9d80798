use Rattle.std.proofs.Common.{rules, length, reverse, arith}
use Rattle.tc_book.proofs.Reporting.{one_history, logs_known}
use Rattle.tc_book.proofs.report.report.Goals as goal

pub returns-clause-report : goal.returns-clause-report
returns-clause-report c =
    let logs = logs_known c.args.starts.now c.args.parts.items c.args.history.items (length c.args.parts.items) c.requires.starts c.requires.parts (omega arith) in
    let locals = c.in_ok-locals.ensures (reverse c.args.history.items) c.requires.stands in
    let worst = c.overall.ensures (reverse c.args.history.items) c.requires.stands in
    one_history c.args.state.now c.args.history.items _ c.requires.stands c.requires.started c.requires.over (rw (← c.requires.behaviours) c.requires.merged)
    (search rules) (search rules) (search (rules, logs)) (search (rules, locals)) (search (rules, worst))
