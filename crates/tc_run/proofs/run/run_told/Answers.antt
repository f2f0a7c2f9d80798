use Rattle.std.proofs.Common.{ap, refl, rules}
use Rattle.tc_run.proofs.Telling.{told_same}
use Rattle.tc_run.proofs.run.run_told.Goals as goal

pub returns-then-not-options : goal.returns-then-not-options
returns-then-not-options g c =
    told_same (c.run_timed-ending.ensures.run (g.E.Write.contents c.args.errors.now)) c.new-timed.ensures.observer (search rules) refl refl c.new-timed.ensures.cases

pub returns : goal.returns
returns g c =
    told_same c.run_with.ensures.run c.new-progress.ensures.observer (search rules) (ap g.E.Write.contents c.new-progress.ensures.writer) (search rules)
    c.new-progress.ensures.cases
