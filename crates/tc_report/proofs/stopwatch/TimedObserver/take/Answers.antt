use Rattle.std.proofs.Common.{refl}
use Rattle.tc_report.proofs.Lemmas.Keeping.{one_kept}
use Rattle.tc_report.proofs.stopwatch.TimedObserver.take.Goals as goal

pub returns : goal.returns
returns g c =
    let finish = c.finish.ensures in
    let cases = c.args.self.now.watch.now.cases in
    (c.take-goes_on.ensures, one_kept c.finish.result cases c.finish.new.self.cases _ finish.kept finish.room c.begin.ensures.cases, refl, refl)
