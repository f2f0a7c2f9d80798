use Rattle.std.proofs.Common.{◌∙◌, ap, length, subst}
use Rattle.tc_report.{specs.Prelude.KeepsTimes, proofs.Lemmas.{Keeping.as_many, Telling.{silent}}}
use Rattle.tc_run.proofs.Telling.{TakesTimed, given_inside, given_of, given_timed}
use Rattle.tc_run.proofs.run.run_timed.Goals as goal

pub returns : goal.returns
returns g c =
    let options = c.args.options.now in
    let cases = c.args.cases.items in
    let takes = g.O.Observer.takes in
    let ran = c.run_campaign_with-ending in
    let after = ran.new.observer in
    let seen = given_of g.B.Callable.outcome cases options (TakesTimed takes) _ after ran.result ran.ensures.ended ran.ensures.cut in
    let timed = given_timed g.B.Callable.outcome cases options (TakesTimed takes) (λ t. t.watch.now.cases) (λ before f next goes_on one. one.1) _ after seen.0 ran.result seen.1 in
    let measured = subst (λ v. KeepsTimes v (length seen.0) after.watch.now.cases) c.begin.ensures.cases timed in
    let all = given_inside g.B.Callable.outcome cases options takes _ after seen.0 ran.result seen.1 in
    record {
      run = λ held. record {
        finished = seen.0;
        given = all.0;
        told_of = silent options.progress _ held seen.0 c.requires.silent;
        timed = λ none room. ap length c.take_times-times.ensures.cases ∙ as_many (length seen.0) c.args.timed.now.watch.now.cases after.watch.now.cases measured none room;
      };
      same_watch = all.1.1;
      same_observer = all.1.0;
    }
