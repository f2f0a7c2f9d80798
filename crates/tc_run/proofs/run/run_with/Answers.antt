use Rattle.std.proofs.Common.{◌∙◌, [], ap, length, subst, sym, true}
use Rattle.tc_report.{specs.Prelude.{IsToldBy, KeepsTimes}, proofs.Lemmas.{Keeping.as_many, Telling.Takes}}
use Rattle.tc_campaign.specs.Prelude.{outline_of}
use Rattle.tc_run.{specs.{Inside.AreGiven, Run.case_names}, proofs.Telling.{given_of, given_timed, given_told}}
use Rattle.tc_run.proofs.run.run_with.Goals as goal

pub returns : goal.returns
returns g c =
    let outcome = g.B.Callable.outcome in
    let contents = g.E.Write.contents in
    let takes = g.O.Observer.takes in
    let options = c.args.options.now in
    let cases = c.args.cases.items in
    let start = contents c.args.progress.now.writer.now in
    let begun = c.begin.ensures in
    let end = c.end-told.ensures in
    let first = c.begin.new.self in
    let last = c.end-told.new.self in
    let ran = c.run_campaign_with-ending in
    let seen = given_of outcome cases options (Takes contents takes) first ran.new.observer ran.result ran.ensures.ended ran.ensures.cut in
    let fs = seen.0 in
    let all = given_told outcome cases options takes contents start first ran.new.observer fs ran.result (begun.told start [] c.requires.none) seen.1 in
    let timed = given_timed outcome cases options (Takes contents takes) (λ p. p.watch.now.cases) (λ before f next goes_on one. one.2) first ran.new.observer fs ran.result seen.1 in
    let measured = subst (λ v. KeepsTimes v (length fs) last.watch.now.cases) begun.watch
    (subst (λ v. KeepsTimes first.watch.now.cases (length fs) v) (sym (ap (λ w. w.now.cases) end.watch)) timed) in
    let only = ap (λ s. s.only) (all.2.4 ∙ begun.shown) ∙ c.requires.only in
    let due = case_names outline_of cases in
    let names = ap (λ s. s.names.now) (all.2.4 ∙ begun.shown) ∙ c.requires.all_names in
    let now = contents last.writer.now in
    record {
      run = record {
        finished = fs;
        given = subst (λ o. AreGiven outcome takes cases options o last.observer.now fs ran.result) (ap (λ o. o.now) begun.others)
            (subst (λ o. AreGiven outcome takes cases options first.observer.now o fs ran.result) (sym (ap (λ o. o.now) end.others)) all.0);
        told_of = subst (λ t. IsToldBy t (options.failures, due) start now fs c.end-told.result) (sym c.requires.tells)
            (subst (λ o. IsToldBy true (o, due) start now fs c.end-told.result) only
            (subst (λ ns. IsToldBy true (ran.new.observer.shown.only, ns) start now fs c.end-told.result) names (end.told start fs all.1)));
        timed = λ none room. ap length c.take_times-times.ensures.cases ∙ as_many (length fs) c.args.progress.now.watch.now.cases last.watch.now.cases measured none room;
      };
      same_watch = ap (λ w. w.ghost_name) end.watch ∙ all.2.0 ∙ begun.same_watch;
      same_observer = ap (λ o. o.ghost_name) end.others ∙ all.2.1 ∙ ap (λ o. o.ghost_name) begun.others;
      same_writer = end.same_writer ∙ all.2.2 ∙ begun.same_writer;
      same_failed = end.same_failed ∙ all.2.3 ∙ begun.same_failed;
    }
