use Rattle.std.{proofs.Common.{◌∙◌, ◌≤◌, length, ap, arith, subst, sym}, specs.Vec.vec_capacity}
use Rattle.tc_report.specs.Prelude.{Keeps, IsToldBy}
use Rattle.tc_campaign.{specs.Prelude.{AreBack, IsCalled, IsRunTo, outline_of}, proofs.Lemmas.Keeping.{all_are_kept, no_more, not_ended}}
use Rattle.tc_run.specs.{Inside.{AreGiven, worker_limit}, Run.case_names}
use Rattle.tc_run.proofs.run.run_kept.Goals as goal

pub unreachable-requires : goal.unreachable-requires
unreachable-requires g c =
    let fits : length c.args.cases.items ≤ vec_capacity c.args.kept.finished = omega (arith, c.requires.room) in
    let was = c.run_told-ending.ensures in
    let given = subst (AreGiven g.B.Callable.outcome Keeps c.args.cases.items c.args.options.now _ _ was.finished) c.in-None.is was.given in
    absurd (not_ended g.B.Callable.outcome _ _ _ _ _ c.requires.none fits was.finished given.0 given.1)

pub returns : goal.returns
returns g c =
    let fits : length c.args.cases.items ≤ vec_capacity c.args.kept.finished = omega (arith, c.requires.room) in
    let was = c.run_told-ending.ensures in
    let given = subst (AreGiven g.B.Callable.outcome Keeps c.args.cases.items c.args.options.now _ _ was.finished) c.in-Some.is was.given in
    let kept = all_are_kept g.B.Callable.outcome _ _ _ _ _ c.requires.none fits was.finished given.0.each given.1 in
    record {
      run = rw (c.into_results.ensures.finished, c.into_results.ensures.ending)
          (subst (λ fs. IsRunTo outline_of (IsCalled g.B.Callable.outcome) c.args.cases.items c.args.options.now.stop_on worker_limit (AreBack g.B.Callable.outcome) fs c.in-Some.ending) (sym kept) given.0);
      told = rw c.into_results.ensures.finished
          (subst (λ fs. IsToldBy c.args.options.now.progress (c.args.options.now.failures, case_names outline_of c.args.cases.items) (g.E.Write.contents c.args.errors.now) (g.E.Write.contents c.run_told-ending.new.errors)
          fs c.run_told-ending.result.1) (sym kept) was.told_of);
      timed = λ none room. rw c.into_results.ensures.finished
          (was.timed none (omega (arith, no_more g.B.Callable.outcome c.args.cases.items c.args.options.now.stop_on worker_limit was.finished given.0.each, room)) ∙ ap length (sym kept));
    }
