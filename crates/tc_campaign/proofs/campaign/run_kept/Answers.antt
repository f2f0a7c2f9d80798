use Rattle.std.{proofs.Common.{◌≤◌, length, arith, subst}, specs.{Prelude.IfNone, Vec.vec_capacity}}
use Rattle.tc_report.specs.Prelude.{Keeps}
use Rattle.tc_campaign.{specs.Campaign.IsCutShort, proofs.Lemmas.Keeping.{kept_run, not_cut}}
use Rattle.tc_campaign.proofs.campaign.run_kept.Goals as goal

pub unreachable-requires : goal.unreachable-requires
unreachable-requires g c =
    let fits : length c.args.cases.items ≤ vec_capacity c.args.kept.finished = omega (arith, c.requires.room) in
    let cut = subst (λ a. IfNone a (IsCutShort g.B.Callable.outcome c.args.cases.items c.args.stop_on c.args.threads Keeps c.args.kept c.run_campaign_with-ending.new.observer))
    c.in-None.is c.run_campaign_with-ending.ensures.cut in
    absurd (not_cut g.B.Callable.outcome _ _ _ _ _ c.requires.none fits cut)

pub returns : goal.returns
returns g c =
    let fits : length c.args.cases.items ≤ vec_capacity c.args.kept.finished = omega (arith, c.requires.room) in
    record {
      run = rw (c.into_results.ensures.finished, c.into_results.ensures.ending)
          (kept_run g.B.Callable.outcome _ _ _ _ _ c.requires.none fits _ _ c.in-Some.is c.run_campaign_with-ending.ensures.ended);
    }
