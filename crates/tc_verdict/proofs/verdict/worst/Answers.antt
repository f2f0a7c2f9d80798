use Rattle.std.proofs.{Common.{◌≡◌, arith}, lemmas.Grind.common_steps}
use Rattle.tc_verdict.{specs.{Verdict.worst, declared.verdict.Verdict.Verdict}, proofs.Lemmas.Order.{worst_take, worst_is_greatest, worst_is_member}}
use Rattle.tc_verdict.proofs.verdict.worst.Goals as goal

pub loop-verdict-preserved : goal.loop-verdict-preserved
loop-verdict-preserved c =
    let e = worst_take c.args.all.now c.loop-verdict.verdict-index Verdict.None c.loop-verdict-test.true in
    cc

pub returns-clause-greatest : goal.returns-clause-greatest
returns-clause-greatest c =
    let whole : c.loop-verdict.worst ≡ worst c.args.all.now = grind (arith, common_steps) in
    rw whole (worst_is_greatest c.args.all.now)

pub returns-clause-member : goal.returns-clause-member
returns-clause-member c =
    let whole : c.loop-verdict.worst ≡ worst c.args.all.now = grind (arith, common_steps) in
    rw whole (worst_is_member c.args.all.now)
