use Rattle.std.proofs.{Common.{arith, refl}, lemmas.Grind.common_steps}
use Rattle.tc_serve.proofs.Sleeping.{woken_all, woken_one}
use Rattle.tc_serve.proofs.open_case.OpenCase.wake_all.Goals as goal

pub loop-run-init : goal.loop-run-init
loop-run-init c = record { so_far = λ p closed before holds. holds; same = refl; any = grind (arith, common_steps) }

pub loop-run-preserved : goal.loop-run-preserved
loop-run-preserved c = record {
  so_far = woken_one c.args.self.now c.loop-run.self c.wake.new.self c.loop-run.run _ c.args.out.now.items c.loop-run.out.items c.wake.new.out.items refl c.loop-run.invariant.so_far c.in_ok-wake.ensures.ok;
  same = grind (arith, common_steps, c.in_ok-wake.ensures.same, c.loop-run.invariant.same);
  any = grind (arith, common_steps, c.in_ok-wake.ensures.any, c.loop-run.invariant.any);
}

pub returns-clause-ok : goal.returns-clause-ok
returns-clause-ok c = woken_all c.args.self.now c.loop-run.self c.loop-run.run c.args.out.now.items c.loop-run.out.items (omega (arith, c.loop-run-test.false, c.loop-run.auto.run-end, c.loop-run.invariant.same)) c.loop-run.invariant.so_far
