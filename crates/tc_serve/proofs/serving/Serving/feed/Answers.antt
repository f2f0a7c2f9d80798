use Rattle.std.proofs.{Common.{◌≡◌, length, arith}, lemmas.{Grind.common_steps, List.nil_from_length}}
use Rattle.tc_serve.proofs.Feeding.{taken_all, taken_bad, taken_more, taken_none}
use Rattle.tc_serve.proofs.serving.Serving.feed.Goals as goal

pub loop-rest-init : goal.loop-rest-init
loop-rest-init c = taken_none c.args.bytes.now c.args.self.now c.args.texts.now.out.items c.args.texts.now.told.items

pub loop-rest-preserved : goal.loop-rest-preserved
loop-rest-preserved c = taken_more _ _ _ _ _ _ _ _ _ _ _ _ c.loop-rest.invariant c.in-Ok.ensures.ok

pub returns-in-Err-clause-stopped : goal.returns-in-Err-clause-stopped
returns-in-Err-clause-stopped c = taken_bad _ _ _ _ _ _ _ _ _ _ c.in-Err.fault c.loop-rest.invariant c.in-Err.ensures.stopped

pub returns-clause-ok : goal.returns-clause-ok
returns-clause-ok c =
    let none : length c.loop-rest.rest.now ≡ 0 = grind (arith, common_steps) in
    taken_all _ _ _ _ _ _ _ _ c.loop-rest.invariant (nil_from_length c.loop-rest.rest.now none)
