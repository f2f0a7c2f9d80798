use Rattle.std.proofs.Common.{rules, arith, subst, sym}
use Rattle.std.proofs.lemmas.Grind.{common_steps}
use Rattle.tc_model.proofs.Trying.{AreTriedTo, tried_more}
use Rattle.tc_model.proofs.models.attempt_all.Goals as goal
use Rattle.tc_model.proofs.models.attempt_all.Goals.{then-is_none, else-is_none}

pub loop-block-preserved : goal.loop-block-preserved
loop-block-preserved c = record {
  next = tt;
  finite = tt;
  left = search rules;
  blocks = grind (arith, common_steps);
  tried =
      subst (λ xs. AreTriedTo 0 xs c.if-is_none.written) (sym c.in_ok-push.ensures.items)
      (tried_more 0 _ _ _ _ c.loop-block.invariant.tried c.in_ok-refusal.ensures
      (elim c.if-is_none.branch [ then-is_none w ↦ grind arith | else-is_none w ↦ grind arith ]));
}
