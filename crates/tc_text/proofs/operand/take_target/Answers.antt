use Rattle.tc_text.proofs.Operands.{target_only}
use Rattle.tc_text.proofs.operand.take_target.Goals as goal

pub returns-in-Some-clause-only : goal.returns-in-Some-clause-only
returns-in-Some-clause-only c t rest fits ends e =
    let is = c.in-Some.ensures in
    target_only c.in-Some.number c.args.text.now c.in-Some.rest.now t rest is.fits is.spelled is.only fits ends e
