use Rattle.tc_text.proofs.Operands.{group_only}
use Rattle.tc_text.proofs.operand.take_group.Goals as goal

pub returns-in-Some-clause-only : goal.returns-in-Some-clause-only
returns-in-Some-clause-only c g rest fits ends e =
    let is = c.in-Some.ensures in
    group_only c.in-Some.number c.args.text.now c.in-Some.rest.now g rest is.fits is.spelled is.only fits ends e
