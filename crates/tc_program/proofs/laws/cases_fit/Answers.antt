use Rattle.std.proofs.{Common.{All, subst}, lemmas.List.{Elements.All-more, take_all}}
use Rattle.tc_program.specs.Inside.{FitsItsTypes}
use Rattle.tc_program.proofs.laws.cases_fit.Goals as goal

pub loop-case-preserved : goal.loop-case-preserved
loop-case-preserved c =
    All-more FitsItsTypes c.args.cases.now c.loop-case.case-index c.case-item.result c.loop-case-test.true c.loop-case.invariant (subst FitsItsTypes c.case-item.is c.case_fits.ensures)

pub returns : goal.returns
returns c = subst (All FitsItsTypes) (take_all c.loop-case.case-index c.args.cases.now c.loop-case-test.false) c.loop-case.invariant
