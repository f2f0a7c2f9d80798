use Rattle.std.proofs.{Common.{All, subst}, lemmas.List.{Elements.All-more, take_all}}
use Rattle.tc_rules.specs.Prelude.{IsName}
use Rattle.tc_program.proofs.laws.names_fit.Goals as goal

pub loop-name-preserved : goal.loop-name-preserved
loop-name-preserved c =
    All-more IsName c.args.names.now c.loop-name.name-index c.name-item.result c.loop-name-test.true c.loop-name.invariant (subst IsName c.name-item.is c.name_fits.ensures)

pub returns : goal.returns
returns c = subst (All IsName) (take_all c.loop-name.name-index c.args.names.now c.loop-name-test.false) c.loop-name.invariant
