use Rattle.std.proofs.Common.{refl, rules}
use Rattle.tc_rules.{specs.Standing.StandsFor, proofs.Lemmas.Over.{on_over, over_rules}}
use Rattle.tc_rules.proofs.state.CaseState.is_over.Goals as goal

pub returns-clause-after : goal.returns-clause-after
returns-clause-after c past stands = on_over c.self.inside.over _ c.args.self.now past c.self.view_is refl stands

pub returns-clause-is : goal.returns-clause-is
unfolding StandsFor
returns-clause-is c = search (rules, over_rules)
