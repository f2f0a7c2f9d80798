use Rattle.std.proofs.{Common.arith, lemmas.Grind.common_steps}
use Rattle.tc_rules.{specs.declared.run_state.RunState.RunState, proofs.Lemmas.Kept.awaited_below}
use Rattle.tc_rules.proofs.state.CaseState.goes_on.Goals as goal

pub holds-requires : goal.holds-requires
holds-requires c = grind (arith, common_steps, c.in-Some-Some.ensures, c.in-Some-Some.awaited-is, c.self.view_is, λ (d : RunState). awaited_below c.args.run.0 d c.in-Some-Some.awaited c.self.invariant.1)
