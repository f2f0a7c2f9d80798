use Rattle.std.proofs.Common.{◌∷◌}
use Rattle.tc_rules.{specs.Standing.StandsFor, proofs.{Elsewhere.keeps_asking, Lemmas.Keeping.stands_by}}
use Rattle.tc_rules.proofs.state.CaseState.ask.Goals as goal

pub invariant_of-self : goal.invariant_of-self
unfolding StandsFor
invariant_of-self c =
    let past = c.self.invariant.0 in
    let stands = stands_by _ c.args.self.now past c.self.view_is c.self.invariant.1 in (
      c.args.entry.now ∷ past,
      keeps_asking _ c.args.self.now past c.args.entry.now c.take_in_run.new.runs.items c.self.view_is stands
          (c.requires.legal past stands) c.requires.asks c.requires.plain c.take_in_run.ensures.as_many c.take_in_run.ensures.at c.take_in_run.ensures.others,
    )

pub returns-clause-stands : goal.returns-clause-stands
unfolding StandsFor
returns-clause-stands c past stands =
    keeps_asking _ c.args.self.now past c.args.entry.now c.take_in_run.new.runs.items c.self.view_is stands
    (c.requires.legal past stands) c.requires.asks c.requires.plain c.take_in_run.ensures.as_many c.take_in_run.ensures.at c.take_in_run.ensures.others
