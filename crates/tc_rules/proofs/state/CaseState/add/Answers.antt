use Rattle.std.proofs.Common.{◌∷◌, ◌||◌, Bool, ap}
use Rattle.tc_rules.{specs.Standing.StandsFor, proofs.{Lemmas.Keeping.{keeps_entry, stands_by}, Settled.settled_kept}}
use Rattle.tc_rules.proofs.state.CaseState.add.Goals as goal

pub take_in-requires : goal.take_in-requires
take_in-requires c = record { settled = settled_kept c.self.invariant.1 }

pub invariant_of-self : goal.invariant_of-self
unfolding StandsFor
invariant_of-self c =
    let past = c.self.invariant.0 in
    let stands = stands_by _ c.args.self.now past c.self.view_is c.self.invariant.1 in (
      c.args.entry.now ∷ past,
      keeps_entry _ c.args.self.now past c.args.entry.now c.take_in.new.states c.take_in_runs.new.runs.items c.comp_of-own.result _ c.self.view_is stands
          (c.requires.legal past stands) (c.comp_of-own.ensures.is past stands) c.requires.makes_none
          c.take_in.ensures.as_many c.take_in.ensures.each c.take_in_runs.ensures.as_many c.take_in_runs.ensures.each
          (ap (λ (t : Bool). c.self.inside.over || t) c.ends_case.ensures),
    )

pub returns-clause-stands : goal.returns-clause-stands
unfolding StandsFor
returns-clause-stands c past stands =
    keeps_entry _ c.args.self.now past c.args.entry.now c.take_in.new.states c.take_in_runs.new.runs.items c.comp_of-own.result _ c.self.view_is stands
    (c.requires.legal past stands) (c.comp_of-own.ensures.is past stands) c.requires.makes_none
    c.take_in.ensures.as_many c.take_in.ensures.each c.take_in_runs.ensures.as_many c.take_in_runs.ensures.each
    (ap (λ (t : Bool). c.self.inside.over || t) c.ends_case.ensures)
