use Rattle.std.proofs.{Common.{◌≡◌, ◌++◌, ◌∷◌, [], arith}, lemmas.Grind.common_steps}
use Rattle.tc_rules.{specs.{Inside.Words.is_alive_create, Inside.Counts.made_state, Standing.StandsFor}, proofs.{Lemmas.Keeping.stands_by, Making.makes_entry}}
use Rattle.tc_rules.proofs.state.CaseState.make.Goals as goal

pub invariant_of-self-2 : goal.invariant_of-self-2
unfolding StandsFor
invariant_of-self-2 c =
    let past = c.self.invariant.0 in
    let stands = stands_by _ c.args.self.now past c.self.view_is c.self.invariant.1 in
    let grown : c.add.new.self ≡ c.self.inside.states ++ made_state (is_alive_create c.args.entry.now.op) ∷ [] = grind (arith, common_steps) in (
      c.args.entry.now ∷ past,
      makes_entry _ c.args.self.now past c.args.entry.now c.args.comp c.add.new.self c.take_in_runs.new.runs.items c.self.view_is stands
          (c.requires.legal past stands) c.requires.makes grown c.take_in_runs.ensures.as_many c.take_in_runs.ensures.each,
    )

pub returns-clause-stands : goal.returns-clause-stands
unfolding StandsFor
returns-clause-stands c past stands =
    let grown : c.add.new.self ≡ c.self.inside.states ++ made_state (is_alive_create c.args.entry.now.op) ∷ [] = grind (arith, common_steps) in
    makes_entry _ c.args.self.now past c.args.entry.now c.args.comp c.add.new.self c.take_in_runs.new.runs.items c.self.view_is stands
    (c.requires.legal past stands) c.requires.makes grown c.take_in_runs.ensures.as_many c.take_in_runs.ensures.each
