use Rattle.std.proofs.Common.{◌≡◌, ◌∙◌, refl}
use Rattle.tc_model.proofs.Starting.{given_only}
use Rattle.tc_model.proofs.given.give_only.Goals as goal

pub returns-clause-each : goal.returns-clause-each
returns-clause-each c =
    let items : c.extend_from_slice.new.self.items ≡ c.args.comps.now = c.in_ok-extend_from_slice.ensures.items ∙ rw c.clear.ensures.items refl in
    rw c.from.ensures (given_only c.args.run.0 c.args.comps.now c.args.given.now c.extend_from_slice.new.self c.requires items)
