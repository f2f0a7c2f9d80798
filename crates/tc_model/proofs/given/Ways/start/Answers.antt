use Rattle.std.proofs.Common.{◌≡◌, None, arith}
use Rattle.std.proofs.lemmas.Grind.{common_steps}
use Rattle.tc_rules.specs.Prelude.{start}
use Rattle.tc_model.proofs.Starting.{starts_nothing}
use Rattle.tc_model.proofs.given.Ways.start.Goals as goal

pub returns-in_default : goal.returns-in_default
returns-in_default c =
    let none : start c.args.entry.now.op ≡ None = starts_nothing c.args.entry.now.op c.in_default.not-Start in
    grind (arith, common_steps)
