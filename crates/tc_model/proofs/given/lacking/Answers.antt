use Rattle.std.proofs.Common.{◌≡◌, append-nil, sym, true}
use Rattle.tc_rules.specs.Prelude.{past_of}
use Rattle.tc_model.specs.Naming.{can_name}
use Rattle.tc_model.proofs.Lacking.{lacking_none}
use Rattle.tc_model.proofs.given.lacking.Goals as goal

pub returns : goal.returns
returns c =
    let past = past_of c.args.course.now in
    let can : can_name past c.loop-comp.run.0 c.args.comp.0 ≡ true = sym c.loop-comp-test.ensures in
    rw (lacking_none past c.loop-comp.run.0 c.args.comp.0 can, append-nil) at c.loop-comp.invariant.rest
