use Rattle.std.proofs.Common.{rules, ◌≤◌, length, refl}
use Rattle.tc_rules.specs.Prelude.{past_of}
use Rattle.tc_explore.proofs.Closed.{all_held}
use Rattle.tc_explore.proofs.straight.first_call.Goals as goal

pub returns-clause-none : goal.returns-clause-none
returns-clause-none c =
    let whole : length c.args.scripts.now ≤ c.loop-at.at = search rules in
    all_held c.args.scripts.now (past_of c.args.course.now) c.args.from_highest (length c.args.scripts.now) c.loop-at.at refl whole c.loop-at.invariant
