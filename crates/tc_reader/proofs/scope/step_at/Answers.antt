use Rattle.std.proofs.Common.{rules}
use Rattle.tc_reader.proofs.Making.{start_made}
use Rattle.tc_reader.proofs.scope.step_at.Goals as goal

pub returns-in_ok-places_at-in-Start : goal.returns-in_ok-places_at-in-Start
returns-in_ok-places_at-in-Start c =
    start_made c.args.bound.now c.args.call.now c.in-Start.on c.in-Start.behaviour c.in-Start.args c.in_ok-place_at-in-Start.field-0 c.in_ok-places_at-in-Start.field-0 (search rules) (search rules) (search rules)
