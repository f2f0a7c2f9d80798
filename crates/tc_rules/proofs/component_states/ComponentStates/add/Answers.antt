use Rattle.std.proofs.Common.{◌<◌, length, is_ok}
use Rattle.tc_entry.specs.declared.limits.TheConstants.{COMPONENTS}
use Rattle.tc_rules.proofs.Counting.{counted_either}
use Rattle.tc_rules.proofs.component_states.ComponentStates.add.Goals as goal

pub invariant_of-self : goal.invariant_of-self
invariant_of-self c =
    let few : length c.self.inside.states.items < COMPONENTS = rw c.self.view_is c.requires in
    counted_either c.args.alive_type (is_ok c.push.result) c.push.new.self.items c.self.invariant few c.push.ensures.items
