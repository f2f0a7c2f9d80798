use Rattle.std.proofs.Common.{◌≡◌, ◌<◌, IfSome, take, reverse}
use Rattle.tc_rules.specs.Deciding.{deciding, worst_given}
use Rattle.tc_rules.proofs.deciding.deciding_entry.Given as goal

abbrev pub invariant-loop-at : goal.invariant-loop-at
invariant-loop-at l = record {
  worst_is : l.worst ≡ worst_given (reverse (take l.at l.history));
  place_is : l.deciding ≡ deciding (reverse (take l.at l.history));
  within : IfSome l.deciding (λ at. at < l.at);
}
