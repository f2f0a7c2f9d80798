use Rattle.std.proofs.Common.{◌≡◌, length}
use Rattle.tc_reader.specs.Names.{has_twice}
use Rattle.tc_reader.proofs.scope.any_twice.Given as goal

abbrev pub invariant-loop-name : goal.invariant-loop-name
invariant-loop-name l = has_twice l.rest ≡ has_twice l.names

abbrev pub decreases-loop-name : goal.decreases-loop-name
decreases-loop-name l = length l.rest
