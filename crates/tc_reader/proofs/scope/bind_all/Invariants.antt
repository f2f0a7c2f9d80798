use Rattle.std.proofs.Common.{◌≡◌, [], drop}
use Rattle.tc_reader.specs.Names.{all_of}
use Rattle.tc_reader.proofs.scope.bind_all.Given as goal

abbrev pub invariant-loop-parameter : goal.invariant-loop-parameter
invariant-loop-parameter l = all_of l.names (drop l.parameter-index l.parameters) ≡ all_of [] l.parameters
