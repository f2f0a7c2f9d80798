use Rattle.std.proofs.Common.{◌≡◌, drop}
use Rattle.tc_reader.specs.Inside.{first_wrong}
use Rattle.tc_reader.proofs.made.first_wrong.Given as goal

abbrev pub invariant-loop-start : goal.invariant-loop-start
invariant-loop-start l = first_wrong l.heads (drop l.start-index l.starts) ≡ first_wrong l.heads l.starts
