use Rattle.std.proofs.Common.{take}
use Rattle.tc_command.specs.Inside.{GrowsBy, with_named}
use Rattle.tc_command.proofs.command.with_options.Given as goal

abbrev pub invariant-loop-name : goal.invariant-loop-name
invariant-loop-name l = GrowsBy (with_named (take l.name-index l.names)) l.initial.command l.command
