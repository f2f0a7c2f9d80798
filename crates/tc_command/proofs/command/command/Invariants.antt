use Rattle.std.proofs.Common.{◌≡◌, take}
use Rattle.clap.specs.Words.{app_of}
use Rattle.tc_command.proofs.Growing.{with_each}
use Rattle.tc_command.proofs.command.command.Given as goal

abbrev pub invariant-loop-subcommand : goal.invariant-loop-subcommand
invariant-loop-subcommand l = app_of l.program ≡ with_each (take l.subcommand-index l.subcommand-items)
