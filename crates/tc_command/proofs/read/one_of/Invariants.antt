use Rattle.std.{proofs.Common.{◌≡◌, false, take}, specs.List.list_any}
use Rattle.clap.specs.{Takes.is_given, Words.{found_of, rows_of}}
use Rattle.tc_command.proofs.read.one_of.Given as goal

abbrev pub invariant-loop-name : goal.invariant-loop-name
invariant-loop-name l = list_any (λ n. is_given n.now (rows_of (found_of l.options))) (take l.name-index l.names) ≡ false
