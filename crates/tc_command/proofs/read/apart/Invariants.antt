use Rattle.std.{proofs.Common.{◌≡◌, false, take}, specs.{Prelude.◌&&◌, List.list_any}}
use Rattle.clap.specs.{Takes.is_given, Words.{found_of, rows_of}}
use Rattle.tc_command.proofs.read.apart.Given as goal

-- of no row so far is it so
abbrev pub invariant-loop-first : goal.invariant-loop-first
invariant-loop-first l =
    list_any (λ p. is_given p.0.now (rows_of (found_of l.options)) && list_any (λ o. is_given o.now (rows_of (found_of l.options))) p.1.now) (take l.first-index l.rows) ≡ false
