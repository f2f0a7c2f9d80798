use Rattle.std.proofs.Common.{All, take}
use Rattle.tc_rules.specs.Prelude.{IsName}
use Rattle.tc_program.proofs.laws.names_fit.Given as goal

-- those so far are names
abbrev pub invariant-loop-name : goal.invariant-loop-name
invariant-loop-name l = All IsName (take l.name-index l.names)
