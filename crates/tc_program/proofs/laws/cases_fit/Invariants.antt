use Rattle.std.proofs.Common.{All, take}
use Rattle.tc_program.specs.Inside.{FitsItsTypes}
use Rattle.tc_program.proofs.laws.cases_fit.Given as goal

-- those so far fit
abbrev pub invariant-loop-case : goal.invariant-loop-case
invariant-loop-case l = All FitsItsTypes (take l.case-index l.cases)
