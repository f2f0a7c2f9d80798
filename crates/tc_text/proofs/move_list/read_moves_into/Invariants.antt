use Rattle.std.proofs.Common.{◌≤◌, ◌+◌, length}
use Rattle.tc_text.proofs.SoFar.{IsMadeSoFar}
use Rattle.tc_text.proofs.move_list.read_moves_into.Given as goal

-- each line read has a byte at least, so the number of the next one fits
abbrev pub invariant-loop-rest : goal.invariant-loop-rest
invariant-loop-rest g l = IsMadeSoFar g.T.TakesMoves.stands l.text l.behaviours l.line l.rest l.made × (l.line + length l.rest ≤ length l.initial.rest + 2)

abbrev pub decreases-loop-rest : goal.decreases-loop-rest
decreases-loop-rest g l = length l.rest
