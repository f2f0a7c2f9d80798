use Rattle.std.proofs.Common.{length}
use Rattle.tc_blocks.{specs.Inside.AreAlike, proofs.InsideLines.IsOnTo}
use Rattle.tc_blocks.proofs.read.take_lines.Given as goal

abbrev pub invariant-loop-rest : goal.invariant-loop-rest
invariant-loop-rest g l =
    AreAlike l.fn.block l.block
    × IsOnTo g.H.TakesEvidence.opens l.fn.block.kind l.fn.block.behaviours l.text l.first_line l.fn.block.met l.fn.block.begun l.rest l.line l.block.met l.block.begun

abbrev pub decreases-loop-rest : goal.decreases-loop-rest
decreases-loop-rest g l = length l.rest
