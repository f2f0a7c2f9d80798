use Rattle.std.proofs.Common.{length}
use Rattle.tc_blocks.{specs.Inside.IsKnown, proofs.PartByPart.IsGoneOn}
use Rattle.tc_blocks.proofs.parts.take_part.Given as goal

abbrev pub invariant-loop-rest : goal.invariant-loop-rest
invariant-loop-rest g l = IsGoneOn g.H.TakesEvidence.stands g.H.TakesEvidence.opens l.fn.reading l.text l.reading l.rest × IsKnown l.reading.block

abbrev pub decreases-loop-rest : goal.decreases-loop-rest
decreases-loop-rest g l = length l.rest
