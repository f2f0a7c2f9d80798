use Rattle.std.proofs.Common.{◌≡◌}
use Rattle.tc_blocks.proofs.Unfinished.{IsReadSoFar}
use Rattle.tc_blocks.proofs.source.read_evidence_from.Given as goal

abbrev pub invariant-loop-pending : goal.invariant-loop-pending
invariant-loop-pending g l =
    IsReadSoFar g.H.TakesEvidence.stands g.H.TakesEvidence.opens (g.R.Read.remaining l.fn.reader) (g.R.Read.remaining l.reader) l.extent l.pending.reading l.pending.unfinished.items
    × (l.extent.limit ≡ l.fn.limit)

abbrev pub decreases-loop-pending : goal.decreases-loop-pending
decreases-loop-pending g l = l.extent.left
