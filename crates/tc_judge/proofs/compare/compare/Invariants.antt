use Rattle.tc_judge.{specs.Inside.IsWhole, proofs.Beside.ComparedTo}
use Rattle.tc_judge.proofs.compare.compare.Given as goal

abbrev pub invariant-loop-block : goal.invariant-loop-block
invariant-loop-block l = IsWhole l.comparing × ComparedTo l.fn.ready.items l.blocks l.block-index l.comparing l.notes.items
