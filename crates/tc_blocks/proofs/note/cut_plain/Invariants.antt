use Rattle.std.proofs.Common.{take}
use Rattle.tc_blocks.specs.Inside.{ArePlain}
use Rattle.tc_blocks.proofs.note.cut_plain.Given as goal

abbrev pub invariant-loop-place : goal.invariant-loop-place
invariant-loop-place l = ArePlain (take l.place l.text)
