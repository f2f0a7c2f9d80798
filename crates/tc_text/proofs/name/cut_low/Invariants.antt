use Rattle.std.proofs.Common.{take}
use Rattle.tc_text.specs.Inside.{NoLow}
use Rattle.tc_text.proofs.name.cut_low.Given as goal

abbrev pub invariant-loop-place : goal.invariant-loop-place
invariant-loop-place l = NoLow (take l.place l.text)
