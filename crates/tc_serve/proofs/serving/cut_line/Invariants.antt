use Rattle.std.proofs.Common.{take}
use Rattle.tc_serve.specs.Protocol.{NoLf}
use Rattle.tc_serve.proofs.serving.cut_line.Given as goal

abbrev pub invariant-loop-place : goal.invariant-loop-place
invariant-loop-place l = NoLf (take l.place l.bytes)
