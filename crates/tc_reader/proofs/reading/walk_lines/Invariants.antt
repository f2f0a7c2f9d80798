use Rattle.std.proofs.Common.{[], length}
use Rattle.tc_reader.{specs.{FirstPass.parsed, Text.lines}, proofs.WalkedText.IsRead}
use Rattle.tc_reader.proofs.reading.walk_lines.Given as goal

abbrev pub invariant-loop-bytes : goal.invariant-loop-bytes
invariant-loop-bytes l = IsRead l.walk l.counts l.line l.rest (parsed [] (lines l.text))

abbrev pub decreases-loop-bytes : goal.decreases-loop-bytes
decreases-loop-bytes l = length l.rest
