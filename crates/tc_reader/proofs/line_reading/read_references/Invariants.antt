use Rattle.std.proofs.Common.{◌≡◌, map, drop}
use Rattle.tc_reader.{specs.Line.{reference, each}, proofs.Lawful.with_front}
use Rattle.tc_reader.proofs.line_reading.read_references.Given as goal

abbrev pub invariant-loop-word : goal.invariant-loop-word
invariant-loop-word l = with_front l.references.items (each reference (map (λ w. w.now) (drop l.word-index l.words))) ≡ each reference (map (λ w. w.now) l.words)
