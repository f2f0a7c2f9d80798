use Rattle.std.proofs.Common.{◌≡◌, map, drop}
use Rattle.tc_reader.{specs.Line.{word_name, each}, proofs.Lawful.with_front}
use Rattle.tc_reader.proofs.line_reading.read_names.Given as goal

abbrev pub invariant-loop-word : goal.invariant-loop-word
invariant-loop-word l = with_front l.names.items (each word_name (map (λ w. w.now) (drop l.word-index l.words))) ≡ each word_name (map (λ w. w.now) l.words)
