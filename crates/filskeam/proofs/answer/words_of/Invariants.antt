use Rattle.std.{proofs.Common.{◌≡◌, ◌++◌, length}, specs.Prelude.{map, string_bytes}}
use Rattle.filskeam.specs.Engine.{words_from, line_words as spec_words}
use Rattle.filskeam.proofs.answer.words_of.Given as goal

-- the words so far, and those of what is left after the bytes of the next one, are the words of the line
abbrev pub invariant-loop-byte : goal.invariant-loop-byte
invariant-loop-byte l = map string_bytes l.words.items ++ words_from l.word.items l.left ≡ spec_words l.line

abbrev pub decreases-loop-byte : goal.decreases-loop-byte
decreases-loop-byte l = length l.left
