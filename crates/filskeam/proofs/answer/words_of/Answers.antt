use Rattle.std.{proofs.Common.{rules, inr}, specs.Prelude.{map, string_bytes}}
use Rattle.filskeam.specs.Engine.{line_words as spec_words}
use Rattle.filskeam.proofs.Answering.{is_text}
use Rattle.filskeam.proofs.answer.words_of.Goals as goal

pub returns-in-Err-clause-not_had : goal.returns-in-Err-clause-not_had
returns-in-Err-clause-not_had c =
    inr (λ each. c.in-Err.ensures.not_had (is_text (map string_bytes c.loop-byte.words.items) (spec_words c.args.line.now) c.loop-byte.word.items
    c.loop-byte.left.now c.in-Some.rest.now c.in-Some.byte.now c.loop-byte.invariant (search rules) (search rules) each))
