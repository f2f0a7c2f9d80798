use Rattle.std.{proofs.Common.ap, specs.{IoError.error_kind, Prelude.{map, string_bytes}}}
use Rattle.filskeam.proofs.Answering.{answers}
use Rattle.filskeam.proofs.answer.answer_line.Goals as goal

pub returns : goal.returns
returns c =
    answers (λ v. map string_bytes v.items) error_kind c.args.line.now c.args.input.now _ _ _ _ _ _ c.answer_alone-outcome.result c.words_of-words.result
    c.requires.unwritten c.requires.untold (λ same. ap (λ v. v.items) same) c.words_of-words.ensures.had c.words_of-words.ensures.not_had
    c.answer_alone-outcome.ensures.had c.answer_alone-outcome.ensures.not_had c.answer_alone-outcome.ensures.unwritten
