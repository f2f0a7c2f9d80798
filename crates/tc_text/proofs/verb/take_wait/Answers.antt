use Rattle.tc_text.proofs.Operands.{no_wait}
use Rattle.tc_text.proofs.verb.take_wait.Goals as goal

pub returns-in_default-take_words-3-clause-only : goal.returns-in_default-take_words-3-clause-only
returns-in_default-take_words-3-clause-only c s rest is e =
    no_wait s c.args.text.now rest c.in_default.ensures c.in_default-take_words.ensures c.in_default-take_words-2.ensures c.in_default-take_words-3.ensures is e
