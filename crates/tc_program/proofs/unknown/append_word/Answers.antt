use Rattle.tc_text.proofs.Lemmas.{Among.among_any, Saying.on_ok}
use Rattle.tc_program.proofs.unknown.append_word.Goals as goal

pub returns : goal.returns
returns c = on_ok c.append_unknown.result (λ told. among_any _ _ _ told) c.append_unknown.ensures
