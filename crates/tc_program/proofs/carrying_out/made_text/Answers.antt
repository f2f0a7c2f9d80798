use Rattle.tc_program.proofs.carrying_out.made_text.Goals as goal

pub returns-in-Check : goal.returns-in-Check
returns-in-Check c = rw c.in-Check.is c.check_text.ensures
