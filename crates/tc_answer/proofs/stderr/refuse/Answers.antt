use Rattle.tc_answer.proofs.stderr.refuse.Goals as goal

pub returns : goal.returns
returns g c = c.refuse_with.ensures _ c.line_of.ensures
