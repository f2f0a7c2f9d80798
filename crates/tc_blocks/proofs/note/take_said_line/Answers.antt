use Rattle.tc_blocks.proofs.NextLines.{no_sentence, said_next, said_none}
use Rattle.tc_blocks.proofs.note.take_said_line.Goals as goal

pub returns-in_default : goal.returns-in_default
returns-in_default c = said_none c.args.behaviours c.args.text.now c.in_default.ensures.only

pub returns-in-Some-2 : goal.returns-in-Some-2
returns-in-Some-2 c =
    let said = c.in-Some.ensures in
    let line = rw c.in-Some-2.is at c.in_ok-line.ensures in
    said_next c.args.behaviours c.args.text.now c.in-Some.run' c.in-Some.refused c.in-Some.bytes.now c.in-Some.rest.now c.in-Some-2.line said.spelled said.few said.less said.only line.0 line.1

pub returns-in-None : goal.returns-in-None
returns-in-None c =
    let said = c.in-Some.ensures in
    no_sentence c.args.behaviours c.args.text.now c.in-Some.run' c.in-Some.refused c.in-Some.bytes.now c.in-Some.rest.now said.only (rw c.in-None.is at c.in_ok-line.ensures)
