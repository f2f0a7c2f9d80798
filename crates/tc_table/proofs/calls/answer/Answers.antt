use Rattle.std.proofs.Common.{rules}
use Rattle.tc_table.proofs.calls.answer.Goals as goal

pub returns-in-Some : goal.returns-in-Some
returns-in-Some c = c.answer_move.ensures c.args.text.now (search rules)

pub returns-in-Some-read_move : goal.returns-in-Some-read_move
returns-in-Some-read_move c = c.answer_move-in-Some-read_move.ensures c.args.text.now (search rules)
