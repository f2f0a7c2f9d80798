use Rattle.std.proofs.Common.{sym}
use Rattle.tc_reader.proofs.Skipping.{end_line}
use Rattle.tc_reader.proofs.line_reading.read_line.Goals as goal

pub returns-then-is_word : goal.returns-then-is_word
returns-then-is_word c = end_line c.args.line.now (sym c.if-is_word.ensures)
