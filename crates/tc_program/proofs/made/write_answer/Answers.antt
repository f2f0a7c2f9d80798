use Rattle.std.proofs.Common.{rules}
use Rattle.tc_program.proofs.made.write_answer.Goals as goal

pub returns : goal.returns
returns g c = search rules
