use Rattle.std.proofs.Common.{rules}
use Rattle.tc_program.proofs.serve.settle.Goals as goal

pub returns-in-Err : goal.returns-in-Err
returns-in-Err g c = let printed = c.refuse_with.ensures _ c.service_line.ensures in search rules
