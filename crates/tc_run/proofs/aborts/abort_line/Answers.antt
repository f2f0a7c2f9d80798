use Rattle.std.proofs.Common.{rules}
use Rattle.tc_run.proofs.aborts.abort_line.Goals as goal

pub returns-in_default-clause-answer : goal.returns-in_default-clause-answer
returns-in_default-clause-answer c = search rules
