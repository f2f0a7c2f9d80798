use Rattle.std.proofs.Common.{rules}
use Rattle.tc_exec.proofs.case.run_case.Goals as goal

pub returns-clause-threads : goal.returns-clause-threads
returns-clause-threads g c = search rules
