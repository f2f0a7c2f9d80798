use Rattle.std.proofs.Common.{rules}
use Rattle.tc_exec.proofs.case.behaviours_of.Goals as goal

pub returns-then-jobs-from-clause-many : goal.returns-then-jobs-from-clause-many
returns-then-jobs-from-clause-many c = search rules

pub returns-then-jobs-from-clause-threads : goal.returns-then-jobs-from-clause-threads
returns-then-jobs-from-clause-threads c = search rules

pub returns-clause-many : goal.returns-clause-many
returns-clause-many c = search rules
