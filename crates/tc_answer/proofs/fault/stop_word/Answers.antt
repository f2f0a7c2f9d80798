use Rattle.std.proofs.Common.{rules}
use Rattle.tc_answer.proofs.fault.stop_word.Goals as goal

pub returns-in-None-clause-taken : goal.returns-in-None-clause-taken
returns-in-None-clause-taken c = search rules
