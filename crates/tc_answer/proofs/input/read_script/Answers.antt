use Rattle.std.proofs.Common.{rules}
use Rattle.tc_answer.proofs.input.read_script.Goals as goal

pub returns-in-Err-Script-clause-refused : goal.returns-in-Err-Script-clause-refused
returns-in-Err-Script-clause-refused c = search rules
