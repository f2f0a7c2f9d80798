use Rattle.std.proofs.Common.{append_assoc, rules}
use Rattle.tc_program.proofs.replaying.append_any_reply.Goals as goal

pub returns : goal.returns
returns c = search (rules, append_assoc)
