use Rattle.std.proofs.Common.{rules}
use Rattle.tc_exec.proofs.Lemmas.Calls.{has_left}
use Rattle.tc_exec.proofs.handed.act.Goals as goal

pub returns : goal.returns
returns g c = search (rules, has_left)
