use Rattle.tc_serve.proofs.Orders.{long_lines_are_refused}
use Rattle.tc_serve.proofs.laws.long_lines_are_refused.Goals as goal

pub returns : goal.returns
returns c = long_lines_are_refused
