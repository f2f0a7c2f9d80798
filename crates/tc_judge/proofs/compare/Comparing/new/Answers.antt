use Rattle.std.proofs.Common.{rules, refl}
use Rattle.tc_judge.proofs.Beside.{beside_none}
use Rattle.tc_judge.proofs.compare.Comparing.new.Goals as goal

pub returns-clause-beside : goal.returns-clause-beside
returns-clause-beside c cases each = beside_none _ cases (search rules) each (search rules) refl
