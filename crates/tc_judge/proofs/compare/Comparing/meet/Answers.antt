use Rattle.std.proofs.Common.{rules}
use Rattle.tc_judge.proofs.Beside.{beside_more}
use Rattle.tc_judge.proofs.compare.Comparing.meet.Goals as goal
use Rattle.tc_judge.proofs.compare.Comparing.meet.Goals.{in-Some, in_default}

pub returns-clause-meets : goal.returns-clause-meets
returns-clause-meets c =
    elim c.match-place_among.branch [
      | in-Some w ↦ beside_more c.args.self.now _ c.args.name.now (search rules) (search rules) (search rules) (search rules)
      | in_default w ↦ beside_more c.args.self.now _ c.args.name.now (search rules) (search rules) (search rules) (search rules)
    ]
