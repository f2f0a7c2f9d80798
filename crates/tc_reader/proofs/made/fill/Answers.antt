use Rattle.std.proofs.Common.{rules, tests}
use Rattle.tc_reader.proofs.Making.{all_as_they_were, none_left_over}
use Rattle.tc_reader.proofs.made.fill.Goals as goal

pub returns-then-is_empty-clause-steps : goal.returns-then-is_empty-clause-steps
returns-then-is_empty-clause-steps c = all_as_they_were c.args.heads.now c.args.steps.now c.args.starts.now (search (rules, tests))

pub returns-then-is_empty-clause-left : goal.returns-then-is_empty-clause-left
returns-then-is_empty-clause-left c = none_left_over c.args.steps.now c.args.starts.now (search (rules, tests))
