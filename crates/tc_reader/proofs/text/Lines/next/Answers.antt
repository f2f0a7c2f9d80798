use Rattle.std.proofs.Common.{rules, tests}
use Rattle.tc_reader.{specs.Text.lines, proofs.Taking.first_cut}
use Rattle.tc_reader.proofs.text.Lines.next.Goals as goal

pub returns-then-is_empty : goal.returns-then-is_empty
unfolding lines
returns-then-is_empty c = (search (rules, tests), search (rules, tests))

pub returns-in-Some : goal.returns-in-Some
returns-in-Some c = rw (← c.self.view_is) (first_cut c.self.inside.text.now c.in-Some.at (search rules))
