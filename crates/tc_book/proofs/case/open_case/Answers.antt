use Rattle.std.proofs.Common.{rules, ◌∙◌, ap}
use Rattle.tc_board.specs.Prelude.{new_hands}
use Rattle.tc_book.proofs.case.open_case.Goals as goal

pub open_with-opened-requires-clause-hands : goal.open_with-opened-requires-clause-hands
open_with-opened-requires-clause-hands c = c.in_ok-board.ensures.hands ∙ ap (λ b. new_hands b 0 c.args.behaviours) (search rules)
