use Rattle.std.{proofs.Common.{ap, length, arith}, specs.Arc.arc_value}
use Rattle.tc_book.proofs.Opened.{length_hands, without_first, first_hand}
use Rattle.tc_book.proofs.case.open_with.Goals as goal

pub remove-hand-requires : goal.remove-hand-requires
remove-hand-requires c = omega (arith, ap length c.requires.hands, length_hands (arc_value c.args.board.now) 0 c.args.behaviours, c.requires.some)

pub main_pass-requires-clause-hand : goal.main_pass-requires-clause-hand
main_pass-requires-clause-hand c = first_hand (arc_value c.args.board.now) 0 c.args.behaviours _ _ c.requires.hands (omega (arith, c.requires.some)) c.remove-hand.ensures.value

pub tickets_of-requires-clause-hands : goal.tickets_of-requires-clause-hands
tickets_of-requires-clause-hands c = without_first (arc_value c.args.board.now) 0 c.args.behaviours _ _ c.requires.hands (omega (arith, c.requires.some)) c.remove-hand.ensures.items
