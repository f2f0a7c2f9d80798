use Rattle.std.{proofs.Common.{rules, ◌-◌, ap, length, arith}, specs.Arc.arc_value}
use Rattle.tc_book.proofs.Opened.{length_hands, later_hand, without_next}
use Rattle.tc_book.proofs.case.tickets_of.Goals as goal

pub remove-hand-requires : goal.remove-hand-requires
remove-hand-requires c = omega (arith, ap length c.loop-k.invariant.2, length_hands (arc_value c.args.board.now) c.loop-k.k (c.args.behaviours - c.loop-k.k), c.loop-k-test.true, c.loop-k.auto.k-end)

pub ticket_of-requires-clause-hand : goal.ticket_of-requires-clause-hand
ticket_of-requires-clause-hand c =
    later_hand (arc_value c.args.board.now) c.loop-k.k (c.args.behaviours - c.loop-k.k) c.loop-k.hands.items _ (omega (arith, c.loop-k.invariant.0)) c.loop-k.invariant.2 (omega (arith, c.loop-k-test.true)) c.remove-hand.ensures.value

pub loop-k-preserved : goal.loop-k-preserved
loop-k-preserved c = (
  search rules,
  search rules,
  without_next (arc_value c.args.board.now) c.loop-k.k c.args.behaviours c.loop-k.hands.items _ c.loop-k.invariant.2 c.loop-k-test.true c.remove-hand.ensures.items,
)
