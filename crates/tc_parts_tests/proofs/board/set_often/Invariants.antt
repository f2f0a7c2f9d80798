use Rattle.std.proofs.Common.{◌≡◌, ◌≢◌, []}
use Rattle.tc_parts_tests.proofs.board.set_often.Given as goal

abbrev pub invariant-loop : goal.invariant-loop
invariant-loop l = (l.hand.board ≡ l.board) × (l.hand.answers ≢ [])
