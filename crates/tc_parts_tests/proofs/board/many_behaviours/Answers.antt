use Rattle.tc_board.specs.Prelude.{new_hand}
use Rattle.tc_parts_tests.proofs.Hands.{last_hand}
use Rattle.tc_parts_tests.proofs.board.many_behaviours.Goals as goal

pub is_carried-requires-clause-hand : goal.is_carried-requires-clause-hand
is_carried-requires-clause-hand c c' = last_hand (new_hand c'.in_ok-board.board 0) 256 _ _ _ c'.in_ok-board.ensures.hands c'.in-Some.ensures.items
