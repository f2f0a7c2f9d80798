-- What other crates cite of these definitions.
pub use Rattle.tc_board.specs.{Answers.{taken, worst_answer}, Board.{new_hand, new_hands, new_keeper}, Hand.{HandView, answered}, Keeper.{IsOpen, carried_by, carried_in}}
