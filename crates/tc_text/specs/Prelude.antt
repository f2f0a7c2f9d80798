-- What other crates cite of these definitions.
pub use Rattle.tc_text.specs.{MoveList.{CanContinue, IsFaultAfter, IsListFault, IsMoveList, IsTextFault, Move, fault_text, lines_of}, Reading.{EndsLine, EndsMove, EndsNumber, Takes, op_of}, Said.{Line, is_plain, shown_line}, Inside.{AreComps, IsMadeOfMoves, args_text, start_text}, Spelling.{IsComp, IsGroup, IsLong, IsOp, IsReply, IsTarget, group_text, move_text, op_text, reply_text, target_text}}
-- A proof may open these.
unfoldable pub use Rattle.tc_text.specs.Said.{TellsAmong, TellsLine}
