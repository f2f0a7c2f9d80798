use Rattle.std.proofs.Common.{◌≡◌, ◌-◌, [], replicate, slice_set}
use Rattle.tc_entry.specs.Prelude.{UserVerdict}
use Rattle.tc_board.specs.{declared.record.Record.TheVariants.{Open, Unbegun}, Board.new_hands, Inside.Seats.first_lists, Inside.Seats.keeper_view}
use Rattle.tc_board.proofs.board.Board.new.Given as goal

abbrev pub invariant-loop-run : goal.invariant-loop-run
invariant-loop-run l =
    (l.seat.table_id ≡ l.table.shared.table_id)
    × (l.seat.me ≡ (keeper_view (slice_set (replicate l.n Unbegun) 0 (Open UserVerdict.None)) (first_lists l.run (l.n - l.run)), []))
    × (l.hands.items ≡ new_hands l.table.shared.table_id 0 l.run)
    × (l.table.shared.table_id.words ≡ l.n)
