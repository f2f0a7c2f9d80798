use Rattle.std.proofs.Common.{◌≡◌, ◌<◌, ◌+◌, ◌-◌, [], replicate, slice_set, sym, ap, ◌∙◌, arith, subst}
use Rattle.atomic_table.specs.Seated.{TableId}
use Rattle.tc_entry.specs.Prelude.{UserVerdict}
use Rattle.tc_board.{specs.{declared.record.Record.TheVariants.{Open, Unbegun}, Inside.Seats.{first_lists, keeper_view}}, proofs.NewBoard.{new_holds, splits_at, keeper_left, hand_made, hand_shape, keeper_shape, hands_added}}
use Rattle.tc_board.proofs.board.Board.new.Goals as goal

pub of_words-requires : goal.of_words-requires
of_words-requires c =
    let unbegun = c.in_ok-words.ensures.items_if_clones_equal (λ y h. h) in
    new_holds c.args.n c.from.result c.as_slice.result.now (omega arith) (c.as_slice.ensures.value ∙ (λ i. slice_set (unbegun i) 0 (c.rank.ensures i))) c.from.ensures

pub split_seat-split-requires : goal.split_seat-split-requires
split_seat-split-requires c =
    let words = c.loop-run.invariant.3 in
    (c.loop-run.invariant.0, omega arith, splits_at _ _ (c.args.n - c.loop-run.run) _ _ (ap (λ m. m.0) c.loop-run.invariant.1) (omega arith))

pub invariant_of-push : goal.invariant_of-push
invariant_of-push c =
    let words = c.loop-run.invariant.3 in
    let at : c.split_seat-split.result.table_id ≡ c.in_ok-table.table.shared.table_id = c.split_seat-split.ensures.3 ∙ c.loop-run.invariant.0 in
    let less : c.loop-run.run < c.in_ok-table.table.shared.table_id.words = omega arith in
    (hand_shape _ _ _ (hand_made c.loop-run.run (c.args.n - c.loop-run.run) _ _ _ c.loop-run.invariant.1 (omega arith) c.split_seat-split.ensures.4), subst (λ (z : TableId). c.loop-run.run < z.words) (sym at) less)

pub loop-run-preserved : goal.loop-run-preserved
loop-run-preserved c =
    let fewer : (c.args.n - c.loop-run.run) - 1 ≡ c.args.n - (c.loop-run.run + 1) = omega arith in
    let hand = hand_made c.loop-run.run (c.args.n - c.loop-run.run) _ _ _ c.loop-run.invariant.1 (omega arith) c.split_seat-split.ensures.4 in (
      c.split_seat-split.ensures.0 ∙ c.loop-run.invariant.0,
      keeper_left c.loop-run.run (c.args.n - c.loop-run.run) _ _ _ c.loop-run.invariant.1 (omega arith) c.split_seat-split.ensures.2 ∙ (λ i. (keeper_view (slice_set (replicate c.args.n Unbegun) 0 (Open UserVerdict.None)) (first_lists (c.loop-run.run + 1) (fewer i)), [])),
      hands_added _ _ c.loop-run.run _ _ _ (c.split_seat-split.ensures.3 ∙ c.loop-run.invariant.0) c.loop-run.invariant.2 hand c.in_ok-push.ensures.items,
      c.loop-run.invariant.3,
    )

pub invariant_of-result : goal.invariant_of-result
invariant_of-result c = keeper_shape _ _ _ _ c.loop-run.invariant.1 (ap (λ (z : TableId). z.words) c.loop-run.invariant.0 ∙ c.loop-run.invariant.3)
