use Rattle.std.{specs.Prelude.{slice_get, Some}, proofs.Common.{◌≡◌, ◌<◌, ℕ, List, [], ◌++◌, sym, ap, subst, ◌∙◌, arith}}
use Rattle.atomic_table.specs.Seated.{TableId}
use Rattle.tc_board.{specs.{Hand.HandView, Inside.Seats.{keeper_view, taken_back}, Inside.Steps.Seated, Keeper.KeeperView, Rule.AnswersAgree, declared.answer.Answer.Answer, declared.record.Record.Record}, proofs.KeeperSteps.{takes_back_at, looks_at, seen_agrees}}
use Rattle.tc_board.proofs.keeper.Keeper.gather.Goals as goal

pub join_seat-requires : goal.join_seat-requires
join_seat-requires c =
    let at = ap (λ (h : HandView). h.board) c.hand.view_is ∙ c.requires.hand ∙ sym c.board.view_is in
    let less : c.hand.inside.run.0 < c.board.inside.table.shared.table_id.words = subst (λ (z : TableId). c.hand.inside.run.0 < z.words) at c.hand.invariant.1 in (
      ap (λ (k : KeeperView). k.board) c.self.view_is ∙ c.requires.board ∙ sym c.board.view_is,
      at,
      ap (λ (m : Seated). m.1) c.hand.invariant.0,
      omega arith,
      takes_back_at _ _ _ _ _ _ _ _ (ap (λ (m : Seated). m.0) c.self.invariant.0) (ap (λ (m : Seated). m.0) c.hand.invariant.0),
    )

pub load-requires : goal.load-requires
load-requires c =
    let at = ap (λ (h : HandView). h.board) c.hand.view_is ∙ c.requires.hand ∙ sym c.board.view_is in (
      c.join_seat.ensures.0 ∙ (ap (λ (k : KeeperView). k.board) c.self.view_is ∙ c.requires.board ∙ sym c.board.view_is),
      subst (λ (z : TableId). c.hand.inside.run.0 < z.words) at c.hand.invariant.1,
      looks_at _ _ _ _ _ _ (c.join_seat.ensures.2 ∙ ap (λ (m : Seated). (taken_back m.0 c.hand.inside.seat.me.0, m.1)) c.self.invariant.0),
    )

pub returns-clause-agrees : goal.returns-clause-agrees
returns-clause-agrees c =
    let is = c.join_seat.ensures.2 ∙ ap (λ (m : Seated). (taken_back m.0 c.hand.inside.seat.me.0, m.1)) c.self.invariant.0
    ∙ ap (λ (m : Seated). (keeper_view c.self.inside.seat.me.0.records (c.self.inside.seat.me.0.lists ++ m.0.lists), [])) c.hand.invariant.0 in
    subst (λ (z : List Record × ℕ × List Answer). (r : Record) × (slice_get z.0 z.1 ≡ Some r) × AnswersAgree r z.2) (λ i. ((c.self.view_is i).records, (c.hand.view_is i).run, (c.hand.view_is i).answers))
    (seen_agrees c.board.inside.table.shared.table_id.slots c.hand.inside.run.0 c.load.result _ _ _ _ _ is c.load.ensures.2)
