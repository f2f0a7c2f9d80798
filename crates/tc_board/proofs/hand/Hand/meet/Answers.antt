use Rattle.std.proofs.Common.{rules, ◌<◌, sym, ap, subst, ◌∙◌}
use Rattle.atomic_table.specs.Seated.{TableId}
use Rattle.tc_board.{specs.Hand.HandView, proofs.HandSteps.meets_at}
use Rattle.tc_board.proofs.hand.Hand.meet.Goals as goal

pub load-requires : goal.load-requires
load-requires c =
    let at = ap (λ (h : HandView). h.board) c.self.view_is ∙ c.requires ∙ sym c.board.view_is in
    (at, subst (λ (z : TableId). c.self.inside.run.0 < z.words) at c.self.invariant.1, meets_at _ _ _ _ _ c.self.invariant.0)

pub returns-clause-answer : goal.returns-clause-answer
returns-clause-answer c = search rules
