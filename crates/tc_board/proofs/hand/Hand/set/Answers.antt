use Rattle.std.proofs.Common.{rules, ◌≢◌, ◌<◌, List, [], sym, ap, subst, ◌∙◌}
use Rattle.atomic_table.specs.Seated.{TableId}
use Rattle.tc_board.{specs.{Hand.HandView, declared.answer.Answer.Answer}, proofs.HandSteps.sets_at}
use Rattle.tc_board.proofs.hand.Hand.set.Goals as goal

pub fetch_max-found-requires : goal.fetch_max-found-requires
fetch_max-found-requires c =
    let at = ap (λ (h : HandView). h.board) c.self.view_is ∙ c.requires.board ∙ sym c.board.view_is in
    let met = subst (λ (l : List Answer). l ≢ []) (ap (λ (h : HandView). h.answers) (sym c.self.view_is)) c.requires.met in
    (at, subst (λ (z : TableId). c.self.inside.run.0 < z.words) at c.self.invariant.1, sets_at _ _ _ _ _ _ c.args.verdict c.self.invariant.0 c.rank.ensures met)

pub returns : goal.returns
returns c = search rules
