use Rattle.std.{specs.Prelude.slice_get, proofs.Common.{◌<◌, ℕ, sym, ap, subst, ◌∙◌}}
use Rattle.atomic_table.specs.Seated.{TableId}
use Rattle.tc_board.{specs.Keeper.KeeperView, proofs.{KeeperSteps.opens_at, Lookup.{at_length, got_elem}}}
use Rattle.tc_board.proofs.keeper.Keeper.begin.Goals as goal

pub store-requires : goal.store-requires
store-requires c =
    let at = ap (λ (k : KeeperView). k.board) c.self.view_is ∙ c.requires.board ∙ sym c.board.view_is in
    let here = got_elem c.self.inside.seat.me.0.records c.args.run.0 _ (ap (λ (k : KeeperView). slice_get k.records c.args.run.0) c.self.view_is ∙ c.requires.unbegun) in (
      at,
      subst (λ (n : ℕ). c.args.run.0 < n) (c.self.invariant.1 ∙ ap (λ (z : TableId). z.words) at) (at_length _ _ _ here),
      opens_at _ _ _ _ _ _ _ c.args.carried c.self.invariant.0 c.rank.ensures here,
    )
