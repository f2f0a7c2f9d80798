use Rattle.std.{specs.Prelude.slice_get, proofs.Common.{◌≡◌, ◌<◌, ℕ, sym, ap, subst, ◌∙◌, Contains}}
use Rattle.atomic_table.specs.Seated.{TableId}
use Rattle.tc_entry.specs.Prelude.{given}
use Rattle.tc_board.{specs.{Answers.worst_answer, Inside.Steps.verdict_of, Keeper.{KeeperView, carried_by}, declared.answer.AnswerList.AnswerList}, proofs.{KeeperSteps.{closes_at, counts_gathered}, Lookup.{at_length, got_elem}, Numbers.{read_some, verdict_of-rank}}}
use Rattle.tc_board.proofs.keeper.Keeper.close.Goals as goal

pub fetch_or-found-requires : goal.fetch_or-found-requires
fetch_or-found-requires c =
    let at = ap (λ (k : KeeperView). k.board) c.self.view_is ∙ c.requires.board ∙ sym c.board.view_is in
    let here = got_elem c.self.inside.seat.me.0.records c.args.run.0 _ (ap (λ (k : KeeperView). slice_get k.records c.args.run.0) c.self.view_is ∙ c.requires.open.1) in (
      at,
      subst (λ (n : ℕ). c.args.run.0 < n) (c.self.invariant.1 ∙ ap (λ (z : TableId). z.words) at) (at_length _ _ _ here),
      closes_at _ _ _ _ _ _ c.requires.open.0 c.self.invariant.0 here,
    )

pub unreachable-requires : goal.unreachable-requires
unreachable-requires c = let read = read_some c.fetch_or-found.result c.of_rank.result c.fetch_or-found.ensures.2.1 c.of_rank.ensures.only in absurd (cc)

pub returns-clause-counts : goal.returns-clause-counts
returns-clause-counts c =
    let is = sym (verdict_of-rank c.in-Some.counted) ∙ ap verdict_of c.in-Some.ensures.ranked in
    subst (λ (k : KeeperView). (l : AnswerList) → Contains k.gathered l → l.run ≡ c.args.run.0 → given c.in-Some.counted ≡ worst_answer (carried_by k.records c.args.run.0) l.answers) c.self.view_is
    (counts_gathered c.board.inside.table.shared.table_id.slots c.args.run.0 c.fetch_or-found.result c.self.inside.seat.me c.in-Some.counted is c.fetch_or-found.ensures.2.2)
