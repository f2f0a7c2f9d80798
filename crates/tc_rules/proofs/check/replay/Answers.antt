use Rattle.std.proofs.{Common.{◌+◌, ◌∙◌, ap, arith, drop, get_or, sym, take}, lemmas.List.{get_or_read, length-take-le}}
use Rattle.tc_rules.proofs.Lemmas.Differing.{split_at}
use Rattle.tc_rules.proofs.check.replay.Goals as goal

pub returns-in-Some-clause-stands : goal.returns-in-Some-clause-stands
returns-in-Some-clause-stands c = tt

pub returns-in-Some-clause-legal : goal.returns-in-Some-clause-legal
returns-in-Some-clause-legal c = tt

pub returns-in-Some-clause-fault : goal.returns-in-Some-clause-fault
returns-in-Some-clause-fault c =
    let read = get_or_read c.args.list.now c.loop-at.at c.index-list-at.result c.loop-at-test.true c.index-list-at.is in
    let d = get_or c.args.list.now c.loop-at.at c.index-list-at.result in (
      take c.loop-at.at c.args.list.now,
      d,
      drop (c.loop-at.at + 1) c.args.list.now,
      split_at c.args.list.now c.loop-at.at c.index-list-at.result c.loop-at-test.true,
      sym (length-take-le c.loop-at.at c.args.list.now (omega arith)),
      c.loop-at.invariant.2,
      rw (← read c.index-list-at.result, ← c.loop-at.invariant.0) ((rw c.in-Some.is at c.in_ok-reply.ensures.other) _ c.loop-at.invariant.1),
      λ same. (rw c.in-Some.is at c.in_ok-reply.ensures.differs) (sym same ∙ ap (λ e. e.reply) (sym (read c.index-list-at.result))),
    )
