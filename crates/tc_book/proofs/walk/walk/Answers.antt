use Rattle.std.proofs.Common.{rules, arith, length, reverse, subst, take, ◌≡◌, ◌<◌, List, false, IsTrue}
use Rattle.tc_rules.specs.Prelude.{Entry}
use Rattle.tc_book.{specs.Inside.CanFollow, proofs.{ByRun.no_next, Walking.{follows, walked_all, walked_next, walked_none}}}
use Rattle.tc_book.proofs.walk.walk.Goals as goal

pub loop-entry-init : goal.loop-entry-init
loop-entry-init c = walked_none c.args.state.now.behaviours c.args.rests.now.items c.args.state.now c.args.history.now (search rules) c.requires

pub loop-entry-preserved : goal.loop-entry-preserved
loop-entry-preserved c =
    let past : List Entry = reverse (take c.loop-entry.entry-index c.args.history.now) in
    let was = c.loop-entry.invariant in
    let yes : IsTrue c.in_ok-is_played.is_played = search rules in
    let can : CanFollow c.args.state.now.behaviours past c.entry-item.result =
    subst (λ n. CanFollow n past c.entry-item.result) was.behaviours ((c.in_ok-is_played.ensures.yes past was.stands).0 yes) in
    walked_next c.args.state.now.behaviours c.args.rests.now.items c.loop-entry.rests.items c.take_next.new.rests.items c.loop-entry.state _ c.args.history.now c.loop-entry.entry-index c.entry-item.result c.loop-entry-test.true c.entry-item.is
    (c.in_ok-is_played.ensures.stands yes) c.in_ok-is_played.ensures.behaviours can c.take_next.ensures.len (c.if-not-take_next.ensures.taken (search rules)) was

pub returns-then-not-is_played-clause-yes : goal.returns-then-not-is_played-clause-yes
returns-then-not-is_played-clause-yes c = (
  search rules,
  λ w.
      let past : List Entry = reverse (take c.loop-entry.entry-index c.args.history.now) in
      let was = c.loop-entry.invariant in
      let can = follows c.args.state.now.behaviours c.args.rests.now.items c.args.history.now c.loop-entry.entry-index c.entry-item.result c.loop-entry-test.true c.entry-item.is w in
      let yes : IsTrue c.in_ok-is_played.is_played = (c.in_ok-is_played.ensures.yes past was.stands).1 (rw was.behaviours can) in
      let no : c.in_ok-is_played.is_played ≡ false = search rules in cc,
)

pub returns-then-not-take_next-clause-yes : goal.returns-then-not-take_next-clause-yes
returns-then-not-take_next-clause-yes c = (
  search rules,
  λ w.
      let was = c.loop-entry.invariant in
      let other = c.if-not-take_next.ensures.other (search rules) in
      let below : c.entry-item.result.caller.0 < length c.args.rests.now.items = omega (arith, other.0, was.as_many) in
      absurd (no_next c.args.rests.now.items c.loop-entry.rests.items c.args.history.now c.loop-entry.entry-index c.entry-item.result c.args.history c.loop-entry-test.true c.entry-item.is below (other.1 c.args.history) was.left
      (w.parts c.entry-item.result.caller.0 c.args.history below)),
)

pub returns-clause-yes : goal.returns-clause-yes
returns-clause-yes c =
    let at : c.loop-entry.entry-index ≡ length c.args.history.now = omega (arith, c.loop-entry-test.false, c.loop-entry.auto.entry-index-end) in
    let both = walked_all c.args.state.now.behaviours c.args.rests.now.items c.loop-entry.rests.items c.loop-entry.state c.args.history.now c.loop-entry.entry-index c.args.history at c.loop-entry.invariant in
    (λ yes. both.1.0 (rw c.deref.ensures.value at (c.are_empty.ensures.0 yes)), λ w. c.are_empty.ensures.1 (rw c.deref.ensures.value (both.1.1 w)))
