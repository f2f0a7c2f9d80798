use Rattle.std.proofs.Common.{◌≡◌, ◌∷◌, [], ◌++◌, List, take, reverse, sym, ◌+◌}
use Rattle.tc_rules.specs.Prelude.{Entry, calls_of, verdict_calls_after}
use Rattle.tc_book.proofs.InPlace.{calls_after, has_more, has_none, in_place_more, past_more, at-run}
use Rattle.tc_book.proofs.merging.add_history.Goals as goal

pub loop-entry-init : goal.loop-entry-init
loop-entry-init c = λ log has from.
    let got : c.at_run.result.now ≡ log 0 = at-run c.args.logs.now log 0 c.at_run.result c.at_run.result.now has (c.at_run.ensures.within c.at_run.result) c.at_run.ensures.beyond in
    (has_none log _ from, rw got at c.in_ok-add_head.ensures)

pub loop-entry-preserved : goal.loop-entry-preserved
loop-entry-preserved c = λ log has from.
    let e : Entry = c.entry-item.result in
    let h : List Entry = c.args.history.now in
    let past : List Entry = reverse (take c.loop-entry.entry-index h) in
    let more : reverse (take (c.loop-entry.entry-index + 1) h) ≡ e ∷ past = past_more h c.loop-entry.entry-index e c.loop-entry-test.true c.entry-item.is in
    let before = c.loop-entry.invariant log has from in
    let pushed : c.push.new.self.items ≡ c.loop-entry.all.items ++ e ∷ [] = rw c.copy.ensures at c.in_ok-push.ensures.items in
    let has_now = has_more log past e c.loop-entry.rests.items c.move_on-rest.new.rests.items before.0 c.move_on-rest.ensures.len c.move_on-rest.ensures.same c.move_on-rest.ensures.moved in
    let got : verdict_calls_after 0 c.move_on-rest.result.now ≡ verdict_calls_after (calls_of e.caller.0 (e ∷ past)) (log e.caller.0) =
    calls_after log (e ∷ past) e.caller.0 c.move_on-rest.new.rests.items c.move_on-rest.result c.move_on-rest.result.now has_now (λ below. c.move_on-rest.ensures.within c.move_on-rest.result (rw (sym c.move_on-rest.ensures.len) below))
    (λ beyond. c.move_on-rest.ensures.beyond (rw (sym c.move_on-rest.ensures.len) beyond)) in
    let said : c.add_head-in-loop-entry.new.all.items ≡ c.push.new.self.items ++ verdict_calls_after (calls_of e.caller.0 (e ∷ past)) (log e.caller.0) =
    rw got at c.in_ok-add_head-2.ensures in
    rw more (
      has_now,
      in_place_more log past e c.args.all.now.items c.loop-entry.all.items _ _ _ before.1 pushed said (c.in_ok-add_head_at_start.ensures log has),
    )
