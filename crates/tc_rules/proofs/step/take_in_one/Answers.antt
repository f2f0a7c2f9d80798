use Rattle.std.proofs.Common.{◌≡◌, length, arith, ap}
use Rattle.tc_rules.proofs.Elsewhere.{one_changed, out_of_range, no_better_at}
use Rattle.tc_rules.proofs.step.take_in_one.Goals as goal

pub set-requires-clause-no_better : goal.set-requires-clause-no_better
set-requires-clause-no_better c =
    let n : length c.as_slice-count.result.now ≡ length c.args.states.now = ap length c.as_slice-count.ensures.same in
    no_better_at c.args.own c.args.entry.now c.args.states.now c.args.comp.0 c.next_state.result _ _ (omega arith) c.get-state.ensures c.next_state.ensures

pub returns-then-i-count-clause-each : goal.returns-then-i-count-clause-each
returns-then-i-count-clause-each c =
    let n : length c.as_slice-count.result.now ≡ length c.args.states.now = ap length c.as_slice-count.ensures.same in
    rw c.set.ensures
    (one_changed c.args.own c.args.entry.now c.args.states.now c.args.comp c.next_state.result _ _ c.requires.settled c.requires.touched (omega arith) c.get-state.ensures c.next_state.ensures)

pub returns-else-i-count-clause-each : goal.returns-else-i-count-clause-each
returns-else-i-count-clause-each c =
    let n : length c.as_slice-count.result.now ≡ length c.args.states.now = ap length c.as_slice-count.ensures.same in
    out_of_range c.args.own c.args.entry.now c.args.states.now c.args.comp c.requires.settled c.requires.touched (omega arith)
