use Rattle.std.proofs.{Common.{◌≡◌, ◌∙◌, length, true, false, arith, ap, sym}, lemmas.Bool.Decides.nat_tests}
use Rattle.tc_rules.{specs.{History.ends_case, Inside.Step.{finds_none, next_state}}, proofs.{Elsewhere.no_better_at, Unchanged.{mapped_step, none_found, passed_by}, step.take_in_many.Goals.{else-ends+else-finds, then-ends}}}
use Rattle.tc_rules.proofs.step.take_in_many.Goals as goal

pub returns-then-finds_none-clause-each : goal.returns-then-finds_none-clause-each
returns-then-finds_none-clause-each c =
    let ends : ends_case c.args.entry.now ≡ false = grind (arith, nat_tests) in
    let none : finds_none c.args.entry.now.op c.args.states.now ≡ true = grind (arith, nat_tests) in
    none_found c.args.own c.args.entry.now c.args.states.now c.requires.settled ends none

pub loop-i-preserved : goal.loop-i-preserved
loop-i-preserved c =
    let n : length c.as_slice-count.result.now ≡ length c.args.states.now = ap length c.as_slice-count.ensures.same in
    elim c.if-ends.branch [
      | then-ends w ↦ mapped_step (next_state c.args.own c.args.entry.now) c.args.states.now c.loop-i.states _ c.loop-i.i _ _ _ (w.states-is ∙ w.set.ensures) c.loop-i.invariant.0 (omega arith) c.loop-i.invariant.1 c.loop-i.invariant.2 c.get-state.ensures w.next_state.ensures
      | else-ends+else-finds w ↦
          rw w.states-is (passed_by c.args.own c.args.entry.now c.args.states.now c.loop-i.states c.loop-i.i c.get-state.result c.requires.settled (sym c.ends_case-ends.ensures ∙ w.if-ends.false) c.loop-i.invariant.0 (omega arith) c.loop-i.invariant.1 c.loop-i.invariant.2 c.get-state.ensures
          (sym w.finds.ensures ∙ w.if-finds.false))
    ]

pub set-requires-clause-no_better : goal.set-requires-clause-no_better
set-requires-clause-no_better c =
    let n : length c.as_slice-count.result.now ≡ length c.args.states.now = ap length c.as_slice-count.ensures.same in
    let m : length c.loop-i.states ≡ length c.args.states.now = c.loop-i.invariant.0 in
    no_better_at c.args.own c.args.entry.now c.loop-i.states c.loop-i.i c.next_state.result _ _ (omega arith) c.get-state.ensures c.next_state.ensures
