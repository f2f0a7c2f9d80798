use Rattle.std.proofs.Common.{◌≡◌, ◌==◌, ◌∙◌, ◌+◌, ◌∷◌, false, ap, sym, drop, rules, tests, length}
use Rattle.tc_script.specs.Calls.{HasCalled.{none}, ending}
use Rattle.tc_script.proofs.Lemmas.Running.{called_more, called_none, none_are, starved, step_at}
use Rattle.tc_script.proofs.behaviour.make_calls.Goals as goal

pub returns-then-is_ended : goal.returns-then-is_ended
returns-then-is_ended g c = record {
  left = c.args.script.now.steps;
  bound = c.args.pass.now.args;
  called = none;
  ending_is = sym (ap (λ e. ending e c.args.script.now.steps) (sym c.if-is_ended.ensures));
}

pub returns-then-is_empty : goal.returns-then-is_empty
returns-then-is_empty g c =
    let steps = c.args.script.now.steps in
    let empty : length steps ≡ 0 = search (rules, tests) in record {
      left = steps;
      bound = c.args.pass.now.args;
      called = none;
      ending_is = sym (ap (λ e. ending e steps) (sym c.if-is_ended.ensures) ∙ ap (ending false) (none_are steps empty));
    }

pub returns-then-is_err : goal.returns-then-is_err
returns-then-is_err g c =
    let steps = c.args.script.now.steps in
    let some : (length steps == 0) ≡ false = search (rules, tests) in record {
      left = steps;
      bound = c.args.pass.now.args;
      called = none;
      ending_is = sym (ap (λ e. ending e steps) (sym c.if-is_ended.ensures) ∙ starved steps some);
    }

pub loop-step-init : goal.loop-step-init
loop-step-init g c = called_none c.args.script.now.steps _ c.args.pass.now _ c.steps-step-items.ensures.steps (search rules)

pub loop-step-preserved : goal.loop-step-preserved
loop-step-preserved g c =
    let items = c.steps-step-items.result.now in
    let i = c.loop-step.step-index in
    let left = drop (i + 1) items in
    let at = step_at items i c.step-item.result c.loop-step-test.true ∙ ap (λ s. s ∷ left) (sym c.step-item.is) in
    called_more _ _ (drop i items) left c.step-item.result _ _ _ _ _ c.loop-step.invariant at (sym c.if-is_ended-2.ensures) c.in_ok-call.ensures.1
