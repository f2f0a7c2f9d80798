use Rattle.std.{specs.List.list_any, proofs.Common.{◌≡◌, ◌∙◌, ◌==◌, ◌<◌, false, true, arith, get_or, length, map}}
use Rattle.tc_rules.specs.Prelude.{Comp, is_in}
use Rattle.tc_model.proofs.Lacking.{is_in_any}
use Rattle.tc_model.proofs.Giving.{given_kept, given_more, given_pushed}
use Rattle.tc_model.proofs.given.give.Goals as goal
use Rattle.tc_model.proofs.given.give.Goals.{then-not-is_in+in_ok-push, else-not-is_in}

pub loop-starter-preserved : goal.loop-starter-preserved
loop-starter-preserved c =
    let next = get_or c.args.runs.now c.loop-starter.starter-index (record { run = record { 0 = 0 }; there = 0 }) in
    let place : c.from.result ≡ next.run.0 = c.from.ensures in
    let inside : c.from.result < length c.loop-starter.given = omega (arith, c.requires c.loop-starter.starter-index next c.loop-starter-test.true) in
    given_more _ _ _ (record { run = record { 0 = 0 }; there = 0 }) _ _ _ c.loop-starter.invariant
    (elim c.if-not-is_in.branch [
      | then-not-is_in+in_ok-push w ↦
          let own = (get_or c.loop-starter.given c.from.result c.index-given-from.result).items in
          let any : list_any (λ (d : Comp). c.args.comp.0 == d.0) own ≡ false = cc in
          let lacks : is_in c.args.comp.0 (map (λ e. e.0) own) ≡ false = is_in_any c.args.comp.0 own ∙ any in
          rw w.given-is (given_pushed _ next _ _ _ _ place inside lacks w.in_ok-push.ensures.items)
      | else-not-is_in w ↦
          let own = (get_or c.loop-starter.given c.from.result c.index-given-from.result).items in
          let any : list_any (λ (d : Comp). c.args.comp.0 == d.0) own ≡ true = cc in
          let has : is_in c.args.comp.0 (map (λ e. e.0) own) ≡ true = is_in_any c.args.comp.0 own ∙ any in
          rw w.given-is (given_kept _ next _ _ _ place inside has)
    ])
    (omega arith) (omega arith)
