use Rattle.std.proofs.{Common.{◌∙◌, Err, refl, sym}, lemmas.Result.IfOk-weaker}
use Rattle.tc_blocks.specs.declared.line.Line.{Line}
use Rattle.tc_serve.{specs.{Protocol.with_added_line, declared.order.Refusal.Refusal}, proofs.Trying.by_test}
use Rattle.tc_serve.proofs.open_case.OpenCase.name.Goals as goal

pub returns-then-has_met-clause-ok : goal.returns-then-has_met-clause-ok
returns-then-has_met-clause-ok c p closed before holds =
    by_test _ _ (Err Refusal.LateName) (with_added_line c.args.run (Line.Named c.args.run c.args.name) p) _ _ (sym (c.has_met.ensures p holds.is.opened) ∙ c.if-has_met.true) (refl, holds)

pub returns-clause-ok : goal.returns-clause-ok
returns-clause-ok c =
    IfOk-weaker c.add.result _ _
    (λ why change p closed before holds.
    by_test _ _ (Err Refusal.LateName) (with_added_line c.args.run (Line.Named c.args.run c.args.name) p) _ _ (sym (c.has_met.ensures p holds.is.opened) ∙ c.if-has_met.false) (change p closed before holds))
    c.add.ensures.ok
