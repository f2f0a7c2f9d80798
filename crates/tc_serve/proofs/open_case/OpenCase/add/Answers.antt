use Rattle.std.proofs.Common.{◌∙◌, Err, Ok, refl, sym}
use Rattle.tc_serve.{specs.{Inside.with_line, declared.order.Refusal.Refusal}, proofs.Trying.{by_test, noted}}
use Rattle.tc_serve.proofs.open_case.OpenCase.add.Goals as goal

pub returns-then-not-has-clause-ok : goal.returns-then-not-has-clause-ok
returns-then-not-has-clause-ok c p closed before holds = by_test _ _ (Ok (with_line p c.args.line.now)) (Err Refusal.NoRun) _ _ (sym (c.has.ensures.is p holds.is.opened) ∙ c.if-not-has.true) (refl, holds)

pub returns-clause-ok : goal.returns-clause-ok
returns-clause-ok c p closed before holds =
    by_test _ _ (Ok (with_line p c.args.line.now)) (Err Refusal.NoRun) _ _ (sym (c.has.ensures.is p holds.is.opened) ∙ c.if-not-has.false)
    (refl, noted c.args.self.now _ p c.args.line.now closed before c.args.out.now.items c.append_line.new.out.items holds c.requires refl refl c.add_line.ensures c.in_ok-append_line.ensures.ok)
