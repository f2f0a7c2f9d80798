use Rattle.std.proofs.Common.{◌∙◌, Err, Ok, refl, sym}
use Rattle.tc_blocks.specs.declared.line.Line.{Line}
use Rattle.tc_serve.{specs.{Inside.with_line, Protocol.why_text, declared.order.Refusal.Refusal}, proofs.Trying.{by_test, noted}}
use Rattle.tc_serve.proofs.open_case.OpenCase.refuse.Goals as goal

pub returns-then-not-has-clause-ok : goal.returns-then-not-has-clause-ok
returns-then-not-has-clause-ok c p closed before holds =
    by_test _ _ (Ok (with_line p (Line.Refused c.args.run (why_text c.args.why)))) (Err Refusal.NoRun) _ _ (sym (c.has.ensures.is p holds.is.opened) ∙ c.if-not-has.true) (refl, holds)

pub returns-clause-ok : goal.returns-clause-ok
returns-clause-ok c p closed before holds =
    let appends = rw (c.as_bytes.ensures.value, c.text.ensures) at c.in_ok-append_said.ensures.ok in
    by_test _ _ (Ok (with_line p (Line.Refused c.args.run (why_text c.args.why)))) (Err Refusal.NoRun) _ _ (sym (c.has.ensures.is p holds.is.opened) ∙ c.if-not-has.false)
    (refl, noted c.args.self.now _ p (Line.Refused c.args.run (why_text c.args.why)) closed before c.args.out.now.items c.append_said.new.out.items holds refl refl refl (λ ls met. c.add_refused.ensures ls (why_text c.args.why) met) appends)
