use Rattle.std.proofs.{Common.{Bool, subst, sym}, lemmas.Result.IfOk-weaker}
use Rattle.tc_text.specs.Prelude.{op_of}
use Rattle.tc_serve.{specs.{Inside.TriesLine, declared.order.Order.Order}, proofs.Trying.asked_by}
use Rattle.tc_serve.proofs.server.Server.try_line.Goals as goal

pub returns-in-Some-clause-ok : goal.returns-in-Some-clause-ok
returns-in-Some-clause-ok c =
    IfOk-weaker c.make.result _ _
    (λ why tries. subst (λ (t : Bool). TriesLine t c.args.line.now why c.args.self.now c.make.new.self c.args.out.now.items c.make.new.out.items) (sym c.if-not-ended.false)
    (asked_by c.args.line.now (Order.Move c.in-Some.caller (op_of c.in-Some.op)) why c.args.self.now c.make.new.self c.args.out.now.items c.make.new.out.items (c.in-Some.ensures.fits.0, c.in-Some.ensures.fits.1, c.in-Some.ensures.spelled) tries))
    (rw c.op.ensures at c.make.ensures.ok)

pub returns-clause-ok : goal.returns-clause-ok
returns-clause-ok c =
    IfOk-weaker c.try_any.result _ _
    (λ why tries. subst (λ (t : Bool). TriesLine t c.args.line.now why c.args.self.now c.try_any.new.self c.args.out.now.items c.try_any.new.out.items) (sym c.if-not-ended.false) tries) c.try_any.ensures.ok
