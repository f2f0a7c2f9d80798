use Rattle.std.proofs.lemmas.Result.{IfOk-weaker}
use Rattle.tc_serve.proofs.Trying.{asked_by, nothing_asked}
use Rattle.tc_serve.proofs.server.Server.try_any.Goals as goal

pub returns-in-Ok-clause-ok : goal.returns-in-Ok-clause-ok
returns-in-Ok-clause-ok c =
    let found = rw c.in-Ok.is at c.in_ok-order.ensures.spelled in
    IfOk-weaker c.take.result _ _ (λ why tries. asked_by c.args.line.now c.in-Ok.order why c.args.self.now c.take.new.self c.args.out.now.items c.take.new.out.items found tries) c.take.ensures.ok

pub returns-in-Err-clause-ok : goal.returns-in-Err-clause-ok
returns-in-Err-clause-ok c =
    let is = rw c.in-Err.is at c.in_ok-order.ensures.why in
    nothing_asked _ c.args.line.now c.in-Err.why c.args.self.now c.args.out.now.items (λ o asks. let same = rw c.in-Err.is at (c.in_ok-order.ensures.only o asks.1) in cc) is
