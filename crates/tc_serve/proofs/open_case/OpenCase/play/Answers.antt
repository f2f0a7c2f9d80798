use Rattle.std.proofs.{Common.{◌∙◌, sym}, lemmas.Result.on_ok_weaker}
use Rattle.tc_serve.proofs.Trying.{wakes_all, wakes_none}
use Rattle.tc_serve.proofs.open_case.OpenCase.play.Goals as goal

pub returns-then-wakes_nobody-clause-ok : goal.returns-then-wakes_nobody-clause-ok
returns-then-wakes_nobody-clause-ok c =
    let nobody = rw c.keeps_phases-keeps_phases.ensures at (sym c.wakes_nobody.ensures ∙ c.if-wakes_nobody.true) in
    wakes_none c.args.self.now c.ask.new.self c.args.caller c.args.op c.in_ok-reply.reply c.args.out.now.items c.ask.new.out.items c.in_ok-reply.ensures.ok c.in_ok-reply.ensures.reply nobody

pub returns-clause-ok : goal.returns-clause-ok
returns-clause-ok c =
    on_ok_weaker c.wake_all.result
    (wakes_all c.args.self.now c.ask.new.self c.wake_all.new.self c.args.caller c.args.op c.args.out.now.items c.ask.new.out.items c.wake_all.new.out.items c.in_ok-reply.ensures.ok)
    c.wake_all.ensures.ok
