use Rattle.std.proofs.lemmas.Result.{IfOk-weaker}
use Rattle.tc_serve.{specs.Protocol.made, proofs.Trying.opened_tries}
use Rattle.tc_serve.proofs.server.Server.make.Goals as goal

pub returns-in-Some-clause-ok : goal.returns-in-Some-clause-ok
returns-in-Some-clause-ok c =
    IfOk-weaker c.make.result _ _ (λ why change. opened_tries c.args.self.now c.in-Some.held c.make.new.self (made c.args.caller c.args.op) why c.args.out.now.items c.make.new.out.items c.in-Some.is change) c.make.ensures.ok
