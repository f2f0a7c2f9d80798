use Rattle.std.proofs.lemmas.Result.{IfOk-weaker}
use Rattle.tc_serve.{specs.Protocol.with_name, proofs.Trying.opened_tries}
use Rattle.tc_serve.proofs.server.Server.name.Goals as goal

pub returns-in-Some-clause-ok : goal.returns-in-Some-clause-ok
returns-in-Some-clause-ok c =
    IfOk-weaker c.name.result _ _ (λ why change. opened_tries c.args.self.now c.in-Some.held c.name.new.self (with_name c.args.run c.args.name) why c.args.out.now.items c.name.new.out.items c.in-Some.is change) c.name.ensures.ok
