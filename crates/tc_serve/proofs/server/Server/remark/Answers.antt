use Rattle.std.proofs.lemmas.Result.{IfOk-weaker}
use Rattle.tc_blocks.specs.declared.line.Line.{Line}
use Rattle.tc_serve.{specs.Protocol.with_added_line, proofs.Trying.opened_tries}
use Rattle.tc_serve.proofs.server.Server.remark.Goals as goal

pub returns-in-Some-clause-ok : goal.returns-in-Some-clause-ok
returns-in-Some-clause-ok c =
    IfOk-weaker c.add.result _ _
    (λ why change. opened_tries c.args.self.now c.in-Some.held c.add.new.self (with_added_line c.args.run (Line.Remark c.args.run c.args.sentence)) why c.args.out.now.items c.add.new.out.items c.in-Some.is change) c.add.ensures.ok
