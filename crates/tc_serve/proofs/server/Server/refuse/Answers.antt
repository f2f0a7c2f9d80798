use Rattle.tc_blocks.specs.declared.line.Line.{Line}
use Rattle.tc_serve.{specs.Protocol.{with_added_line, why_text}, proofs.Trying.{of_nobody, opened_tries, tells_run}}
use Rattle.tc_serve.proofs.server.Server.refuse.Goals as goal

pub returns-in_default-clause-ok : goal.returns-in_default-clause-ok
returns-in_default-clause-ok c = of_nobody c.args.line.now c.args.why c.args.self.now c.args.out.now.items c.in_default.ensures

pub returns-in_ok-refuse-in-Some-current-clause-ok : goal.returns-in_ok-refuse-in-Some-current-clause-ok
returns-in_ok-refuse-in-Some-current-clause-ok c =
    tells_run c.args.line.now c.in-Some.run' c.args.why c.in_ok-refuse-in-Some-current.field-0 c.is_none.result c.args.self.now _ c.args.out.now.items c.refuse.new.out.items c.is_none.ensures c.in-Some.ensures.0 c.in-Some.ensures.1
    (opened_tries c.args.self.now c.in-Some-current.held c.refuse.new.self (with_added_line c.in-Some.run' (Line.Refused c.in-Some.run' (why_text c.args.why))) c.in_ok-refuse-in-Some-current.field-0 c.args.out.now.items c.refuse.new.out.items c.in-Some-current.is c.in_ok-refuse-in-Some-current.ensures.ok)
