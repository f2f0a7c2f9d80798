use Rattle.std.proofs.Common.{◌∙◌, sym}
use Rattle.tc_serve.proofs.Trying.{begun, not_begun}
use Rattle.tc_serve.proofs.server.Server.begin.Goals as goal

pub returns-then-is_some-clause-ok : goal.returns-then-is_some-clause-ok
returns-then-is_some-clause-ok c = not_begun c.args.self.now c.args.name c.args.behaviours c.args.out.now.items (sym c.is_some.ensures ∙ c.if-is_some.true)

pub returns-clause-ok : goal.returns-clause-ok
returns-clause-ok c =
    begun c.args.self.now c.in_ok-new.field-0 c.args.name c.args.behaviours c.args.out.now.items c.append_first_line.new.out.items (sym c.is_some.ensures ∙ c.if-is_some.false) (c.in_ok-new.ensures c.args.name)
    c.in_ok-append_first_line.ensures.ok
