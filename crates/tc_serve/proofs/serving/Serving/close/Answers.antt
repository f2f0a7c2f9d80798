use Rattle.std.proofs.Common.{◌∙◌, refl}
use Rattle.tc_serve.proofs.{Feeding.closes, Trying.both_open}
use Rattle.tc_serve.proofs.serving.Serving.close.Goals as goal

pub returns-in-Ok-clause-ok : goal.returns-in-Ok-clause-ok
returns-in-Ok-clause-ok c =
    let v = c.args.self.now in
    closes v (record { server = c.close.new.self; line = v.line; lines = v.lines; refused = v.refused }) c.close.new.self c.in-Ok.field-0 c.is_some.result c.args.texts.now.out.items c.close.new.out.items c.args.texts.now.told.items _
    c.in-Ok.ensures.ok refl (λ s before out stands. c.is_some.ensures ∙ both_open v.server.current s.current stands.current) c.in_ok-append_end.ensures.ok
