use Rattle.std.proofs.Common.{◌∙◌, refl, sym}
use Rattle.tc_serve.{specs.Protocol.made, proofs.Trying.{barred, made_so, moves_rest}}
use Rattle.tc_serve.proofs.open_case.OpenCase.make.Goals as goal

pub returns-in-Some-clause-ok : goal.returns-in-Some-clause-ok
returns-in-Some-clause-ok c p closed before rests = barred (made c.args.caller c.args.op p) _ _ c.in-Some.why (sym c.in-Some.is ∙ c.bar.ensures p rests.is.opened) (refl, rests)

pub returns-clause-ok : goal.returns-clause-ok
returns-clause-ok c p closed before rests =
    made_so p c.args.caller c.args.op _ _ (sym c.in_default.is ∙ c.bar.ensures p rests.is.opened)
    (refl, moves_rest c.args.self.now c.play.new.self c.args.caller c.args.op c.args.out.now.items c.play.new.out.items c.in_ok-play.ensures.ok p closed before rests)
