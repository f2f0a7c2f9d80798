use Rattle.std.proofs.Common.{◌≡◌, ◌∙◌, ◌∷◌, ap, subst, sym}
use Rattle.tc_entry.specs.declared.{entry.Entry.Entry, op.Op.Op, reply.Reply.Reply}
use Rattle.tc_rules.specs.Standing.{StandsFor}
use Rattle.tc_rules.proofs.state.CaseState.take.Goals as goal

-- an entry by its parts
by_parts : (e : Entry) (op : Op) → e.op ≡ op → e.reply ≡ Reply.Ok → record { caller = e.caller; op = op; reply = Reply.Ok } ≡ e
by_parts e op is ok =
    ap (λ o. record { caller = e.caller; op = o; reply = Reply.Ok }) (sym is) ∙ ap (λ r. record { caller = e.caller; op = e.op; reply = r }) (sym ok)

pub returns-in-SetVerdict-Ok-clause-stands : goal.returns-in-SetVerdict-Ok-clause-stands
returns-in-SetVerdict-Ok-clause-stands c past stands =
    let op : c.args.entry.now.op ≡ Op.SetVerdict c.in-SetVerdict-Ok.setting = cc in
    let reply : c.args.entry.now.reply ≡ Reply.Ok = cc in
    subst (λ e. StandsFor c.set_verdict.new.self (e ∷ past)) (by_parts c.args.entry.now (Op.SetVerdict c.in-SetVerdict-Ok.setting) op reply) (c.set_verdict.ensures.stands past stands)

pub returns-in-Stop-Ok-clause-stands : goal.returns-in-Stop-Ok-clause-stands
returns-in-Stop-Ok-clause-stands c past stands =
    let op : c.args.entry.now.op ≡ Op.Stop c.in-Stop-Ok.group = cc in
    let reply : c.args.entry.now.reply ≡ Reply.Ok = cc in
    subst (λ e. StandsFor c.stop.new.self (e ∷ past)) (by_parts c.args.entry.now (Op.Stop c.in-Stop-Ok.group) op reply) (c.stop.ensures.stands past stands)

pub returns-in-Kill-Ok-clause-stands : goal.returns-in-Kill-Ok-clause-stands
returns-in-Kill-Ok-clause-stands c past stands =
    let op : c.args.entry.now.op ≡ Op.Kill c.in-Kill-Ok.group = cc in
    let reply : c.args.entry.now.reply ≡ Reply.Ok = cc in
    subst (λ e. StandsFor c.kill.new.self (e ∷ past)) (by_parts c.args.entry.now (Op.Kill c.in-Kill-Ok.group) op reply) (c.kill.ensures.stands past stands)
