use Rattle.std.proofs.Common.{refl}
use Rattle.tc_blocks.specs.Prelude.{outcome_text}
use Rattle.tc_text.specs.Prelude.{move_text}
use Rattle.tc_serve.proofs.Trying.{call_made, line_whole}
use Rattle.tc_serve.proofs.open_case.OpenCase.call.Goals as goal

pub returns-clause-ok : goal.returns-clause-ok
returns-clause-ok c text begun =
    let played = c.in_ok-reply.ensures in
    let reply = c.in_ok-reply.reply in
    call_made c.args.self.now (record { state = c.play.new.self; waited = c.args.self.now.waited; met = c.meet.new.met }) c.args.caller c.args.op reply text c.append_outcome.new.out.items played.reply played.stands played.behaviours refl
    (λ ls met. c.meet.ensures reply ls met)
    (line_whole text (move_text c.args.caller.0 c.args.op) (outcome_text reply) c.args.out.now.items c.append_outcome.new.out.items begun c.in_ok-append_outcome.ensures.ok)
