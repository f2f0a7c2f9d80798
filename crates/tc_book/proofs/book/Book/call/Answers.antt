use Rattle.std.proofs.Common.{◌≡◌, ◌&&◌, not, ap, ◌∙◌, Bool}
use Rattle.tc_rules.specs.Prelude.{keeps_phases, lets_go_on}
use Rattle.tc_book.proofs.Waking.{silent}
use Rattle.tc_book.proofs.book.Book.call.Goals as goal

pub returns-clause-silent : goal.returns-clause-silent
returns-clause-silent c =
    let reply = c.in_ok-reply.reply in
    let tells : c.tells.result ≡ not (keeps_phases c.args.op && lets_go_on reply) = c.tells.ensures ∙ ap (λ (k : Bool). not (k && lets_go_on reply)) c.keeps_phases-keeps.ensures in
    silent _ c.args.self.now c.record.new.self c.args.run c.args.op reply c.tells.result c.self.view_is c.self.invariant.legal c.record.ensures.behaviours c.in_ok-reply.ensures.reply c.in_ok-reply.ensures.history tells

pub returns-clause-history : goal.returns-clause-history
returns-clause-history c = c.in_ok-reply.ensures.history

pub returns-clause-places : goal.returns-clause-places
returns-clause-places c = c.in_ok-reply.ensures.places
