use Rattle.tc_rules.specs.Prelude.{Op}
use Rattle.tc_book.proofs.Waking.{silent}
use Rattle.tc_book.proofs.book.Book.call_wake.Goals as goal

pub returns-clause-silent : goal.returns-clause-silent
returns-clause-silent c =
    silent _ c.args.self.now c.wake.new.self c.args.run (Op.Wake c.args.killed c.args.target) c.in_ok-reply.reply c.tells.result c.self.view_is c.self.invariant.legal c.wake.ensures.behaviours c.in_ok-reply.ensures.reply c.in_ok-reply.ensures.history c.tells.ensures
