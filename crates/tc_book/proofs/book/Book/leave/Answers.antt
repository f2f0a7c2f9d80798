use Rattle.std.proofs.Common.{rules, refl}
use Rattle.tc_rules.specs.Prelude.{Op, UserVerdict}
use Rattle.tc_book.proofs.Keeping.{agree_before, carried_before}
use Rattle.tc_book.proofs.book.Book.leave.Goals as goal

pub follow-requires-clause-agreeing : goal.follow-requires-clause-agreeing
follow-requires-clause-agreeing c =
    agree_before c.self.inside.table c.play.new.self c.self.inside.words c.args.run Op.Finish c.in-Ok.reply c.in-Ok.ensures.behaviours c.in-Ok.ensures.added c.self.invariant.agreeing

pub follow-requires-clause-carried : goal.follow-requires-clause-carried
follow-requires-clause-carried c =
    carried_before c.self.inside.table c.play.new.self c.self.inside.words c.args.run Op.Finish c.in-Ok.reply UserVerdict.None c.in-Ok.ensures.added refl

pub returns-clause-reply : goal.returns-clause-reply
returns-clause-reply c = search rules

pub returns-clause-history : goal.returns-clause-history
returns-clause-history c = search rules
