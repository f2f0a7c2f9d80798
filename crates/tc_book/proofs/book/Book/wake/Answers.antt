use Rattle.std.proofs.Common.{rules, refl}
use Rattle.tc_rules.specs.Prelude.{Op, UserVerdict}
use Rattle.tc_book.proofs.Keeping.{agree_before, carried_before}
use Rattle.tc_book.proofs.book.Book.wake.Goals as goal

pub follow-requires-clause-agreeing : goal.follow-requires-clause-agreeing
follow-requires-clause-agreeing c =
    agree_before c.self.inside.table c.play.new.self c.self.inside.words c.args.run (Op.Wake c.args.killed c.args.target) c.in-Ok.reply c.in-Ok.ensures.behaviours c.in-Ok.ensures.added c.self.invariant.agreeing

pub follow-requires-clause-carried : goal.follow-requires-clause-carried
follow-requires-clause-carried c =
    carried_before c.self.inside.table c.play.new.self c.self.inside.words c.args.run (Op.Wake c.args.killed c.args.target) c.in-Ok.reply UserVerdict.None c.in-Ok.ensures.added refl

pub returns-clause-awake : goal.returns-clause-awake
returns-clause-awake c = search rules
