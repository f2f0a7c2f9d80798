use Rattle.std.proofs.Common.{rules}
use Rattle.tc_book.proofs.Keeping.{agree_before, carried_before}
use Rattle.tc_book.proofs.book.Book.record.Goals as goal

pub follow-requires-clause-agreeing : goal.follow-requires-clause-agreeing
follow-requires-clause-agreeing c =
    agree_before c.make_room.new.self c.play.new.self c.self.inside.words c.args.run c.args.op c.in_ok-reply.reply c.in_ok-reply.ensures.behaviours c.in_ok-reply.ensures.added (search rules)

pub follow-requires-clause-carried : goal.follow-requires-clause-carried
follow-requires-clause-carried c =
    carried_before c.make_room.new.self c.play.new.self c.self.inside.words c.args.run c.args.op c.in_ok-reply.reply c.carried_to-carried.result c.in_ok-reply.ensures.added (search rules)
