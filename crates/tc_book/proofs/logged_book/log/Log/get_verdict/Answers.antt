use Rattle.tc_rules.specs.Prelude.{Entry, Op}
use Rattle.tc_book.proofs.Handed.{hand_said}
use Rattle.tc_book.proofs.logged_book.log.Log.get_verdict.Goals as goal

pub invariant_of-self : goal.invariant_of-self
invariant_of-self c =
    let e : Entry = record { caller = c.self.inside.started.run; op = Op.GetVerdict; reply = c.get-reply.result } in (
      c.add_to-self-inside.ensures.ended,
      hand_said c.self.inside.hand _ c.self.inside.started.run.0 c.self.inside.entries.items _ e c.get-reply.ensures.answer c.add_to-self-inside.ensures.items c.self.invariant.1,
    )
