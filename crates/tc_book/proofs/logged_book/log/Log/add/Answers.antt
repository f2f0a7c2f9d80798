use Rattle.tc_rules.specs.Prelude.{Entry}
use Rattle.tc_book.proofs.Handed.{hand_other}
use Rattle.tc_book.proofs.logged_book.log.Log.add.Goals as goal

pub invariant_of-self : goal.invariant_of-self
invariant_of-self c =
    let e : Entry = record { caller = c.self.inside.started.run; op = c.args.op; reply = c.args.reply } in (
      c.add_to-self-inside.ensures.ended,
      hand_other c.self.inside.hand c.self.inside.started.run.0 c.self.inside.entries.items _ e c.requires.other c.add_to-self-inside.ensures.items c.self.invariant.1,
    )
