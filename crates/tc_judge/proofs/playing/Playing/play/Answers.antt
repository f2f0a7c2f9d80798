use Rattle.std.{proofs.Common.{◌≡◌, false, arith}, specs.Prelude.is_some}
use Rattle.tc_judge.proofs.Lemmas.{entry_played}
use Rattle.tc_judge.proofs.playing.Playing.play.Goals as goal

pub returns-in_default : goal.returns-in_default
returns-in_default c first_line h lines here played =
    let p = c.args.self.now in
    let said = c.is_some.ensures in
    let tested = c.if-is_some.false in
    let none : is_some p.difference ≡ false = cc in
    let fits = c.ranges.line.fits in (
      played.0,
      entry_played h.behaviours first_line lines c.args.entry.now p.state c.play_entry.new.self p.entries c.saturating_add-self.result c.args.line p.difference none played.1
          (rw c.in_default.is at c.in_ok-reply.ensures.same) (rw c.in_default.is at c.in_ok-reply.ensures.stands) c.in_ok-reply.ensures.behaviours c.saturating_add-self.ensures here (omega (arith, fits)),
    )
