use Rattle.std.{proofs.Common.{◌≡◌, false, arith, subst}, specs.Prelude.is_some}
use Rattle.tc_text.specs.Prelude.{op_of}
use Rattle.tc_blocks.specs.{Prelude.short_entry}
use Rattle.tc_rules.specs.Prelude.{IsReplyOf, TakesIn}
use Rattle.tc_judge.proofs.Lemmas.{entry_played}
use Rattle.tc_judge.proofs.playing.Playing.play_short.Goals as goal

pub returns-then-same : goal.returns-then-same
returns-then-same c first_line h lines here played =
    let p = c.args.self.now in
    let said = c.is_some.ensures in
    let tested = c.if-is_some.false in
    let none : is_some p.difference ≡ false = cc in
    let same : c.in_ok-reply.reply ≡ c.args.given = c.same.ensures.0 c.if-same.true in
    let fits = c.ranges.line.fits in (
      played.0,
      entry_played h.behaviours first_line lines (short_entry c.args.caller c.args.op c.args.given) p.state c.play_short.new.state p.entries c.saturating_add-self.result c.args.line p.difference none played.1
          (subst (λ r. IsReplyOf p.state c.args.caller (op_of c.args.op) r) same c.in_ok-reply.ensures.reply)
          (subst (λ r. TakesIn p.state (short_entry c.args.caller c.args.op r) c.play_short.new.state) same c.in_ok-reply.ensures.stands)
          c.in_ok-reply.ensures.behaviours c.saturating_add-self.ensures here (omega (arith, fits)),
    )
