use Rattle.std.proofs.Common.{◌∙◌}
use Rattle.tc_blocks.specs.{Prelude.short_entry, declared.line.Line.Line}
use Rattle.tc_report.proofs.Lemmas.Telling.{entry_says}
use Rattle.tc_judge.proofs.Judging.{line_recorded}
use Rattle.tc_judge.proofs.judged.JudgingTakesEvidence.take_short.Goals as goal

pub returns : goal.returns
returns g c first_line h before line opened = (
  c.in_ok-play_short.ensures first_line h before line opened.0,
  λ records. line_recorded before (Line.Entry (short_entry c.args.caller c.args.op c.args.reply)) _ _ _ _ (rw c.op.ensures at c.in_ok-record.ensures.0 records) (entry_says c.args.begun.now.said 0 (short_entry c.args.caller c.args.op c.args.reply)) (opened.1 records),
  λ none. (c.in_ok-record.ensures.1 none ∙ (opened.2 none).0, (opened.2 none).1),
)
