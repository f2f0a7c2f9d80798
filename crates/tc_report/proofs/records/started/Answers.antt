use Rattle.std.proofs.Common.{◌∙◌, ◌≢◌}
use Rattle.csv.specs.declared.writer.QuoteStyle.TheVariants as style
use Rattle.csv.specs.Writing.{fields_text, is_blank, writer_setup}
use Rattle.tc_report.proofs.records.started.Goals as goal

pub returns-in-Ok : goal.returns-in-Ok
unfolding fields_text is_blank
returns-in-Ok c =
    let from = c.fresh-writer.ensures.between in
    let plain : (writer_setup c.fresh-writer.result).style ≢ style.NonNumeric = rw from.setup (λ e. cc e) in
    let written = rw (from.setup, c.fresh-writer.ensures.empty) at (c.in-Ok.ensures.bytes from.fields from.wrote plain) in
    record {
      between = record { setup = c.in-Ok.ensures.setup ∙ from.setup; fields = c.in-Ok.ensures.ended; wrote = c.in-Ok.ensures.clean };
      header = written;
    }
