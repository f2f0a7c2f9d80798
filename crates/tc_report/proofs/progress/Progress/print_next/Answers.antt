use Rattle.std.proofs.Common.{rules, ◌≡◌, OnErr, subst}
use Rattle.tc_stream.specs.Prelude.{AppendsPrefix}
use Rattle.tc_report.specs.Progress.{begun_text}
use Rattle.tc_report.proofs.progress.Progress.print_next.Goals as goal

pub returns-clause-part : goal.returns-clause-part
returns-clause-part g c =
    let p = c.args.self.now in
    let text : c.as_slice.result.now ≡ begun_text (p.shown.only, p.shown.names.now) p.tally.cases = search rules in
    subst (λ l. OnErr c.print.result (AppendsPrefix (g.E.Write.contents p.writer.now) (g.E.Write.contents c.print.new.writer) l)) text c.print.ensures.part
