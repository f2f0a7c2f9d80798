use Rattle.std.proofs.Common.{◌∙◌, OnErr, subst}
use Rattle.tc_stream.specs.Prelude.{AppendsPrefix}
use Rattle.tc_report.proofs.progress.Progress.print_closing.Goals as goal

pub returns-clause-part : goal.returns-clause-part
returns-clause-part g c =
    subst (λ l. OnErr c.print.result (AppendsPrefix (g.E.Write.contents c.args.self.now.writer.now) (g.E.Write.contents c.print.new.writer) l))
    (c.as_slice.ensures.value ∙ c.in_ok-append_last.ensures) c.print.ensures.part
