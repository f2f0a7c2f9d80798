use Rattle.std.proofs.Common.{◌∙◌, ◌++◌, take, get_or, ap, sym, append_assoc}
use Rattle.tc_rules.specs.Prelude.{Verdict}
use Rattle.tc_report.{specs.Report.local_lines, proofs.Counting.{lines_take, local_line}}
use Rattle.tc_report.proofs.report.append_locals.Goals as goal

pub loop-comp-preserved : goal.loop-comp-preserved
loop-comp-preserved c =
    let locals = c.args.locals.now in
    let comp = c.loop-comp.comp in
    let before = c.args.out.now.items in
    let more = lines_take (λ p. local_line p.0 p.1) locals comp Verdict.None c.loop-comp-test.true in
    c.in_ok-append_local.ensures ∙
    (ap (λ l. l ++ local_line comp (get_or locals comp Verdict.None)) c.loop-comp.invariant ∙
    (append_assoc before (local_lines (take comp locals)) (local_line comp (get_or locals comp Verdict.None)) ∙ sym (ap (λ l. before ++ l) more)))
