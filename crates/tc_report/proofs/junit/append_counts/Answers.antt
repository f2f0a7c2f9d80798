use Rattle.std.{proofs.Common.{◌≡◌, ◌∙◌, ◌++◌, OnOk, ap, codes, subst}, specs.Fmt.decimal}
use Rattle.tc_report.{specs.Junit.counts_attributes, proofs.Writing.joined_counts}
use Rattle.tc_report.proofs.junit.append_counts.Goals as goal

pub returns : goal.returns
unfolding counts_attributes
returns c =
    subst (λ l. OnOk c.append_text.result (c.append_text.new.out.items ≡ l))
    (joined_counts c.args.out.now.items (codes " tests=\"") _ (codes "\" failures=\"") _ (codes "\" errors=\"") _ (codes "\" skipped=\"") _ (codes "\"") _ _ _ _
    c.in_ok-append_count.ensures
    (c.in_ok-append_count-2.ensures ∙ ap (λ n. c.append_count.new.out.items ++ (codes "\" failures=\"" ++ decimal n)) c.with_status.ensures)
    (c.in_ok-append_count-3.ensures ∙ ap (λ n. c.append_count-2.new.out.items ++ (codes "\" errors=\"" ++ decimal n)) c.with_status-2.ensures)
    (c.in_ok-append_count-4.ensures ∙ ap (λ n. c.append_count-3.new.out.items ++ (codes "\" skipped=\"" ++ decimal n)) c.with_verdict.ensures))
    c.append_text.ensures.ok
