use Rattle.std.proofs.Common.{◌≡◌, ◌∙◌, ◌++◌, OnOk, ap, codes, subst}
use Rattle.tc_report.{specs.{Junit.case_element, SummaryText.verdict_groups}, proofs.Writing.joined_element}
use Rattle.tc_report.proofs.junit.append_element.Goals as goal

pub returns : goal.returns
unfolding case_element
returns c =
    let old = c.args.out.now.items in
    let s = c.args.case.now in
    subst (λ l. OnOk c.append_text-4.result (c.append_text-4.new.out.items ≡ l))
    (joined_element old (codes "<testcase name=\"") s.name (codes "\" classname=\"") c.args.suite.now (codes "\"") _ (codes ">\n") _ (codes "<system-out>\n") _
    (codes "</system-out>\n</testcase>\n") _ _ _ _ _ _ _ _
    (c.in_ok-append_between.ensures.ok ∙ ap (λ l. old ++ (codes "<testcase name=\"" ++ (l ++ codes "\" classname=\""))) c.bytes.ensures.bytes)
    c.in_ok-extend_from_slice.ensures.items c.in_ok-append_text.ensures.ok c.in_ok-append_time.ensures c.in_ok-append_text-2.ensures.ok
    c.in_ok-append_end_element.ensures c.in_ok-append_text-3.ensures.ok
    (c.in_ok-append_locals.ensures ∙ ap (λ l. c.append_text-3.new.out.items ++ verdict_groups s.names l) c.as_slice.ensures))
    c.append_text-4.ensures.ok
