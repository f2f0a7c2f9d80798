use Rattle.std.proofs.Common.{◌≡◌, ◌∙◌, ◌++◌, OnOk, ap, codes, subst, unwrap_or}
use Rattle.tc_report.{specs.Junit.{case_elements, counts_attributes, junit_of}, proofs.Writing.joined_suite}
use Rattle.tc_report.proofs.junit.append_suite.Goals as goal

pub returns : goal.returns
unfolding junit_of
returns c =
    let name = unwrap_or c.args.suite.now (codes "ttrun") in
    let first = codes ">\n<testsuite name=\"" in
    let before = codes ">\n<properties>\n<property name=\"version\" value=\"" in
    let behind = codes "\"/>\n</properties>\n" in
    subst (λ l. OnOk c.append_text-2.result (c.append_text-2.new.out.items ≡ l))
    (joined_suite c.args.out.now.items (codes "<?xml version=\"1.0\" encoding=\"UTF-8\"?>\n<testsuites") (counts_attributes c.args.cases.now) first name (codes "\"") _ _
    before c.args.version.now behind _ (codes "</testsuite>\n</testsuites>\n") _ _ _ _ _ _ _ _
    c.in_ok-append_text.ensures.ok c.in_ok-append_counts.ensures
    (c.in_ok-append_between.ensures.ok ∙ ap (λ l. c.append_counts.new.out.items ++ (first ++ (l ++ codes "\""))) c.suite_name-name.ensures)
    c.in_ok-append_counts-2.ensures c.in_ok-append_stamp.ensures c.in_ok-append_time.ensures
    (c.in_ok-append_between-2.ensures.ok ∙ ap (λ l. c.append_time.new.out.items ++ (before ++ (l ++ behind))) c.as_bytes.ensures.value)
    (c.in_ok-append_elements.ensures ∙ ap (λ l. c.append_between-2.new.out.items ++ case_elements l c.as_slice.result.now c.args.cases.now) c.suite_name-name.ensures
    ∙ ap (λ l. c.append_between-2.new.out.items ++ case_elements name l c.args.cases.now) c.as_slice.ensures))
    c.append_text-2.ensures.ok
