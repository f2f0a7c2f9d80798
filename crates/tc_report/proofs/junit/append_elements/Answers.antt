use Rattle.std.{proofs.{Common.{ℕ, ◌∙◌, ◌++◌, List, take, ap, sym, append_assoc}, lemmas.List.get_or_read}, specs.{Prelude.slice_get, Option.option_and_then}}
use Rattle.tc_report.{specs.{Junit.{case_element, case_elements}, declared.summary.Summary.Summary}, proofs.Counting.lines_take}
use Rattle.tc_report.proofs.junit.append_elements.Goals as goal

pub loop-at-preserved : goal.loop-at-preserved
loop-at-preserved c =
    let suite = c.args.suite.now in
    let times = c.args.times.now in
    let cases = c.args.cases.now in
    let at = c.loop-at.at in
    let s = c.index-cases-at.result in
    let before = c.args.out.now.items in
    let element : ℕ × Summary → List ℕ = λ p. case_element suite (option_and_then (λ t. t) (slice_get times p.0)) p.1 in
    let more = lines_take element cases at s c.loop-at-test.true
    ∙ ap (λ x. case_elements suite times (take at cases) ++ element (at, x)) (sym (get_or_read cases at s c.loop-at-test.true c.index-cases-at.is s)) in
    c.in_ok-append_element.ensures ∙ (ap (λ t. c.loop-at.out.items ++ case_element suite t s) c.time_at.ensures
    ∙ (ap (λ l. l ++ element (at, s)) c.loop-at.invariant ∙ (append_assoc before (case_elements suite times (take at cases)) (element (at, s)) ∙ sym (ap (λ l. before ++ l) more))))
