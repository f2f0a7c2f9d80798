use Rattle.std.proofs.Common.{ℕ, ◌≡◌, ◌∙◌, ◌++◌, Bool, false, OnOk, Option, Some, ap, codes, subst, sym}
use Rattle.jiff_fmt.specs.Text.{datetime_text}
use Rattle.tc_report.specs.Junit.{stamp_attribute}
use Rattle.tc_report.proofs.junit.append_stamp.Goals as goal

pub returns : goal.returns
returns c =
    let second = c.in-Some.second in
    let added = c.append_between in
    let options = c.precision.ensures ∙ ap (λ (o : Bool × ℕ × Option ℕ). (o.0, o.1, Some 0)) c.new.ensures in
    let text : c.datetime_text-text.result.bytes ≡ datetime_text false 84 (Some 0) second =
    c.datetime_text-text.ensures ∙ ap (λ (o : Bool × ℕ × Option ℕ). datetime_text o.0 o.1 o.2 second) options in
    subst (λ b. OnOk added.result (added.new.out.items ≡ c.args.out.now.items ++ stamp_attribute b)) (sym c.in-Some.is)
    (subst (λ l. OnOk added.result (added.new.out.items ≡ c.args.out.now.items ++ (codes " timestamp=\"" ++ (l ++ codes "\"")))) (c.as_bytes.ensures.value ∙ c.as_str.ensures.value ∙ text) added.ensures.ok)
