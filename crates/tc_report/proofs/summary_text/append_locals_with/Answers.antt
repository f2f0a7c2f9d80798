use Rattle.std.proofs.{Common.{◌≡◌, ◌∙◌, ◌++◌, OnOk, ap, map, subst}, lemmas.Simd.map-map}
use Rattle.tc_report.specs.{InWords.component_in, SummaryText.verdict_group}
use Rattle.tc_report.proofs.summary_text.append_locals_with.Goals as goal

pub returns : goal.returns
returns c =
    let name = component_in c.args.names.now in
    subst (λ ts. OnOk c.append_members.result (c.append_members.new.out.items ≡ c.args.out.now.items ++ verdict_group c.args.verdict ts))
    (ap (map name) c.in_ok-members.ensures ∙ map-map name (λ p. p.0) _)
    (rw c.as_slice.ensures.value at c.append_members.ensures)
