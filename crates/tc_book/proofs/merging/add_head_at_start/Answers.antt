use Rattle.std.proofs.Common.{◌≡◌, ◌∙◌, ◌++◌, ap, sym, subst, List, Some, OnOk}
use Rattle.tc_rules.specs.Prelude.{Entry, verdict_calls_after, started}
use Rattle.tc_book.{specs.Inside.Merging.head_at_start, proofs.InPlace.at-run}
use Rattle.tc_book.proofs.merging.add_head_at_start.Goals as goal

pub returns-in-Some : goal.returns-in-Some
returns-in-Some c = λ log has.
    let got : c.at_run.result.now ≡ log c.in-Some.run'.0 =
    at-run c.args.logs.now log c.in-Some.run'.0 c.at_run.result c.at_run.result.now has (c.at_run.ensures.within c.at_run.result) c.at_run.ensures.beyond in
    let is : started c.args.entry.now ≡ Some c.in-Some.run' = sym c.started.ensures ∙ c.in-Some.is in
    let same : verdict_calls_after 0 c.at_run.result.now ≡ head_at_start log (started c.args.entry.now) = ap (verdict_calls_after 0) got ∙ sym (ap (head_at_start log) is) in
    subst (λ (x : List Entry). OnOk c.add_head.result (c.add_head.new.all.items ≡ c.args.all.now.items ++ x)) same c.add_head.ensures
