use Rattle.std.{proofs.Common.{◌≡◌, ◌∙◌, ap, List}, specs.Borrow.Bor}
use Rattle.tc_rules.specs.Prelude.{Entry}
use Rattle.tc_book.proofs.InPlace.{late_none, late_step}
use Rattle.tc_book.proofs.merging.add_all_late.Goals as goal

pub loop-entries-init : goal.loop-entries-init
loop-entries-init c = λ log has. late_none log _

pub loop-entries-preserved : goal.loop-entries-preserved
loop-entries-preserved c = λ log has.
    let here : c.entries-item.result.now ≡ log c.loop-entries.entries-index =
    ap (λ (b : Bor (List Entry)). b.now) c.entries-item.is ∙ has.each c.loop-entries.entries-index c.entries-item.result c.loop-entries-test.true in
    late_step log c.loop-entries.entries-index _ _ _ (c.loop-entries.invariant log has) (rw here at c.in_ok-add_late.ensures)
