use Rattle.std.{proofs.Common.{◌≡◌, ◌++◌, ◌∙◌, ap, sym, reverse, length, List, ℕ}, specs.Borrow.Bor}
use Rattle.tc_rules.specs.Prelude.{Entry, in_place, late, log_of}
use Rattle.tc_book.{specs.Inside.Merging.Has, proofs.{InPlace.late_table, PartOfMerge.merge-is}}
use Rattle.tc_book.proofs.merging.merge_by_run.Goals as goal

pub returns : goal.returns
returns c = λ logs has.
    let history : List Entry = c.args.table_history.now in
    let log : ℕ → List Entry = log_of logs in
    let table : List (Bor (List Entry)) = c.args.logs.now in
    let same : c.extend_from_slice.new.self.items ≡ table = c.in_ok-extend_from_slice.ensures.items ∙ ap (λ l. l ++ table) c.in_ok-rests.ensures.items in
    let rests : Has c.extend_from_slice.new.self.items log = rw same has in
    let put : c.add_history.new.all.items ≡ in_place log (reverse history) =
    c.in_ok-add_history.ensures log has rests ∙ ap (λ l. l ++ in_place log (reverse history)) c.in_ok-all.ensures.items in
    c.in_ok-add_all_late.ensures log has
    ∙ (ap (λ l. l ++ late log (length table)) put
    ∙ (ap (λ l. in_place log (reverse history) ++ l) (late_table logs (length table) has.none) ∙ sym (merge-is history logs)))
