use Rattle.std.proofs.Common.{rules, ◌≡◌, false, true}
use Rattle.tc_book.{specs.Inside.ArePlaced, proofs.{Wholeness.{AtClose, torn_placed}, book.Book.close.Goals.{then-not-are_placed-via-else-not-are_placed+then-not-all_agreed, then-not-are_placed-via-then-not-are_placed}}}
use Rattle.tc_book.proofs.book.Book.close.Goals as goal

pub returns-then-not-are_placed-clause-torn : goal.returns-then-not-are_placed-clause-torn
returns-then-not-are_placed-clause-torn c = λ torn m. elim c.then-not-are_placed.branch [
  | then-not-are_placed-via-then-not-are_placed w ↦
      let at : AtClose c.args.self.now.behaviours c.len-behaviours.result c.self.inside.starts.items c.deref.result.now c.self.inside.table.history c.args.self.now.history c.args.lefts.items c.deref-2.result.now =
      record { same_n = search rules; same_starts = search rules; same_history = search rules; same_lefts = search rules; known = c.self.invariant.each_start } in
      let q : false ≡ true = w.if-not-are_placed.ensures.1 (torn_placed c.args.self.now _ _ _ _ _ _ at m) in cc
  | then-not-are_placed-via-else-not-are_placed+then-not-all_agreed w ↦
      let q : false ≡ true = w.if-not-all_agreed.ensures.1 (search (rules, m.agreed)) in cc
]

pub report_of_parts-requires-clause-back : goal.report_of_parts-requires-clause-back
report_of_parts-requires-clause-back c =
    let same : c.len-behaviours.result ≡ c.self.inside.table.behaviours = search rules in
    let placed : ArePlaced c.len-behaviours.result c.self.inside.starts.items c.args.lefts.items = search rules in
    record {
      placed = search rules;
      logs = record { as_many = search rules; each = search rules };
      known = search rules;
      others = search rules;
    }
