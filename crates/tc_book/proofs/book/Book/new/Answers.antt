use Rattle.std.proofs.Common.{rules}
use Rattle.tc_book.proofs.Keeping.{kept_at_opening}
use Rattle.tc_book.proofs.book.Book.new.Goals as goal

pub invariant_of-result : goal.invariant_of-result
invariant_of-result c =
    kept_at_opening c.args.behaviours c.in_ok-table.table.behaviours c.in_ok-table.table.history c.in_ok-table.starts.items c.in_ok-table.places.items c.from.result c.in_ok-table.table.room c.in_ok-words.words
    (search rules) (search rules) c.requires.some c.requires.few (search rules) (search rules) (search rules) (search rules) (search rules) c.in_ok-words.ensures
