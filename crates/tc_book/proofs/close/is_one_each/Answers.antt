use Rattle.std.proofs.Common.{rules}
use Rattle.tc_book.proofs.close.is_one_each.Goals as goal

pub returns : goal.returns
returns c = (
  (λ yes. record { count = search rules; within = search rules; each = c.has_one_each.ensures.0 yes }),
  (λ w. c.has_one_each.ensures.1 w.each),
)
