use Rattle.tc_book.proofs.close.is_agreed.Goals as goal

pub returns : goal.returns
returns c = (
  (λ yes. rw (← c.run.ensures, ← c.record_of.ensures, ← c.log.ensures) (c.agrees.ensures.0 yes)),
  (λ w. c.agrees.ensures.1 (rw (c.record_of.ensures, c.run.ensures, c.log.ensures) w)),
)
