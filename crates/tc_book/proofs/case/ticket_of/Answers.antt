use Rattle.std.proofs.Common.{rules, ◌∙◌, ap}
use Rattle.tc_board.specs.Prelude.{HandView}
use Rattle.tc_book.proofs.case.ticket_of.Goals as goal

pub new-hand-requires : goal.new-hand-requires
new-hand-requires c = record { board = ap (λ (h : HandView). h.board) c.requires.hand ∙ (search rules) }

pub new-requires-clause-run : goal.new-requires-clause-run
new-requires-clause-run c = ap (λ (h : HandView). h.run) (c.new-hand.ensures ∙ c.requires.hand)

pub new-requires-clause-answers : goal.new-requires-clause-answers
new-requires-clause-answers c = ap (λ (h : HandView). h.answers) (c.new-hand.ensures ∙ c.requires.hand)
