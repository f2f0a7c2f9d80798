use Rattle.std.proofs.Common.{rules, ◌∙◌, ap, sym}
use Rattle.tc_board.specs.Prelude.{HandView}
use Rattle.tc_book.proofs.case.main_pass.Goals as goal

pub new-hand-requires : goal.new-hand-requires
new-hand-requires c = record { board = ap (λ (h : HandView). h.board) c.requires.hand ∙ (search rules) }

pub new-log-requires-clause-of_run : goal.new-log-requires-clause-of_run
new-log-requires-clause-of_run c = ap (λ (h : HandView). h.run) (c.new-hand.ensures ∙ c.requires.hand) ∙ sym c.at_opening.ensures.run

pub new-log-requires-clause-met : goal.new-log-requires-clause-met
new-log-requires-clause-met c = ap (λ (h : HandView). h.answers) (c.new-hand.ensures ∙ c.requires.hand)

pub returns : goal.returns
returns c = search rules
