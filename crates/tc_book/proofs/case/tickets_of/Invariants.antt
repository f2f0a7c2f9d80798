use Rattle.std.{proofs.Common.{◌≡◌, ℕ, ◌<◌, ◌+◌, ◌-◌, length, get_or}, specs.Arc.arc_value}
use Rattle.tc_rules.specs.Prelude.{Run}
use Rattle.tc_board.specs.Prelude.{new_hands}
use Rattle.tc_book.proofs.case.tickets_of.Given as goal

-- the tickets so far are those of the runs below k, and the hands left are those from k on
abbrev pub invariant-loop-k : goal.invariant-loop-k
invariant-loop-k l =
    (length l.tickets.items + 1 ≡ l.k) × ((j : ℕ) (d : Run) → j + 1 < l.k → (get_or l.tickets.items j d).0 ≡ j + 1)
    × (l.hands.items ≡ new_hands (arc_value l.board) l.k (l.behaviours - l.k))
