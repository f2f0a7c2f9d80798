-- The hands of a new board.
use Rattle.std.proofs.Common.{ℕ, zero, suc, ◌+◌, ◌≡◌, ◌∙◌, ◌++◌, ◌∷◌, List, [], refl, subst, sym}
use Rattle.tc_board.specs.Prelude.{HandView, new_hands}

-- each hand is of the same board as this one
abbrev are_of : HandView → List HandView → Type 0
are_of one [] = Unit {0}
are_of one (h ∷ hands) = (h.board ≡ one.board) × are_of one hands

each : (one : HandView) (run n : ℕ) → are_of one (new_hands one.board run n)
each one run zero = tt
each one run (suc n) = (refl, each one (run + 1) n)

last_of : (one : HandView) (hands : List HandView) (h : HandView) → are_of one (hands ++ h ∷ []) → h.board ≡ one.board
last_of one [] h all = all.0
last_of one (other ∷ hands) h all = last_of one hands h all.1

-- the last of them is of the same board as this one
pub last_hand : (one : HandView) (n : ℕ) (all rest : List HandView) (last : HandView) → all ≡ new_hands one.board 0 n → all ≡ rest ++ last ∷ [] → last.board ≡ one.board
last_hand one n all rest last new is = last_of one rest last (subst (are_of one) (sym new ∙ is) (each one 0 n))
