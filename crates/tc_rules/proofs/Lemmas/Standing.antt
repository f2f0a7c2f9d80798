-- What a reader may take from a state that represents a history.
use Rattle.std.proofs.Common.{ℕ, ◌≡◌, List, subst}
use Rattle.tc_entry.specs.declared.entry.Entry.{Entry}
use Rattle.tc_rules.specs.{Legal.IsLegal, Standing.Kept, Standing.StandsFor}

-- a history that a state represents is legal
pub stands_legal : (k : Kept) (past : List Entry) → StandsFor k past → IsLegal k.behaviours past
unfolding StandsFor
stands_legal k past stands = stands.legal

-- the same, for the number of behaviours that the state was made with
pub legal_for : (n : ℕ) (k : Kept) (past : List Entry) → k.behaviours ≡ n → StandsFor k past → IsLegal n past
legal_for n k past same stands = subst (λ m. IsLegal m past) same (stands_legal k past stands)
