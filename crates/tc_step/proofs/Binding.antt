-- When the places of steps are bound.
use Rattle.std.proofs.{Common.{ℕ, List, ◌∷◌, All}, lemmas.List.Elements.{All-cons, All-head, All-tail}}
use Rattle.tc_step.specs.{Steps.IsBound, declared.place.Place.Place}

-- all of a list are bound if its first is and the others are
pub cons_rules : (count : ℕ) (p : Place ℕ) (ps : List (Place ℕ))
    → (IsBound count p → All (IsBound count) ps → All (IsBound count) (p ∷ ps))
    × (All (IsBound count) (p ∷ ps) → IsBound count p)
    × (All (IsBound count) (p ∷ ps) → All (IsBound count) ps)
cons_rules count p ps = (All-cons (IsBound count) p ps, All-head (IsBound count) p ps, All-tail (IsBound count) p ps)
