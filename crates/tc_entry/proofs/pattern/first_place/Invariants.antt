use Rattle.std.proofs.Common.{◌≡◌, ◌++◌, ◌∷◌, ◌+◌, false, true, length, map}
use Rattle.tc_entry.proofs.pattern.first_place.Given as goal

-- the places so far and those of the rest are those of the name
abbrev pub invariant-loop-others : goal.invariant-loop-others
invariant-loop-others l =
    (l.places.items ++ map (λ b. false) l.rest ≡ true ∷ map (λ b. false) l.fn.name) × (length l.places.items + length l.rest ≡ length l.fn.name + 1)

abbrev pub decreases-loop-others : goal.decreases-loop-others
decreases-loop-others l = length l.rest
