-- What only the matching of patterns needs: no public clause rests on a word of this file.
use Rattle.std.specs.Prelude.{ℕ, ◌==◌, ◌&&◌, ◌||◌, Bool, false, List, [], ◌∷◌}

-- each of these places, by whether it or one before it is reached
abbrev pub behind : Bool → List Bool → List Bool
behind reached [] = []
behind reached (place ∷ places) = (reached || place) ∷ behind (reached || place) places

-- the places of a name after this byte, if one of these is before it
abbrev pub passed : Bool → ℕ → List ℕ → List Bool → List Bool
passed reached byte [] places = reached ∷ []
passed reached byte (b ∷ bs) [] = reached ∷ []
passed reached byte (b ∷ bs) (place ∷ places) = reached ∷ passed (place && (byte == b)) byte bs places

-- at one of these places of a name the test holds of what follows it
abbrev pub any_of : (List ℕ → Bool) → List Bool → List ℕ → Bool
any_of test [] name = false
any_of test (place ∷ places) [] = place && test []
any_of test (place ∷ places) (b ∷ bs) = (place && test (b ∷ bs)) || any_of test places bs
