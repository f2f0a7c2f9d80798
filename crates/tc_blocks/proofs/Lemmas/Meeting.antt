-- The runs that lines are about.
use Rattle.std.proofs.Common.{ℕ, ◌≡◌, ◌∙◌, ◌||◌, Bool, true, false, List, [], ◌∷◌, ◌++◌, ap, refl}
use Rattle.tc_blocks.specs.{Line.{is_about, is_met}, Met.AreMet, declared.{line.Line.Line, met.MetRuns.MetRuns}}

swap : (a b c : Bool) → (a || (b || c)) ≡ (b || (a || c))
swap true true c = refl
swap true false c = refl
swap false b c = refl

-- a line counts the same before other lines and after them
pub met_last : (b : ℕ) (ls : List Line) (l : Line) → is_met b (l ∷ ls) ≡ is_met b (ls ++ l ∷ [])
met_last b [] l = refl
met_last b (x ∷ xs) l = swap (is_about b l) (is_about b x) (is_met b xs) ∙ ap (λ (t : Bool). is_about b x || t) (met_last b xs l)

pub met_after : (m : MetRuns) (ls new : List Line) (l : Line) → new ≡ ls ++ l ∷ [] → AreMet m (l ∷ ls) → AreMet m new
met_after m ls new l added kept = rw added (λ b d few. kept b d few ∙ met_last b ls l)
