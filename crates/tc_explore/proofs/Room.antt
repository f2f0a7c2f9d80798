-- The steps of scripts together.
use Rattle.std.proofs.Common.{ℕ, ◌≡◌, ◌+◌, ◌<◌, List, [], ◌∷◌, ◌++◌, length, take, get_or, refl, ap, ◌∙◌, arith}
use Rattle.std.proofs.lemmas.List.{take_more}
use Rattle.tc_step.specs.Prelude.{ScriptView}
use Rattle.tc_explore.specs.Limits.{room_of}

room_last : (xs : List ScriptView) (x : ScriptView) → room_of (xs ++ x ∷ []) ≡ room_of xs + length x.steps
room_last [] x = refl
room_last (y ∷ xs) x = ap (λ n. n + length y.steps) (room_last xs x) ∙ omega arith

-- one script more
pub room_more : (xs : List ScriptView) (i : ℕ) (d : ScriptView) → i < length xs → room_of (take (i + 1) xs) ≡ room_of (take i xs) + length (get_or xs i d).steps
room_more xs i d near = ap room_of (take_more xs i d near) ∙ room_last (take i xs) (get_or xs i d)
