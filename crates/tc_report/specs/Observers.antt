-- The observer, which is given each finished test case, one that keeps them, and the stopping rule. An observer says by
-- `takes` what one test case does to it, and how it is answered.
use Rattle.std.specs.{Prelude.{ℕ, ◌≡◌, ◌+◌, Bool, true, List, [], ◌∷◌, ◌<◌, ◌++◌, length, ◌≤◌, IsSomeAnd, Option}, Global.Vec, Vec.{vec_capacity, vec_len}}
use Rattle.tc_rules.specs.Prelude.{Verdict, level_of}
use Rattle.tc_report.specs.declared.results.{Finished.Finished, Kept.Kept}

module _ {O : Type 0} (takes : O → Finished → O → Bool → Type 0) where
  -- the observer was given each of these test cases once, in their order, and let the campaign continue each time
  abbrev pub AreTaken : List Finished → O → O → Type 0
  AreTaken [] before after = after ≡ before
  AreTaken (f ∷ fs) before after = (between : O) × takes before f between true × AreTaken fs between after

-- what a test case does to one that keeps them: if it has room for one more, the campaign continues, the test case is
-- kept after the others, and the room stays
abbrev pub Keeps : Kept → Finished → Kept → Bool → Type 0
Keeps before f after goes_on =
    length before.finished.items < vec_capacity before.finished → (goes_on ≡ true) × (after.finished.items ≡ before.finished.items ++ f ∷ [])
    × (vec_capacity after.finished ≡ vec_capacity before.finished)

-- what measuring that many test cases does to the times that are kept: if there is room for theirs, these come after the
-- others, and the room stays
abbrev pub KeepsTimes : Vec (Option (ℕ × ℕ)) → ℕ → Vec (Option (ℕ × ℕ)) → Type 0
KeepsTimes before n after =
    vec_len before + n ≤ vec_capacity before
    → (times : List (Option (ℕ × ℕ))) × (length times ≡ n) × (after.items ≡ before.items ++ times) × (vec_capacity after ≡ vec_capacity before)

-- the verdict is stop_on or worse; without a stopping rule none is
abbrev pub IsMet : Option Verdict → Verdict → Type 0
IsMet stop_on v = IsSomeAnd stop_on (λ s. level_of s ≤ level_of v)
