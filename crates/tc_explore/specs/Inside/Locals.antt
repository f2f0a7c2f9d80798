-- What a search for local verdicts has met and found.
use Rattle.std.specs.Prelude.{ℕ, ◌≡◌, ◌<◌, ◌∷◌, true, false, Some, List, length, slice_get}
use Rattle.tc_rules.specs.Prelude.{Entry, Case, past_of, is_over, is_active}
use Rattle.tc_course.specs.Prelude.{IsTurn}
use Rattle.tc_explore.specs.{Found.AreLocals, Inside.{Seen.{AreMet, IsMetFurther}, Twins.{HasLocals, IsGoing, IsMore, IsTwin}}, declared.{search.Met.Met, search_locals.LocalSearch.LocalSearch}}

-- such a search: what it has found is so
pub record IsLocalSearch (s : LocalSearch) : Type 0 where
  pub met : AreMet true (λ t. IsGoing s.met.scripts.now t) s.met
  pub sound : AreLocals s.met.scripts.now s.marks.found.items

-- it continues: what it has met and found stays so
pub record IsLocalFurther (before after : LocalSearch) : Type 0 where
  pub search : IsLocalSearch after
  pub met : IsMetFurther before.met after.met
  pub found : IsMore before.marks.found.items after.marks.found.items

-- if none was left out one of the states is that after r
abbrev pub IsTwinSeen : Met → List Entry → Type 0
IsTwinSeen met r = met.is_whole ≡ true → (i : ℕ) × (t : Case) × (slice_get met.states.items i ≡ Some t) × IsTwin (past_of t) r

-- after this course the local verdicts are found, or the state is seen
pub record IsLocalsAfter (s : LocalSearch) (r : List Entry) : Type 0 where
  pub over : is_over r ≡ true → HasLocals s.marks.found.items r
  pub more : is_over r ≡ false → IsTwinSeen s.met r

-- so it is after the next call of run b, if it continues
abbrev pub IsLocalsRun : LocalSearch → List Entry → ℕ → Type 0
IsLocalsRun s q b = (e : Entry) → e.caller.0 ≡ b → IsTurn s.met.scripts.now q e → is_active q b ≡ true → IsLocalsAfter s (e ∷ q)

-- so it is of each of n runs
abbrev pub AreLocalsRuns : LocalSearch → List Entry → ℕ → Type 0
AreLocalsRuns s q n = (b : ℕ) → b < n → IsLocalsRun s q b

-- so it is of each run of its first n states
abbrev pub AreLocalsClosed : LocalSearch → ℕ → Type 0
AreLocalsClosed s n =
    (i : ℕ) → i < n → (t : Case) → slice_get s.met.states.items i ≡ Some t → AreLocalsRuns s (past_of t) (length s.met.scripts.now)
