-- The run that started each run, and what the run that an entry starts is given.
use Rattle.std.{proofs.{Common.{ℕ, zero, suc, ◌≡◌, ◌≢◌, ◌==◌, ◌<◌, if◌then◌else◌, Bool, true, false, Option, Some, None, All, List, [], ◌∷◌, get_or, length, map, refl, ap, ◌∙◌, arith, set, get_or-set_other, get_or-set_same}, lemmas.{Bool.Decides.nat_tests, List.{Elements.All-get_or, length-map, map-set}}}, specs.{Global.Vec}}
use Rattle.tc_rules.{specs.Prelude.{Comp, Op, Run, start}, proofs.Lemmas.Deciding.{equal_if}}
use Rattle.tc_model.specs.{Inside.{AreWays, IsGivenOnly, IsStart, given_in}, declared.given.{Start.Start, Ways.Ways}}

-- ---- the opening

-- no run started it
abbrev pub IsNoStart : Start → Type 0
IsNoStart s = (s.by ≡ None) × (s.there ≡ 0)

-- it is given nothing
abbrev pub IsNothing : Vec Comp → Type 0
IsNothing v = v.items ≡ []

-- that is what is known of each run at the opening
no_start : (n b : ℕ) (s : Start) → IsNoStart s → IsStart n [] b s
no_start n b s h = by_start s.by s.there h.0 h.1
  where
    by_start : (o : Option Run) (t : ℕ) → o ≡ None → t ≡ 0 → IsStart n [] b (record { by = o; there = t })
    by_start None t none nought = rw nought refl
    by_start (Some by) t none nought = absurd cc

-- nor is any run given something then
nothing_in : (all : List (Vec Comp)) (b : ℕ) → All IsNothing all → given_in all b ≡ []
nothing_in [] b h = refl
nothing_in (v ∷ all) zero h = ap (map (λ (c : Comp). c.0)) (h 0 v (omega arith))
nothing_in (v ∷ all) (suc b) h = nothing_in all b (λ k d less. h (suc k) d (omega arith))

-- both of each of n runs
pub opening_ways : (n : ℕ) (w : Ways) → length w.starts.items ≡ n → length w.given.items ≡ n → All IsNoStart w.starts.items → All IsNothing w.given.items → AreWays n [] w
opening_ways n w as_many_starts as_many_given none nothing = record {
  starts = record {
    as_many = as_many_starts;
    each = λ b d less. no_start n b (get_or w.starts.items b d) (All-get_or IsNoStart w.starts.items b d (omega arith) none);
  };
  as_many = as_many_given;
  given = λ b less. nothing_in w.given.items b nothing;
}

-- ---- one more entry

-- an operation that is no Start starts nothing
pub starts_nothing : (op : Op) → ((c : Comp) (run : Run) (args : List Comp) → op ≡ Op.Start c run args → ⊥) → start op ≡ None
starts_nothing (Op.Start c run args) other = absurd (other c run args refl)
starts_nothing _ other = refl

-- ---- what a run is given in place of what it was given

-- what it is given now is at its place, and nothing else has changed
pub given_only : (r : ℕ) (comps : List Comp) (before : List (Vec Comp)) (v : Vec Comp) → r < length before → v.items ≡ comps → IsGivenOnly r comps before (set before r v)
given_only r comps before v within is b less = rw (map-set (λ (x : Vec Comp). map (λ (c : Comp). c.0) x.items) before r v) (by_run (r == b) refl)
  where
    lists : List (List ℕ)
    lists = map (λ (x : Vec Comp). map (λ (c : Comp). c.0) x.items) before

    by_run : (t : Bool) → (r == b) ≡ t → get_or (set lists r (map (λ (c : Comp). c.0) v.items)) b [] ≡ (if t then map (λ (c : Comp). c.0) comps else get_or lists b [])
    by_run true k =
        let here : r ≡ b = equal_if r b k in
        let inside : r < length lists = omega (arith, length-map before (λ (x : Vec Comp). map (λ (c : Comp). c.0) x.items)) in
        rw (← here) (get_or-set_same lists r _ [] inside ∙ ap (map (λ (c : Comp). c.0)) is)
    by_run false k =
        let other : b ≢ r = grind (arith, nat_tests) in
        get_or-set_other lists r b _ [] other
