-- The questions to a gate, one after another.
use Rattle.std.proofs.{Common.{ℕ, suc, ◌≡◌, ◌<◌, ◌+◌, ◌-◌, ◌∙◌, Bool, true, subst, List, ◌∷◌, ◌++◌, length, get_or, map, sym, ap, arith}, Math.Seq.get_or-append_seam, lemmas.List.{length-append, length-map}}
use Rattle.tc_rules.specs.Prelude.{Run}
use Rattle.tc_exec.specs.{Gates.{IsPassed, IsStopped}, Inside.AreAbove}

-- the run after those of the workers that were made
pub next_above : {W : Type 0} (run : W → Run) (ws : List W) (rest left all : List Run) (next : Run) → AreAbove all → map run ws ++ rest ≡ all → rest ≡ next ∷ left →
    (next ≡ record { 0 = length ws + 1 }) × (length ws < length all)
next_above run ws rest left all next above whole first =
    let is : all ≡ map run ws ++ next ∷ left = sym whole ∙ ap (λ rs. map run ws ++ rs) first in
    let within : length ws < length all = omega (arith, ap length is, length-append (map run ws) (next ∷ left), length-map ws run) in
    let here : get_or (map run ws ++ next ∷ left) (length ws) next ≡ next =
    subst (λ n. get_or (map run ws ++ next ∷ left) n next ≡ next) (length-map ws run) (get_or-append_seam (map run ws) next left next) in
    let number : next.0 ≡ length ws + 1 = ap (λ (r : Run). r.0) (sym here) ∙ ap (λ (rs : List Run). (get_or rs (length ws) next).0) (sym is) ∙ above (length ws) next within in
    (ap (λ m. let r : Run = record { 0 = m } in r) number, within)

module _ {G : Type 0} (asks : G → Run → G → Bool → Type 0) where
  -- one run more was allowed
  pub passed_more : (n m : ℕ) (asked : Run) (answer : Bool) (before between after : G) → IsPassed asks n before between →
      asks between asked after answer → answer ≡ true → asked ≡ record { 0 = n + 1 } → m ≡ n + 1 → IsPassed asks m before after
  passed_more n m asked answer before between after passed one allowed own more =
      let at_last : asks between (record { 0 = n + 1 }) after true = subst (λ r. asks between r after true) own (subst (λ a. asks between asked after a) allowed one) in
      let count : m ≡ suc n = omega (arith, more) in
      rw count (between, passed, at_last)

  -- one run more was asked about, and it has no worker
  pub stopped_at : (n all : ℕ) (asked : Run) (answer : Bool) (before between after : G) → IsPassed asks n before between →
      asks between asked after answer → asked ≡ record { 0 = n + 1 } → n < all → IsStopped asks all before after
  stopped_at n all asked answer before between after passed one own fewer = record {
    allowed = n;
    fewer = fewer;
    between = between;
    passed = passed;
    allowed_last = answer;
    at_last = subst (λ r. asks between r after answer) own one;
  }

  -- of n behaviours each except that of run 0 has a worker
  pub passed_others : (n m : ℕ) (before after : G) → IsPassed asks m before after → m + 1 ≡ n → IsPassed asks (n - 1) before after
  passed_others n m before after passed others = subst (λ k. IsPassed asks k before after) (omega (arith, others)) passed

  pub stopped_others : (n m : ℕ) (before after : G) → IsStopped asks m before after → m + 1 ≡ n → IsStopped asks (n - 1) before after
  stopped_others n m before after stopped others = subst (λ k. IsStopped asks k before after) (omega (arith, others)) stopped
