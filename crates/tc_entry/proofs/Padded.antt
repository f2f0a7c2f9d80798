-- A list whose unused places are filled.
use Rattle.std.proofs.{Common.{ℕ, ◌≡◌, ◌<◌, ◌+◌, ◌-◌, ◌++◌, ◌∙◌, List, ap, arith, drop, length, length-append, refl, subst, sym, take}, lemmas.Grind.{common_steps, take-set_at}, lemmas.List.{drop-replicate, drop-set-lt, length-replicate, take-append-drop}, Math.Seq.{drop-append-add, take-append_seam}}
use Rattle.std.specs.Prelude.{replicate, set}

-- the first unused place is written
pub one_more : {A : Type 0} (cs : List A) (n k : ℕ) (x z : A) → n < k → length (take n cs) ≡ n → cs ≡ take n cs ++ replicate (k - n) z
    → (length (take (n + 1) (set cs n x)) ≡ n + 1) × (set cs n x ≡ take (n + 1) (set cs n x) ++ replicate (k - (n + 1)) z)
one_more cs n k x z few used filled =
    let as_many = ap length filled in
    let unused = replicate (k - n) z in
    let written = take-set_at cs n (n + 1) x refl (grind (arith, length-append, length-replicate, as_many, used)) in
    let beyond = ap (drop (n + 1)) filled ∙ ap (λ m. drop (m + 1) (take n cs ++ unused)) (sym used) ∙ drop-append-add (take n cs) unused 1
    ∙ drop-replicate 1 (k - n) z ∙ ap (λ m. replicate m z) (omega arith) in (
      ap length written ∙ grind (arith, common_steps, used),
      sym (take-append-drop (n + 1) (set cs n x)) ∙ ap (λ l. take (n + 1) (set cs n x) ++ l) (drop-set-lt (n + 1) cs n x (omega arith) ∙ beyond),
    )

-- what such a list keeps of its used places
pub kept : {A : Type 0} (P : List A → Type 0) (bs cs : List A) (k : ℕ) (z : A) → cs ≡ bs ++ replicate (k - length bs) z → P bs
    → P (take (length bs) cs) × (length (take (length bs) cs) ≡ length bs) × (cs ≡ take (length bs) cs ++ replicate (k - length bs) z)
kept P bs cs k z is holds =
    let back = ap (take (length bs)) is ∙ take-append_seam bs (replicate (k - length bs) z) in
    (subst P (sym back) holds, ap length back, is ∙ ap (λ l. l ++ replicate (k - length bs) z) (sym back))
