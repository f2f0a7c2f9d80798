-- Lemmas on the order of verdicts.
use Rattle.std.{proofs.{Common.{ℕ, suc, ◌≡◌, ◌≢◌, ◌+◌, ◌<◌, ◌≤◌, if◌then◌else◌, nat_lt, Bool, true, false, List, [], ◌∷◌, ◌++◌, length, get_or, take, All, Contains, refl, ap, sym, ◌∙◌, arith}, lemmas.Bool.Decides.nat_tests, lemmas.List.Elements.All-from_recursion, lemmas.List.take_more}, specs.List.AllByRecursion as EachOf}
use Rattle.tc_verdict.specs.{Verdict.level_of, Verdict.worse, Verdict.worst, declared.verdict.Verdict.Verdict}

abbrev larger : ℕ → ℕ → ℕ
larger m n = if nat_lt m n then n else m

pub level-worse : (a b : Verdict) → level_of (worse a b) ≡ larger (level_of a) (level_of b)
level-worse a b = by_test (nat_lt (level_of a) (level_of b)) a b
  where
    by_test : (t : Bool) (a b : Verdict) → level_of (if t then b else a) ≡ (if t then level_of b else level_of a)
    by_test true a b = refl
    by_test false a b = refl

same_level : (a b : Verdict) → level_of a ≡ level_of b → a ≡ b
same_level Verdict.None Verdict.None e = refl
same_level Verdict.Pass Verdict.Pass e = refl
same_level Verdict.Inconc Verdict.Inconc e = refl
same_level Verdict.Fail Verdict.Fail e = refl
same_level Verdict.Error Verdict.Error e = refl
same_level _ _ e = absurd cc

larger_later : (w x y : ℕ) → x ≤ y → larger w y ≡ larger (larger w x) y
larger_later w x y h = grind (arith, nat_tests)

larger_swap : (w x y : ℕ) → larger (larger w y) x ≡ larger (larger w x) y
larger_swap w x y = grind (arith, nat_tests)

-- a better verdict that was there before makes no difference
pub worse_later : (w x y : Verdict) → level_of x ≤ level_of y → worse w y ≡ worse (worse w x) y
worse_later w x y h =
    same_level (worse w y) (worse (worse w x) y)
    (level-worse w y ∙ (larger_later (level_of w) (level_of x) (level_of y) h ∙ sym (level-worse (worse w x) y ∙ ap (λ n. larger n (level_of y)) (level-worse w x))))

pub worse_swap : (w x y : Verdict) → worse (worse w y) x ≡ worse (worse w x) y
worse_swap w x y =
    same_level (worse (worse w y) x) (worse (worse w x) y)
    ((level-worse (worse w y) x ∙ ap (λ n. larger n (level_of x)) (level-worse w y))
    ∙ (larger_swap (level_of w) (level_of x) (level_of y) ∙ sym (level-worse (worse w x) y ∙ ap (λ n. larger n (level_of y)) (level-worse w x))))

pub none_no_worse : (w : Verdict) → worse w Verdict.None ≡ w
none_no_worse Verdict.None = refl
none_no_worse _ = refl

-- a verdict gets no better
pub worse_left : (a b : Verdict) → level_of a ≤ level_of (worse a b)
worse_left a b = by_test (nat_lt (level_of a) (level_of b)) a b refl
  where
    by_test : (t : Bool) (a b : Verdict) → nat_lt (level_of a) (level_of b) ≡ t → level_of a ≤ level_of (if t then b else a)
    by_test true a b e = grind (arith, nat_tests)
    by_test false a b e = omega arith

pub worse_right : (a b : Verdict) → level_of b ≤ level_of (worse a b)
worse_right a b = by_test (nat_lt (level_of a) (level_of b)) a b refl
  where
    by_test : (t : Bool) (a b : Verdict) → nat_lt (level_of a) (level_of b) ≡ t → level_of b ≤ level_of (if t then b else a)
    by_test true a b e = omega arith
    by_test false a b e = grind (arith, nat_tests)

-- one more at the end
pub worst-more : (vs : List Verdict) (v : Verdict) → worst (vs ++ v ∷ []) ≡ worse (worst vs) v
worst-more [] v = refl
worst-more (x ∷ xs) v = ap (λ w. worse w x) (worst-more xs v) ∙ worse_swap (worst xs) x v

each_no_worse : (vs : List Verdict) (top : Verdict) → level_of (worst vs) ≤ level_of top → EachOf (λ v. level_of v ≤ level_of top) vs
each_no_worse [] top h = tt
each_no_worse (x ∷ xs) top h =
    let right = worse_right (worst xs) x in
    let left = worse_left (worst xs) x in
    let here : level_of x ≤ level_of top = omega arith in
    let below : level_of (worst xs) ≤ level_of top = omega arith in
    (here, each_no_worse xs top below)

-- none of a list is worse than the worst
pub worst_is_greatest : (vs : List Verdict) → All (λ v. level_of v ≤ level_of (worst vs)) vs
worst_is_greatest vs = All-from_recursion _ vs (each_no_worse vs (worst vs) (omega arith))

-- the worst of a list that has one is in it
pub worst_is_member : (vs : List Verdict) → vs ≢ [] → Contains vs (worst vs)
worst_is_member [] h = absurd (h refl)
worst_is_member (x ∷ []) h = (0, omega arith, by_none x)
  where
    by_none : (x : Verdict) → get_or (x ∷ []) 0 (worse Verdict.None x) ≡ worse Verdict.None x
    by_none Verdict.None = refl
    by_none _ = refl
worst_is_member (x ∷ y ∷ ys) h =
    by_test (nat_lt (level_of (worst (y ∷ ys))) (level_of x)) (worst_is_member (y ∷ ys) (λ e. absurd cc))
  where
    by_test : (t : Bool) → Contains (y ∷ ys) (worst (y ∷ ys)) → Contains (x ∷ y ∷ ys) (if t then x else worst (y ∷ ys))
    by_test true c = (0, omega arith, refl)
    by_test false c = (suc c.0, omega (arith, c.1), c.2)

-- one more of a list
pub worst_take : (vs : List Verdict) (i : ℕ) (d : Verdict) → i < length vs → worst (take (i + 1) vs) ≡ worse (worst (take i vs)) (get_or vs i d)
worst_take vs i d h = ap worst (take_more vs i d h) ∙ worst-more (take i vs) (get_or vs i d)
