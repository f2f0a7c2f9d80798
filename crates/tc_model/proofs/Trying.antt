-- What comes of blocks, one after the other.
use Rattle.std.proofs.Common.{ℕ, ◌≤◌, append-nil, drop, length, take, ◌++◌, ◌≡◌, ◌+◌, ◌∙◌, if◌then◌else◌, is_some, List, [], ◌∷◌, map, refl, subst, sym, ap}
use Rattle.std.proofs.lemmas.List.{drop_all, take_all}
use Rattle.tc_model.specs.{Inside.unread, Models.{AreTried, IsTried, written}, declared.models.Attempt.Attempt}

-- blocks one after the other, the first after that many that have a model; then as many have one as the last number says
abbrev pub AreTriedTo : ℕ → List Attempt → ℕ → Type 0
AreTriedTo k [] n = k ≡ n
AreTriedTo k (a ∷ attempts) n = IsTried k a.block a.refusal × AreTriedTo (if is_some a.refusal then k else k + 1) attempts n

-- one more block
pub tried_more : (k n m : ℕ) (xs : List Attempt) (a : Attempt) → AreTriedTo k xs n → IsTried n a.block a.refusal →
    (if is_some a.refusal then n else n + 1) ≡ m → AreTriedTo k (xs ++ a ∷ []) m
tried_more k n m [] a same is next =
    (subst (λ j. IsTried j a.block a.refusal) (sym same) is, ap (λ j. if is_some a.refusal then j else j + 1) same ∙ next)
tried_more k n m (x ∷ xs) a (first, others) is next = (first, tried_more (if is_some x.refusal then k else k + 1) n m xs a others is next)

-- without the number
pub are_tried : (k n : ℕ) (xs : List Attempt) → AreTriedTo k xs n → AreTried k xs
are_tried k n [] same = tt
are_tried k n (x ∷ xs) (first, others) = (first, are_tried (if is_some x.refusal then k else k + 1) n xs others)

-- where all blocks are refused none has a model
none_written : (xs : List Attempt) → written (map unread xs) ≡ []
none_written [] = refl
none_written (x ∷ xs) = none_written xs

-- and they are the same blocks
same_blocks : (xs : List Attempt) → map (λ (t : Attempt). t.block) (map unread xs) ≡ map (λ (t : Attempt). t.block) xs
same_blocks [] = refl
same_blocks (x ∷ xs) = ap (λ l. x.block ∷ l) (same_blocks xs)

-- the same of a list that is so
pub none_written_of : (ys xs : List Attempt) → ys ≡ map unread xs → written ys ≡ []
none_written_of ys xs same = ap written same ∙ none_written xs

pub same_blocks_of : (ys xs : List Attempt) → ys ≡ map unread xs → map (λ (t : Attempt). t.block) ys ≡ map (λ (t : Attempt). t.block) xs
same_blocks_of ys xs same = ap (map (λ (t : Attempt). t.block)) same ∙ same_blocks xs

-- after the last of a list all are refused
pub all_unread : (xs ys : List Attempt) (i : ℕ) → length xs ≤ i → ys ≡ map unread (take i xs) ++ drop i xs → ys ≡ map unread xs
all_unread xs ys i whole is =
    is ∙ ap (λ l. map unread l ++ drop i xs) (take_all i xs whole) ∙ ap (λ l. map unread xs ++ l) (drop_all i xs whole) ∙ append-nil (map unread xs)
