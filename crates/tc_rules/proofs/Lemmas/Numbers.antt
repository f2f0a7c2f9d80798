-- Lists of consecutive numbers.
use Rattle.std.proofs.{Common.{ℕ, zero, suc, ◌≡◌, ◌+◌, ◌<◌, ◌&&◌, nat_lt, nat_le, List, [], ◌∷◌, ◌++◌, length, map, drop, get_or, refl, ap, ◌∙◌, arith}, lemmas.Bool.Decides.nat_tests}
use Rattle.tc_rules.specs.{History.is_in, Inside.Kept.numbers_from}

pub length-numbers_from : (s n : ℕ) → length (numbers_from s n) ≡ n
length-numbers_from s zero = refl
length-numbers_from s (suc n) = ap suc (length-numbers_from (s + 1) n)

pub numbers_from-more : (s n : ℕ) → numbers_from s (suc n) ≡ numbers_from s n ++ (s + n) ∷ []
numbers_from-more s zero = grind arith
numbers_from-more s (suc n) = grind (arith, numbers_from-more (s + 1) n)

pub is_in-numbers_from : (c s n : ℕ) → is_in c (numbers_from s n) ≡ (nat_le s c && nat_lt c (s + n))
is_in-numbers_from c s zero = grind (arith, nat_tests)
is_in-numbers_from c s (suc n) = grind (arith, nat_tests, is_in-numbers_from c (s + 1) n)

-- a list that has f of each number at its place
pub map-numbers_from : {A : Type 0} (f : ℕ → A) (s : ℕ) (xs : List A) → ((i : ℕ) (d : A) → i < length xs → get_or xs i d ≡ f (s + i)) → xs ≡ map f (numbers_from s (length xs))
map-numbers_from f s [] h = refl
map-numbers_from f s (x ∷ xs) h =
    let head : x ≡ f s = h 0 x (omega arith) ∙ ap f (omega arith) in
    let tail : xs ≡ map f (numbers_from (s + 1) (length xs)) =
    map-numbers_from f (s + 1) xs (λ i d k. h (suc i) d (omega arith) ∙ ap f (omega arith)) in
    cc

pub drop-one-map : {A : Type 0} (f : ℕ → A) (ns : List ℕ) → drop 1 (map f ns) ≡ map f (drop 1 ns)
drop-one-map f [] = refl
drop-one-map f (n ∷ ns) = refl
