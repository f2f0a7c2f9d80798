-- Lookups in lists, by the table's word for them and by std's.
use Rattle.std.{proofs.Common.{◌≡◌, ◌⊎◌, ℕ, zero, suc, ◌<◌, List, [], ◌∷◌, ◌++◌, length, map, inl, inr, refl, sym, ap, ⊎_elim, arith, Some, Contains}, specs.Prelude.slice_get}
use mathlib.Core.Option.{some, some-injective, some-ne-none}
use lib.ListN.{get_elem?}
use Rattle.atomic_table.proofs.Lists.{at_index}

module _ {A : Type 0} where
  -- a new last element, or one that was there
  pub at_end : (l : List A) (a b : A) (j : ℕ) → get_elem? (l ++ a ∷ []) j ≡ some b → ((j < length l) × (get_elem? l j ≡ some b)) ⊎ ((j ≡ length l) × (a ≡ b))
  at_end [] a b zero e = inr (refl, some-injective a b e)
  at_end [] a b (suc j) e = absurd (some-ne-none b (sym e))
  at_end (x ∷ xs) a b zero e = inl (omega arith, e)
  at_end (x ∷ xs) a b (suc j) e = ⊎_elim (λ t. let less = t.0 in inl (omega arith, t.1)) (λ t. let is = t.0 in inr (omega arith, t.1)) (at_end xs a b j e)

  pub at_length : (l : List A) (j : ℕ) (a : A) → get_elem? l j ≡ some a → j < length l
  at_length [] j a e = absurd (some-ne-none a (sym e))
  at_length (x ∷ xs) zero a e = omega arith
  at_length (x ∷ xs) (suc j) a e = let less = at_length xs j a e in omega arith

  pub at_map_back : {B : Type 0} (f : A → B) (l : List A) (i : ℕ) (b : B) → get_elem? (map f l) i ≡ some b → (a : A) × (get_elem? l i ≡ some a) × (f a ≡ b)
  at_map_back f [] i b e = absurd (some-ne-none b (sym e))
  at_map_back f (x ∷ xs) zero b e = (x, refl, some-injective (f x) b e)
  at_map_back f (x ∷ xs) (suc i) b e = at_map_back f xs i b e

  got_same : (x a : A) → Some x ≡ Some a → x ≡ a
  got_same x a e = cc

  -- the two words for a lookup
  pub got_elem : (l : List A) (k : ℕ) (a : A) → slice_get l k ≡ Some a → get_elem? l k ≡ some a
  got_elem [] k a e = absurd (cc)
  got_elem (x ∷ l) zero a e = ap some (got_same x a e)
  got_elem (x ∷ l) (suc k) a e = got_elem l k a e

  pub elem_got : (l : List A) (k : ℕ) (a : A) → get_elem? l k ≡ some a → slice_get l k ≡ Some a
  elem_got [] k a e = absurd (some-ne-none a (sym e))
  elem_got (x ∷ l) zero a e = ap Some (some-injective x a e)
  elem_got (x ∷ l) (suc k) a e = elem_got l k a e

  pub got_end : (l : List A) (a b : A) (j : ℕ) → slice_get (l ++ a ∷ []) j ≡ Some b → ((j < length l) × (slice_get l j ≡ Some b)) ⊎ ((j ≡ length l) × (a ≡ b))
  got_end l a b j e = ⊎_elim (λ t. inl (t.0, elem_got l j b t.1)) inr (at_end l a b j (got_elem (l ++ a ∷ []) j b e))

  -- what a list contains is somewhere in it
  pub contained_at : (l : List A) (a : A) → Contains l a → (p : ℕ) × (get_elem? l p ≡ some a)
  contained_at l a c = (c.0, at_index l c.0 a c.1 (sym c.2))
