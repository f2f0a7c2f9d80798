-- What the test for a name says.
use Rattle.std.{proofs.{Common.{ℕ, ◌≡◌, ◌≤◌, ◌&&◌, Bool, true, false, List, [], ◌∷◌, length, arith, refl}, lemmas.Bool.Decides.{nat_tests, Decides-by_and}}, specs.{Prelude.{IsTrue, All, bytes_eq, codes, not, slice_get}, Char.is_ascii_alphabetic, List.{list_all, list_any}, Option.option_map_or}}
use Rattle.tc_entry.specs.Name.{IsName, is_name, is_name_byte}

-- what the test for a name takes
pub record NameParts (bs : List ℕ) : Type 0 where
  pub some : 1 ≤ length bs
  pub short : length bs ≤ 32
  pub allowed : All (λ b. IsTrue (is_name_byte b)) bs
  pub unreserved : list_any (bytes_eq bs) (codes "all" ∷ codes "any" ∷ codes "mtc" ∷ codes "self" ∷ []) ≡ false

both : (a b : Bool) → (a && b) ≡ true → (a ≡ true) × (b ≡ true)
both true true e = (refl, refl)
both true false e = absurd cc
both false b e = absurd cc

opposite : (a : Bool) → not a ≡ true → a ≡ false
opposite true e = absurd cc
opposite false e = refl

some_first : (bs : List ℕ) → option_map_or is_ascii_alphabetic (slice_get bs 0) false ≡ true → 1 ≤ length bs
some_first [] e = absurd cc
some_first (b ∷ bs) e = omega arith

pub name_parts : (bs : List ℕ) → IsName bs → NameParts bs
unfolding is_name
name_parts bs is =
    let of = both _ _ is in
    let short = both _ _ of.0 in
    let allowed = both _ _ short.0 in
    record {
      some = some_first bs allowed.0;
      short = grind (arith, nat_tests, short.1);
      allowed = (Decides-by_and is_name_byte (λ b. IsTrue (is_name_byte b)) (list_all is_name_byte) (λ b. (λ e. e, λ e. e)) refl (λ _ _. refl) bs).0 allowed.1;
      unreserved = opposite _ of.1;
    }

pub name_short : (bs : List ℕ) → IsName bs → length bs ≤ 32
name_short bs is = (name_parts bs is).short
