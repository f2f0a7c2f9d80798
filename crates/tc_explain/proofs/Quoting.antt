-- What is before the first odd byte.
use Rattle.std.{proofs.{Common.{ℕ, ◌≡◌, ◌≤◌, Bool, true, false, cond, Some, None, List, length, take, nat_lt, not, sym, ap, refl, arith}, lemmas.{Bool.Decides.nat_tests, List.take_all}}, specs.List.{before_first, position, position_or_len}}
use Rattle.tc_text.specs.Prelude.{is_plain}

-- a byte that no line may have
abbrev is_odd : ℕ → Bool
is_odd b = not (is_plain b)

by_some : (t : Bool) (p at : ℕ) → cond t (Some p) None ≡ Some at → p ≡ at
by_some true p at e = cc
by_some false p at e = absurd cc

by_none : (t : Bool) (p : ℕ) → cond t (Some p) None ≡ None → t ≡ false
by_none true p e = absurd cc
by_none false p e = refl

-- if there is one
pub begin_some : (bytes : List ℕ) (at : ℕ) → Some at ≡ position is_odd bytes → take at bytes ≡ before_first is_odd bytes
begin_some bytes at e =
    let p = position_or_len is_odd bytes in
    ap (λ k. take k bytes) (sym (by_some (nat_lt p (length bytes)) p at (sym e)))

past : (p n : ℕ) → nat_lt p n ≡ false → n ≤ p
past p n e = grind (arith, nat_tests)

-- if there is none
pub begin_none : (bytes : List ℕ) → None ≡ position is_odd bytes → bytes ≡ before_first is_odd bytes
begin_none bytes e =
    let p = position_or_len is_odd bytes in
    sym (take_all p bytes (past p (length bytes) (by_none (nat_lt p (length bytes)) p (sym e))))

pub ruleset begin_rules = (begin_some, begin_none)
