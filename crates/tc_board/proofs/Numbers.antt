-- The numbers in the words.
use Rattle.std.{proofs.{Common.{◌≡◌, ℕ, zero, suc, ◌+◌, ◌<◌, ◌==◌, if◌then◌else◌, nat_lt, true, false, Some, IfSome, refl, sym, ap, ◌∙◌, arith, max, bit_or}, lemmas.Bool.Decides.nat_tests}, specs.{Prelude.{Option, None as nothing}, Option.option_map_or}}
use Rattle.tc_entry.specs.Prelude.{Verdict, UserVerdict, level_of, worse, given}
use Rattle.tc_verdict.{specs.declared.user_verdict.UserVerdict.TheVariants.{None}, proofs.Lemmas.Order.level-worse}
use Rattle.tc_board.specs.{Inside.Steps.get_answer, Inside.Steps.set_answer, Inside.Steps.verdict_of, declared.answer.Answer.TheVariants.Found, declared.answer.Answer.TheVariants.Shut, declared.answer.Answer.TheVariants.Taken}

pub verdict_of-rank : (v : UserVerdict) → verdict_of (level_of (given v)) ≡ v
verdict_of-rank None = refl
verdict_of-rank _ = refl

pub rank_less : (v : UserVerdict) → level_of (given v) < 4
rank_less None = omega arith
rank_less _ = omega arith

larger : (m n : ℕ) → max m n ≡ (if nat_lt m n then n else m)
larger m n = grind (arith, nat_tests)

-- a setting raises an open word to the place of the worse verdict
pub max-worse : (w : Verdict) (v : UserVerdict) → max (level_of w) (level_of (given v)) ≡ level_of (worse w (given v))
max-worse w v = larger (level_of w) (level_of (given v)) ∙ sym (level-worse w (given v))

-- and changes no closed word
pub max-closed : (v w : UserVerdict) → max (8 + level_of (given v)) (level_of (given w)) ≡ 8 + level_of (given v)
max-closed v w = let a = rank_less w in omega arith

pub or-closed : (v : UserVerdict) → bit_or (level_of (given v)) 8 ≡ 8 + level_of (given v)
or-closed None = refl
or-closed _ = refl

-- the answers by the number found, in an open word and in a closed one
pub set_open : (v : UserVerdict) (n : ℕ) → n < 4 → set_answer v n ≡ Taken v
set_open v n less = by_test (nat_lt n 8) (grind (arith, nat_tests))
  where
    by_test : (t : _) → t ≡ true → (if t then Taken v else Shut) ≡ Taken v
    by_test t e = ap (λ b. if b then Taken v else Shut) e

pub set_closed : (v : UserVerdict) (n : ℕ) → set_answer v (8 + n) ≡ Shut
set_closed v n = ap (λ b. if b then Taken v else Shut) (is (nat_lt (8 + n) 8) refl)
  where
    is : (t : _) → nat_lt (8 + n) 8 ≡ t → t ≡ false
    is t e = grind (arith, nat_tests)

pub get_open : (v : UserVerdict) → get_answer (level_of (given v)) ≡ Found v
get_open None = refl
get_open _ = refl

pub get_closed : (v : UserVerdict) → get_answer (8 + level_of (given v)) ≡ Shut
get_closed None = refl
get_closed _ = refl

pub begun_open : (v : UserVerdict) → (level_of (given v) == 16) ≡ false
begun_open None = refl
begun_open _ = refl

pub begun_closed : (v : UserVerdict) → (8 + level_of (given v) == 16) ≡ false
begun_closed None = refl
begun_closed _ = refl

-- what is read of a number less than 4 is its verdict
pub read_some : (n : ℕ) (r : Option UserVerdict) → n < 4 → ((v : UserVerdict) → level_of (given v) ≡ n → r ≡ Some v) → r ≡ Some (verdict_of n)
read_some n r less only = only (verdict_of n) (ranked n less)
  where
    ranked : (n : ℕ) → n < 4 → level_of (given (verdict_of n)) ≡ n
    ranked zero less = refl
    ranked (suc zero) less = refl
    ranked (suc (suc zero)) less = refl
    ranked (suc (suc (suc zero))) less = refl
    ranked (suc (suc (suc (suc n)))) less = absurd (omega arith)

-- and of any number the answer of a get
pub read_answer : (n : ℕ) (r : Option UserVerdict) → IfSome r (λ v. level_of (given v) ≡ n) → ((v : UserVerdict) → level_of (given v) ≡ n → r ≡ Some v) → option_map_or Found r Shut ≡ get_answer n
read_answer n nothing ranked only = sym (ap (λ b. if b then Found (verdict_of n) else Shut) (is (nat_lt n 4) refl))
  where
    is : (t : _) → nat_lt n 4 ≡ t → t ≡ false
    is true e = let less : n < 4 = grind (arith, nat_tests) in let some = read_some n nothing less only in absurd (cc)
    is false e = refl
read_answer n (Some v) ranked only = sym (ap get_answer (sym ranked) ∙ get_open v)
