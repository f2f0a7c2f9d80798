-- Words of other lengths, and that each keyword is read from its spelling.
use Rattle.std.{proofs.{Common.{ℕ, ◌≡◌, Bool, true, false, Some, List, length, refl, ap, arith}, lemmas.Bool.Decides.nat_tests}, specs.{Prelude.{◌==◌, nat_eq}, Cmp.Lexicographic.{bytes_decides, pointwise}}}
use Rattle.tc_step.specs.declared.step.Status.{Status}
use Rattle.tc_reader.specs.{Inside.keyword_text, Words.{is_text, keyword}, declared.line.Keyword.Keyword}

pub other_length : (word text : List ℕ) → (length word == length text) ≡ false → pointwise nat_eq word text ≡ false
other_length word text e = by (pointwise nat_eq word text) (bytes_decides word text).0
  where
    by : (b : Bool) → (b ≡ true → word ≡ text) → b ≡ false
    by true f = let long : length word ≡ length text = ap length (f refl) in absurd (grind (arith, nat_tests, e, long))
    by false f = refl

pub spelled : (k : Keyword) → keyword (keyword_text k) ≡ Some k
unfolding keyword is_text
spelled (Keyword.Ask Status.Running) = refl
spelled _ = refl
