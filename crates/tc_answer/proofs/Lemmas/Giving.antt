-- What is kept, and what is so of an answer.
use Rattle.std.{proofs.Common.{ℕ, ◌≡◌, List, [], Option, None, Some, IfOk, IfErr, Result, Ok, Err, refl}, specs.{Prelude.MatchResult, Global.Vec, Io.KnownBytes.Keeps}}

pub keeps_same : (held : Option (List ℕ)) → Keeps held held
keeps_same None = tt
keeps_same (Some xs) = refl

-- what is so if there is an answer, and if there is none
pub made_of : {A E : Type 0} (P : A → Type 0) (Q : E → Type 0) (r : Result A E) → IfOk r P → IfErr r Q → MatchResult r P Q
made_of P Q (Ok x) done refused = done
made_of P Q (Err e) done refused = refused

pub both_ok : {A E : Type 0} (P Q S : A → Type 0) (r : Result A E) → ((x : A) → P x → Q x → S x) → IfOk r P → IfOk r Q → IfOk r S
both_ok P Q S (Ok x) both p q = both x p q
both_ok P Q S (Err e) both p q = tt

-- some text is made, if one is
pub some_text : {E : Type 0} (r : Result (Vec ℕ) E) → (text : List ℕ) × IfOk r (λ v. v.items ≡ text)
some_text (Ok v) = (v.items, refl)
some_text (Err e) = ([], tt)
