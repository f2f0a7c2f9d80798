-- Lists that are taken one after the other.
use Rattle.std.{proofs.Common.{◌≡◌, ◌∙◌, ◌++◌, ◌∷◌, [], List, sym, subst, append_assoc}, specs.List.AllZip}
use Rattle.tc_exec.specs.Inside.{AreDone}

-- two lists that agree, with one more element each that agree
pub AllZip-pushed : {A B : Type 0} (R : A → B → Type 0) (xs : List A) (ys : List B) (x : A) (y : B) → AllZip R xs ys → R x y → AllZip R (xs ++ x ∷ []) (ys ++ y ∷ [])
AllZip-pushed R [] [] x y each one = (one, tt)
AllZip-pushed R [] (b ∷ ys) x y each one = absurd each
AllZip-pushed R (a ∷ xs) [] x y each one = absurd each
AllZip-pushed R (a ∷ xs) (b ∷ ys) x y each one = (each.0, AllZip-pushed R xs ys x y each.1 one)

pub done_none : {A B : Type 0} (R : A → B → Type 0) (all left : List A) → left ≡ all → AreDone R all left []
done_none R all left same = record { done = []; prefix = sym same; each = tt }

pub done_more : {A B : Type 0} (R : A → B → Type 0) (all left : List A) (x : A) (rest : List A) (ys : List B) (y : B) (now : List B)
    → AreDone R all left ys → left ≡ x ∷ rest → R x y → now ≡ ys ++ y ∷ [] → AreDone R all rest now
done_more R all left x rest ys y now are at one added = rw added (record {
  done = are.done ++ x ∷ [];
  prefix = subst (λ l. all ≡ are.done ++ l) at are.prefix ∙ sym (append_assoc are.done (x ∷ []) rest);
  each = AllZip-pushed R are.done ys x y are.each one;
})
