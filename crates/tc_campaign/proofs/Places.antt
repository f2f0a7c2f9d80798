-- Lists that agree with the beginning of another, and the last element of a list.
use Rattle.std.{proofs.{Common.{ℕ, zero, suc, ◌≡◌, ◌∙◌, ◌-◌, ◌++◌, ◌∷◌, [], Some, List, All, length, take, arith, refl, sym, ap, subst}, Math.Seq.take-append_seam, lemmas.{List.{Elements.{All-head, All-tail}, length-append}, Slice.Zip.AllZip-long}}, specs.{Prelude.{IfSome, slice_get}, List.AllZip}}

pub AllZip-weaker : {A B : Type 0} (Q R : A → B → Type 0) → ((x : A) (y : B) → Q x y → R x y) → (xs : List A) (ys : List B) → AllZip Q xs ys → AllZip R xs ys
AllZip-weaker Q R weaker [] [] each = tt
AllZip-weaker Q R weaker [] (b ∷ ys) each = absurd each
AllZip-weaker Q R weaker (a ∷ xs) [] each = absurd each
AllZip-weaker Q R weaker (a ∷ xs) (b ∷ ys) each = (weaker a b each.0, AllZip-weaker Q R weaker xs ys each.1)

-- the part of a list with which another agrees is its beginning of that length
pub AllZip-begin : {A B : Type 0} (R : A → B → Type 0) (all done rest : List A) (ys : List B) → all ≡ done ++ rest → AllZip R done ys → AllZip R (take (length ys) all) ys
AllZip-begin R all done rest ys prefix each =
    let same : take (length ys) all ≡ done = ap (take (length ys)) prefix ∙ ap (λ n. take n (done ++ rest)) (AllZip-long R done ys each) ∙ take-append_seam done rest in
    subst (λ l. AllZip R l ys) (sym same) each

slice_get-seam : {A : Type 0} (xs ys : List A) → slice_get (xs ++ ys) (length xs) ≡ slice_get ys 0
slice_get-seam [] ys = refl
slice_get-seam (x ∷ xs) ys = slice_get-seam xs ys

-- the element after that part
pub slice_get-behind : {A B : Type 0} (R : A → B → Type 0) (all done rest : List A) (ys : List B) → all ≡ done ++ rest → AllZip R done ys → slice_get all (length ys) ≡ slice_get rest 0
slice_get-behind R all done rest ys prefix each =
    ap (λ l. slice_get l (length ys)) prefix ∙ ap (slice_get (done ++ rest)) (AllZip-long R done ys each) ∙ slice_get-seam done rest

length_front : {A : Type 0} (xs : List A) (x : A) → length (xs ++ x ∷ []) - 1 ≡ length xs
length_front xs x = omega (arith, length-append xs (x ∷ []))

-- all except the last
pub take-front : {A : Type 0} (xs : List A) (x : A) → take (length (xs ++ x ∷ []) - 1) (xs ++ x ∷ []) ≡ xs
take-front xs x = ap (λ n. take n (xs ++ x ∷ [])) (length_front xs x) ∙ take-append_seam xs (x ∷ [])

-- the last
pub slice_get-last : {A : Type 0} (xs : List A) (x : A) → slice_get (xs ++ x ∷ []) (length (xs ++ x ∷ []) - 1) ≡ Some x
slice_get-last xs x = ap (slice_get (xs ++ x ∷ [])) (length_front xs x) ∙ slice_get-seam xs (x ∷ [])

pub All-slice_get : {A : Type 0} (P : A → Type 0) (xs : List A) (i : ℕ) → All P xs → IfSome (slice_get xs i) P
All-slice_get P [] i all = tt
All-slice_get P (x ∷ xs) zero all = All-head P x xs all
All-slice_get P (x ∷ xs) (suc i) all = All-slice_get P xs i (All-tail P x xs all)
