-- Lists of which the first goes over to another list.
use Rattle.std.proofs.Common.{◌≡◌, List, [], ◌∷◌, ◌++◌, map, refl, ap, ◌∙◌}

map-moved : {A B : Type 0} (f : A → B) (ws : List A) (w : A) (ys : List B) → map f (ws ++ w ∷ []) ++ ys ≡ map f ws ++ f w ∷ ys
map-moved f [] w ys = refl
map-moved f (v ∷ ws) w ys = ap (λ zs. f v ∷ zs) (map-moved f ws w ys)

pub moved : {A B : Type 0} (f : A → B) (ws : List A) (w : A) (x : B) (xs ys all : List B) →
    map f ws ++ xs ≡ all → xs ≡ x ∷ ys → f w ≡ x → map f (ws ++ w ∷ []) ++ ys ≡ all
moved f ws w x xs ys all whole first same = map-moved f ws w ys ∙ (rw same (rw (← first) whole))

pub passed : {A : Type 0} (done : List A) (x : A) (xs ys all : List A) → done ++ xs ≡ all → xs ≡ x ∷ ys → (done ++ x ∷ []) ++ ys ≡ all
passed done x xs ys all whole first = over done ∙ (rw (← first) whole)
  where
    over : (zs : _) → (zs ++ x ∷ []) ++ ys ≡ zs ++ x ∷ ys
    over [] = refl
    over (z ∷ zs) = ap (λ q. z ∷ q) (over zs)
