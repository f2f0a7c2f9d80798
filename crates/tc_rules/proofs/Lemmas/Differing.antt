-- A list with a wrong reply is not legal.
use Rattle.std.proofs.{Common.{ℕ, ◌≡◌, ◌<◌, ◌+◌, List, [], ◌∷◌, ◌++◌, length, get_or, take, drop, reverse, sym, ap, ◌∙◌, subst, add-one}, lemmas.List.{append_assoc, reverse-append, take-append-drop}, Math.Seq.take-suc}
use Rattle.tc_entry.specs.declared.{entry.Entry.Entry, reply.Reply.Reply}
use Rattle.tc_rules.specs.{Legal.IsFaultOf, Legal.IsLegal, declared.check.CheckFault.CheckFault}

-- an earlier part of a legal history is legal
pub later_legal : (n : ℕ) (new past : List Entry) → IsLegal n (new ++ past) → IsLegal n past
later_legal n [] past h = h
later_legal n (e ∷ es) past h = later_legal n es past h.1

-- a list is what is before a place, what is there, and the rest
pub parted : (xs : List Entry) (i : ℕ) (d : Entry) → i < length xs → xs ≡ (take i xs ++ (get_or xs i d ∷ [])) ++ drop (i + 1) xs
parted xs i d h =
    let t : take (i + 1) xs ≡ take i xs ++ get_or xs i d ∷ [] = rw add-one (take-suc xs i d h) in
    sym (take-append-drop (i + 1) xs) ∙ ap (λ l. l ++ drop (i + 1) xs) t

-- the same, the place's entry in front of the rest
pub split_at : (xs : List Entry) (i : ℕ) (d : Entry) → i < length xs → xs ≡ take i xs ++ get_or xs i d ∷ drop (i + 1) xs
split_at xs i d h = parted xs i d h ∙ append_assoc (take i xs) (get_or xs i d ∷ []) (drop (i + 1) xs)

pub not_merged : (n m : ℕ) (h k : List Entry) (f : CheckFault) (at : ℕ) (reply : Reply) → IsFaultOf n h f → f ≡ CheckFault.Differs at reply → n ≡ m → h ≡ k → IsLegal m (reverse k) → ⊥
not_merged n m h k f at reply fault is same_n same_h legal =
    let w = subst (λ x. IsFaultOf n h x) is fault in
    let s : reverse h ≡ reverse w.2 ++ w.1 ∷ reverse w.0 =
    ap reverse (w.3 ∙ sym (append_assoc w.0 (w.1 ∷ []) w.2))
    ∙ (reverse-append (w.0 ++ w.1 ∷ []) w.2 ∙ ap (λ l. reverse w.2 ++ l) (reverse-append w.0 (w.1 ∷ []))) in
    let legal_here : IsLegal n (reverse h) = rw (same_n, same_h) legal in
    let there : IsLegal n (w.1 ∷ reverse w.0) = later_legal n (reverse w.2) (w.1 ∷ reverse w.0) (rw s at legal_here) in
    w.7 (there.0 ∙ sym w.6)
