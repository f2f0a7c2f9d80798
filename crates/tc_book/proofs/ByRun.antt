-- The logs of a case by the numbers of their runs, and what is left of them after a part of a history.
use Rattle.std.{proofs.{Common.{ℕ, ◌≡◌, ◌<◌, ◌+◌, ◌==◌, ◌↔◌, if◌then◌else◌, true, List, [], ◌∷◌, ◌++◌, length, get_or, take, drop, set, refl, sym, ap, ◌∙◌, subst, arith, add-one, append_assoc, eq-eqb, inl, inr}, Math.Seq.{take-suc, get_or-append_seam}, lemmas.Bool.{cases_eq, ne_eqb}, lemmas.List.Elements.filter-append, lemmas.List.{append-nil, append_cancel_left, get_or-set_other, get_or-set_same, get_or_append_left, length-append}}, specs.{Borrow.Bor, List.All}}
use Rattle.tc_rules.{specs.{Prelude.{Entry, log_of, part, is_by}, declared.run_log.RunLog.RunLog}, proofs.Lemmas.Differing.parted}
use Rattle.tc_book.{proofs.{InPlace.{log_or, log_or-none, log_or-last}, Lemmas.PartOf.part_end}, specs.Passes.LeftState}

-- once these logs too are put in their places, each run below n has its log
abbrev pub HasAfter : List (List Entry) → List RunLog → ℕ → (ℕ → List Entry) → Type 0
HasAfter parts logs n log = (b : ℕ) → b < n → log_or logs b (get_or parts b []) ≡ log b

pub after_none : (parts : List (List Entry)) (logs : List RunLog) (n : ℕ) → ((b : ℕ) → get_or parts b [] ≡ []) → HasAfter parts logs n (log_of logs)
after_none parts logs n none b below = ap (λ x. log_or logs b x) (none b) ∙ log_or-none logs b

-- the last of the logs is put in its place
pub after_last : (parts : List (List Entry)) (before : List RunLog) (l : RunLog) (n : ℕ) (log : ℕ → List Entry) → l.run.0 < length parts →
    HasAfter parts (before ++ l ∷ []) n log → HasAfter (set parts l.run.0 l.entries) before n log
after_last parts before l n log within has b below =
    elim (cases_eq l.run.0 b) [
      | inl same ↦
          let test : (l.run.0 == b) ≡ true = eq-eqb l.run.0 b same in
          let put : get_or (set parts l.run.0 l.entries) b [] ≡ l.entries = subst (λ k. get_or (set parts l.run.0 l.entries) k [] ≡ l.entries) same (get_or-set_same parts l.run.0 l.entries [] within) in
          let e : log_or (before ++ l ∷ []) b (get_or parts b []) ≡ log_or before b l.entries = log_or-last before l b (get_or parts b []) ∙ rw test refl in
          ap (λ x. log_or before b x) put ∙ (sym e ∙ has b below)
      | inr other ↦
          let test = ne_eqb l.run.0 b other in
          let kept : get_or (set parts l.run.0 l.entries) b [] ≡ get_or parts b [] = get_or-set_other parts l.run.0 b l.entries [] (λ h. other (sym h)) in
          let e : log_or (before ++ l ∷ []) b (get_or parts b []) ≡ log_or before b (get_or parts b []) = log_or-last before l b (get_or parts b []) ∙ rw test refl in
          ap (λ x. log_or before b x) kept ∙ (sym e ∙ has b below)
    ]

pub within_before : (n : ℕ) (before : List LeftState) (l : LeftState) → All (λ r. r.run.0 < n) (before ++ l ∷ []) → All (λ r. r.run.0 < n) before
within_before n before l within k d below =
    subst (λ (r : LeftState). r.run.0 < n) (get_or_append_left before (l ∷ []) d k below) (within k d (omega (arith, length-append before (l ∷ []), below)))

pub within_last : (n : ℕ) (before : List LeftState) (l : LeftState) → All (λ r. r.run.0 < n) (before ++ l ∷ []) → l.run.0 < n
within_last n before l within =
    subst (λ (r : LeftState). r.run.0 < n) (get_or-append_seam before l [] l) (within (length before) l (omega (arith, length-append before (l ∷ []))))

-- after this history so much is left of all
abbrev pub AreLeft : List (Bor (List Entry)) → List (Bor (List Entry)) → List Entry → Type 0
AreLeft all rests h = (b : ℕ) (d : Bor (List Entry)) → b < length all → (get_or all b d).now ≡ part h b ++ (get_or rests b d).now

part_none : (b : ℕ) → part [] b ≡ []
unfolding part
part_none b = refl

part-append : (g h : List Entry) (b : ℕ) → part (g ++ h) b ≡ part g b ++ part h b
unfolding part
part-append g h b = filter-append (is_by b) g h

pub left_all : (all : List (Bor (List Entry))) → AreLeft all all []
left_all all b d below = ap (λ l. l ++ (get_or all b d).now) (sym (part_none b))

-- the next entry is taken off
pub left_next : (all rests more : List (Bor (List Entry))) (h : List Entry) (i : ℕ) (e : Entry) → i < length h → e ≡ get_or h i e →
    ((b : ℕ) (d : Bor (List Entry)) → b < length all → (get_or rests b d).now ≡ (if is_by b e then e ∷ [] else []) ++ (get_or more b d).now) →
    AreLeft all rests (take i h) → AreLeft all more (take (i + 1) h)
left_next all rests more h i e inside here taken left b d below =
    let own : List Entry = if is_by b e then e ∷ [] else [] in
    let after : List Entry = (get_or more b d).now in
    let next : take (i + 1) h ≡ take i h ++ (e ∷ []) = rw add-one (take-suc h i e inside) ∙ ap (λ x. take i h ++ (x ∷ [])) (sym here) in
    let end : part (take (i + 1) h) b ≡ part (take i h) b ++ own = ap (λ l. part l b) next ∙ part_end (take i h) e b in
    left b d below ∙ (ap (λ l. part (take i h) b ++ l) (taken b d below) ∙ (sym (append_assoc (part (take i h) b) own after) ∙ ap (λ l. l ++ after) (sym end)))

-- if the next entry is not the first of what is left of its run's part, this is not the run's part
pub no_next : (all rests : List (Bor (List Entry))) (h : List Entry) (i : ℕ) (e : Entry) (d : Bor (List Entry)) → i < length h → e ≡ get_or h i e → e.caller.0 < length all →
    ((es : List Entry) → (get_or rests e.caller.0 d).now ≡ e ∷ es → ⊥) → AreLeft all rests (take i h) → (get_or all e.caller.0 d).now ≡ part h e.caller.0 → ⊥
no_next all rests h i e d inside here below other left known =
    let b : ℕ = e.caller.0 in
    let behind : List Entry = part (drop (i + 1) h) b in
    let own : (if is_by b e then e ∷ [] else []) ≡ e ∷ [] = rw (eq-eqb e.caller.0 e.caller.0 refl) refl in
    let split : h ≡ (take i h ++ (e ∷ [])) ++ drop (i + 1) h = parted h i e inside ∙ ap (λ x. (take i h ++ (x ∷ [])) ++ drop (i + 1) h) (sym here) in
    let end : part (take i h ++ (e ∷ [])) b ≡ part (take i h) b ++ (e ∷ []) = part_end (take i h) e b ∙ ap (λ l. part (take i h) b ++ l) own in
    let whole : part h b ≡ part (take i h) b ++ (e ∷ behind) =
    ap (λ l. part l b) split ∙ (part-append (take i h ++ (e ∷ [])) (drop (i + 1) h) b ∙ (ap (λ l. l ++ behind) end ∙ append_assoc (part (take i h) b) (e ∷ []) behind)) in
    other behind (append_cancel_left (part (take i h) b) (get_or rests b d).now (e ∷ behind) (sym (left b d below) ∙ (known ∙ whole)))

-- once nothing is left, and only then, they are the parts
pub none_left : (all rests : List (Bor (List Entry))) (h : List Entry) (d : Bor (List Entry)) → length rests ≡ length all → AreLeft all rests h →
    All (λ r. r.now ≡ []) rests ↔ ((b : ℕ) (d : Bor (List Entry)) → b < length all → (get_or all b d).now ≡ part h b)
none_left all rests h d as_many left = (
  (λ none b d below.
      left b d below ∙ (ap (λ l. part h b ++ l) (none b d (omega (arith, as_many, below))) ∙ append-nil (part h b))),
  (λ known k e below.
      let within : k < length all = omega (arith, as_many, below) in
      append_cancel_left (part h k) (get_or rests k e).now [] (sym (left k e within) ∙ (known k e within ∙ sym (append-nil (part h k))))),
)
