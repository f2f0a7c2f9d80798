-- A merged history, as its entries are walked one after the other.
use Rattle.std.{proofs.{Common.{ℕ, ◌≡◌, ◌∙◌, ◌<◌, ◌+◌, ◌&&◌, ◌++◌, ◌∷◌, ◌↔◌, if◌then◌else◌, true, is_some, List, [], All, length, reverse, get_or, take, drop, refl, sym, ap, subst, add-one}, Math.Seq.{take-suc, take-length}, lemmas.List.reverse-append}, specs.Borrow.Bor}
use Rattle.tc_rules.{specs.Prelude.{Entry, Kept, StandsFor, TakesIn, IsLegal, comp_of, is_by}, proofs.{Lemmas.Deciding.{and_left, and_right}, Lemmas.Differing.{later_legal, parted}, Lemmas.Standing.legal_for}}
use Rattle.tc_book.{specs.{OneCase.all_started, Inside.{CanFollow, IsWalk}}, proofs.ByRun.{AreLeft, left_all, left_next, none_left}}

-- what is known after this beginning of a history was walked
pub record IsWalked (n : ℕ) (all rests : List (Bor (List Entry))) (s : Kept) (h : List Entry) : Type 0 where
  pub as_many : length rests ≡ length all
  pub behaviours : s.behaviours ≡ n
  pub stands : StandsFor s (reverse h)
  pub started : all_started (reverse h) ≡ true
  pub left : AreLeft all rests h

past_next : (h : List Entry) (i : ℕ) (e : Entry) → i < length h → e ≡ get_or h i e → reverse (take (i + 1) h) ≡ e ∷ reverse (take i h)
past_next h i e inside here =
    let next : take (i + 1) h ≡ take i h ++ (e ∷ []) = rw add-one (take-suc h i e inside) ∙ ap (λ x. take i h ++ (x ∷ [])) (sym here) in
    ap reverse next ∙ reverse-append (take i h) (e ∷ [])

-- the whole history, around its next entry
past_around : (h : List Entry) (i : ℕ) (e : Entry) → i < length h → e ≡ get_or h i e → reverse h ≡ reverse (drop (i + 1) h) ++ e ∷ reverse (take i h)
past_around h i e inside here =
    let split : h ≡ (take i h ++ (e ∷ [])) ++ drop (i + 1) h = parted h i e inside ∙ ap (λ x. (take i h ++ (x ∷ [])) ++ drop (i + 1) h) (sym here) in
    ap reverse split ∙ (reverse-append (take i h ++ (e ∷ [])) (drop (i + 1) h) ∙ ap (λ l. reverse (drop (i + 1) h) ++ l) (reverse-append (take i h) (e ∷ [])))

started_then : (later past : List Entry) → all_started (later ++ past) ≡ true → all_started past ≡ true
started_then [] past h = h
started_then (e ∷ later) past h = started_then later past (and_right (is_some (comp_of (later ++ past) e.caller.0)) (all_started (later ++ past)) h)

pub walked_none : (n : ℕ) (all : List (Bor (List Entry))) (s : Kept) (h : List Entry) → s.behaviours ≡ n → StandsFor s [] → IsWalked n all all s (take 0 h)
walked_none n all s h same stands = record { as_many = refl; behaviours = same; stands = stands; started = refl; left = left_all all }

pub walked_next : (n : ℕ) (all rests more : List (Bor (List Entry))) (s after : Kept) (h : List Entry) (i : ℕ) (e : Entry) → i < length h → e ≡ get_or h i e →
    TakesIn s e after → after.behaviours ≡ s.behaviours → CanFollow n (reverse (take i h)) e → length more ≡ length rests →
    ((b : ℕ) (d : Bor (List Entry)) → b < length rests → (get_or rests b d).now ≡ (if is_by b e then e ∷ [] else []) ++ (get_or more b d).now) →
    IsWalked n all rests s (take i h) → IsWalked n all more after (take (i + 1) h)
walked_next n all rests more s after h i e inside here takes same follows as_many taken is =
    let past : List Entry = reverse (take i h) in
    let next = past_next h i e inside here in
    record {
      as_many = as_many ∙ is.as_many;
      behaviours = same ∙ is.behaviours;
      stands = subst (λ p. StandsFor after p) (sym next) (takes past is.stands);
      started = ap all_started next ∙ (ap (λ t. t && all_started past) follows.0 ∙ is.started);
      left = left_next all rests more h i e inside here (λ b d below. taken b d (subst (λ m. b < m) (sym is.as_many) below)) is.left;
    }

-- each entry of a history that can be walked can follow those before it
pub follows : (n : ℕ) (all : List (Bor (List Entry))) (h : List Entry) (i : ℕ) (e : Entry) → i < length h → e ≡ get_or h i e → IsWalk n all h → CanFollow n (reverse (take i h)) e
follows n all h i e inside here w =
    let past : List Entry = reverse (take i h) in
    let around = past_around h i e inside here in
    let legal : IsLegal n (e ∷ past) = later_legal n (reverse (drop (i + 1) h)) (e ∷ past) (subst (λ p. IsLegal n p) around w.legal) in
    let started : all_started (e ∷ past) ≡ true = started_then (reverse (drop (i + 1) h)) (e ∷ past) (sym (ap all_started around) ∙ w.started) in
    (and_left (is_some (comp_of past e.caller.0)) (all_started past) started, legal.0)

pub walked_all : (n : ℕ) (all rests : List (Bor (List Entry))) (s : Kept) (h : List Entry) (i : ℕ) (d : Bor (List Entry)) → i ≡ length h → IsWalked n all rests s (take i h) →
    StandsFor s (reverse h) × (All (λ r. r.now ≡ []) rests ↔ IsWalk n all h)
walked_all n all rests s h i d at is =
    let whole : take i h ≡ h = ap (λ k. take k h) at ∙ take-length h in
    let now : IsWalked n all rests s h = subst (IsWalked n all rests s) whole is in
    let both = none_left all rests h d now.as_many now.left in (
      now.stands,
      (
        (λ none. record { legal = legal_for n s (reverse h) now.behaviours now.stands; started = now.started; parts = both.0 none }),
        (λ w. both.1 w.parts),
      ),
    )
