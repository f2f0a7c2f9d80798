-- Lines that are appended, some of which matter.
use Rattle.std.{proofs.{Common.{ℕ, ◌≡◌, ◌∙◌, inl, inr, List, [], ◌∷◌, ◌++◌, ap, append_assoc, refl, subst, sym}, lemmas.List.{Concat.flat_map-append, append-nil}}, specs.List.flat_map}
use Rattle.tc_text.{specs.Said.{AreAmong, Line, TellsAmong, TellsLine, shown_line}, proofs.Lemmas.Saying.holding}

behind : (lines : List Line) (front texts : List (List ℕ)) → AreAmong lines texts → AreAmong lines (front ++ texts)
behind [] front texts h = tt
behind (line ∷ lines) [] texts h = h
behind (line ∷ lines) (first ∷ front) texts h = inr (behind (line ∷ lines) front texts h)

both : (xs ys : List Line) (texts more : List (List ℕ)) → AreAmong xs texts → AreAmong ys more → AreAmong (xs ++ ys) (texts ++ more)
both [] ys texts more h k = behind ys texts more k
both (x ∷ xs) ys [] more h k = absurd h
both (x ∷ xs) ys (t ∷ texts) more (inl h) k = inl (h.0, both xs ys texts more h.1 k)
both (x ∷ xs) ys (t ∷ texts) more (inr h) k = inr (both (x ∷ xs) ys texts more h k)

-- nothing
pub among_none : (a : List ℕ) → TellsAmong [] a a
unfolding TellsAmong
among_none a = ([], sym (append-nil a), tt)

-- a line, and others after it
pub among_line : (words : Line) (ys : List Line) (a b c : List ℕ) → TellsLine words a b → TellsAmong ys b c → TellsAmong (words ∷ ys) a c
unfolding TellsAmong TellsLine
among_line words ys a b c h k =
    let shown = flat_map shown_line k.0 in
    (h.0 ∷ k.0, k.1 ∙ (ap (λ l. l ++ shown) h.1 ∙ append_assoc a (shown_line h.0) shown), inl (h.2, k.2))

-- one line
pub among_one : (words : Line) (a b : List ℕ) → TellsLine words a b → TellsAmong (words ∷ []) a b
among_one words a b h = among_line words [] a b b h (among_none b)

-- some, and others after them
pub among_then : (xs ys : List Line) (a b c : List ℕ) → TellsAmong xs a b → TellsAmong ys b c → TellsAmong (xs ++ ys) a c
unfolding TellsAmong
among_then xs ys a b c h k =
    let first = flat_map shown_line h.0 in
    let shown = flat_map shown_line k.0 in (
      h.0 ++ k.0,
      k.1 ∙ (ap (λ l. l ++ shown) h.1 ∙ (append_assoc a first shown ∙ ap (λ l. a ++ l) (sym (flat_map-append shown_line h.0 k.0)))),
      both xs ys h.0 k.0 h.2 k.2,
    )

-- of what matters nothing
pub among_any : (xs : List Line) (a b : List ℕ) → TellsAmong xs a b → TellsAmong [] a b
unfolding TellsAmong
among_any xs a b h = (h.0, h.1, tt)

-- a line that does not matter
pub among_skipped : (words : Line) (a b : List ℕ) → TellsLine words a b → TellsAmong [] a b
among_skipped words a b h = among_any (words ∷ []) a b (among_one words a b h)

-- more that does not matter
pub among_more : (xs : List Line) (a b c : List ℕ) → TellsAmong xs a b → TellsAmong [] b c → TellsAmong xs a c
among_more xs a b c h k = subst (λ l. TellsAmong l a c) (append-nil xs) (among_then xs [] a b c h k)

pub ruleset among_rules = (among_none, among_one, among_line, among_then, among_skipped, among_more)

-- what is said, after something
pub among_after : (lines : List Line) (front b c : List ℕ) → TellsAmong lines [] b → c ≡ front ++ b → TellsAmong lines front c
unfolding TellsAmong
among_after lines front b c h is = (h.0, is ∙ ap (λ l. front ++ l) h.1, h.2)

-- texts that hold these words
held : (lines : List Line) → (texts : List (List ℕ)) × AreAmong lines texts
held [] = ([], tt)
held (words ∷ lines) = let text = holding words in let rest = held lines in (text.0 ∷ rest.0, inl (text.2, rest.1))

-- something can be said
pub among_some : (lines : List Line) (a : List ℕ) → (b : List ℕ) × TellsAmong lines a b
unfolding TellsAmong
among_some lines a = let texts = held lines in (a ++ flat_map shown_line texts.0, (texts.0, refl, texts.1))
