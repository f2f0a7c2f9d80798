-- What the parts of a line hold.
use Rattle.std.{proofs.{Common.{ℕ, ◌≡◌, ◌∙◌, Bool, true, false, if◌then◌else◌, List, [], ◌∷◌, ◌++◌, Result, Ok, Err, OnOk, refl, sym, ap, subst, append_assoc}, lemmas.List.append-nil}, specs.{Fmt.decimal, List.flat_map}}
use Rattle.tc_text.specs.{Inside.{part_text, prose_text}, Said.{Holds, Line, TellsLine, ends_word, part_words, shown_line}, declared.said.Part.Part}

-- ---- what the parts of a line hold

ends_both : (a b : List ℕ) → ends_word a ≡ true → ends_word b ≡ true → ends_word (a ++ b) ≡ true
ends_both [] b h k = k
ends_both (x ∷ a) b h k = h

-- after something
holds_behind : (words : Line) (front text : List ℕ) → Holds words text → Holds words (front ++ text)
holds_behind [] front text h = tt
holds_behind (w ∷ ws) front text h =
    (front ++ h.0, h.1, ap (λ l. front ++ l) h.2 ∙ sym (append_assoc front h.0 (32 ∷ (w ++ h.1))), h.3, h.4)

-- one text after another
holds_both : (words others : Line) (text more : List ℕ) → Holds words text → Holds others more → ends_word more ≡ true →
    Holds (words ++ others) (text ++ more)
holds_both [] others text more h k ends = holds_behind others text more k
holds_both (w ∷ ws) others text more h k ends = (
  h.0,
  h.1 ++ more,
  ap (λ l. l ++ more) h.2 ∙ (append_assoc h.0 (32 ∷ (w ++ h.1)) more ∙ ap (λ l. h.0 ++ (32 ∷ l)) (append_assoc w h.1 more)),
  ends_both h.1 more h.3 ends,
  holds_both ws others h.1 more h.4 k ends,
)

-- prose ends a word
prose_ends : (t : List ℕ) → ends_word (prose_text t) ≡ true
prose_ends t = by_test (ends_word t) refl
  where
    by_test : (b : Bool) → ends_word t ≡ b → ends_word (if b then t else 32 ∷ t) ≡ true
    by_test true e = e
    by_test false e = refl

part_ends : (p : Part) → ends_word (part_text p) ≡ true
part_ends (Part.Text t) = prose_ends t.now
part_ends _ = refl

part_holds : (p : Part) → Holds (part_words p) (part_text p)
part_holds (Part.Text t) = tt
part_holds (Part.Number n) = ([], [], ap (λ l. 32 ∷ l) (sym (append-nil (decimal n))), refl, tt)
part_holds (Part.Word w) = ([], [], ap (λ l. 32 ∷ l) (sym (append-nil w.now)), refl, tt)

parts_end : (ps : List Part) → ends_word (flat_map part_text ps) ≡ true
parts_end [] = refl
parts_end (p ∷ ps) = ends_both (part_text p) (flat_map part_text ps) (part_ends p) (parts_end ps)

parts_hold : (ps : List Part) → Holds (flat_map part_words ps) (flat_map part_text ps)
parts_hold [] = tt
parts_hold (p ∷ ps) =
    holds_both (part_words p) (flat_map part_words ps) (part_text p) (flat_map part_text ps) (part_holds p) (parts_hold ps) (parts_end ps)

-- a line of these parts
pub parts_said : (ps : List Part) (text before after : List ℕ) → text ≡ flat_map part_text ps → after ≡ before ++ shown_line text →
    TellsLine (flat_map part_words ps) before after
unfolding TellsLine
parts_said ps text before after is made = (text, made, subst (λ t. Holds (flat_map part_words ps) t) (sym is) (parts_hold ps))

-- what follows where a call has not failed
pub on_ok : {A E P Q : Type 0} (r : Result A E) → (P → Q) → OnOk r P → OnOk r Q
on_ok (Ok v) so is = so is
on_ok (Err e) so is = tt

-- a text that holds words
pub holding : (words : Line) → (text : List ℕ) × (ends_word text ≡ true) × Holds words text
holding [] = ([], refl, tt)
holding (w ∷ ws) = let rest = holding ws in (32 ∷ (w ++ rest.0), refl, ([], rest.0, refl, rest.1, rest.2))
