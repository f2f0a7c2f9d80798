-- How a page holds a text.
use Rattle.std.{proofs.{Common.{ℕ, ◌≡◌, ◌∙◌, ◌==◌, ◌&&◌, not, nat_lt, Bool, true, false, if◌then◌else◌, List, [], ◌∷◌, ◌++◌, refl, ap, arith}, lemmas.Bool.Decides.nat_tests}, specs.List.list_all}
use Rattle.tc_text.proofs.Lemmas.Digits.{both}
use Rattle.tc_answer.specs.Page.{held, shown}

-- the bytes are not `<`
abbrev pub AreTagless : List ℕ → Type 0
AreTagless bs = list_all (λ b. not (b == 60)) bs ≡ true

tagless_more : (b : ℕ) (rest : List ℕ) (t : Bool) → (b == 60) ≡ t → AreTagless rest → AreTagless ((if t then 226 ∷ 128 ∷ 185 ∷ [] else b ∷ []) ++ rest)
tagless_more b rest true is all = all
tagless_more b rest false other all = ap (λ (t : Bool). not t && list_all (λ x. not (x == 60)) rest) other ∙ all

pub tagless : (text : List ℕ) → AreTagless (held text)
tagless [] = refl
tagless (b ∷ bs) = tagless_more b (held bs) (b == 60) refl (tagless bs)

-- what a byte of a page is shown as
abbrev shown_byte : ℕ → List ℕ
shown_byte b = if b == 226 then 60 ∷ [] else if nat_lt b 128 then b ∷ [] else []

low_byte : (b : ℕ) → nat_lt b 128 ≡ true → shown_byte b ≡ b ∷ []
low_byte b low = grind (arith, nat_tests)

again_more : (b : ℕ) (rest text : List ℕ) (t : Bool) → (b == 60) ≡ t → nat_lt b 128 ≡ true → shown rest ≡ text → shown ((if t then 226 ∷ 128 ∷ 185 ∷ [] else b ∷ []) ++ rest) ≡ b ∷ text
again_more b rest text true is low more = let same : b ≡ 60 = grind (arith, nat_tests) in rw same (ap (λ l. 60 ∷ l) more)
again_more b rest text false other low more = ap (λ l. l ++ shown rest) (low_byte b low) ∙ ap (λ l. b ∷ l) more

pub again : (text : List ℕ) → list_all (λ b. nat_lt b 128) text ≡ true → shown (held text) ≡ text
again [] low = refl
again (b ∷ bs) low =
    let two = both (nat_lt b 128) (list_all (λ x. nat_lt x 128) bs) low in again_more b (held bs) bs (b == 60) refl two.0 (again bs two.1)

same_more : (b : ℕ) (rest : List ℕ) (t : Bool) → not t ≡ true → (if t then 226 ∷ 128 ∷ 185 ∷ [] else b ∷ []) ++ rest ≡ b ∷ rest
same_more b rest true none = absurd cc
same_more b rest false none = refl

pub same : (text : List ℕ) → AreTagless text → held text ≡ text
same [] none = refl
same (b ∷ bs) none =
    let two = both (not (b == 60)) (list_all (λ x. not (x == 60)) bs) none in same_more b (held bs) (b == 60) two.0 ∙ ap (λ l. b ∷ l) (same bs two.1)
