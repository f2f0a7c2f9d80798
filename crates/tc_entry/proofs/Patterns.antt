-- The places of a name that a pattern leads to.
use Rattle.std.{proofs.{Common.{ℕ, ◌≡◌, ◌==◌, ◌+◌, ◌∙◌, ◌&&◌, ◌||◌, Bool, true, false, List, [], ◌∷◌, ap, arith, length, map, refl, slice_index_or, subst, suc, sym, true≢false}, lemmas.Bool.ne_eqb, lemmas.Grind.common_steps}, specs.{List.list_any, Str.bytes_eq}}
use Rattle.tc_entry.specs.{Inside.any_of, Inside.behind, Inside.passed, Name.matches}

-- ---- how many places there are

pub behind_length : (reached : Bool) (places : List Bool) → length (behind reached places) ≡ length places
behind_length reached [] = refl
behind_length reached (place ∷ places) = ap suc (behind_length (reached || place) places)

pub passed_length : (reached : Bool) (byte : ℕ) (name : List ℕ) (places : List Bool) → length places ≡ length name + 1
    → length (passed reached byte name places) ≡ length name + 1
passed_length reached byte [] places long = refl
passed_length reached byte (b ∷ bs) [] long = absurd (grind (arith, common_steps, long))
passed_length reached byte (b ∷ bs) (place ∷ places) long =
    let rest = passed_length (place && (byte == b)) byte bs places (grind (arith, common_steps, long)) in
    grind (arith, common_steps, rest)

-- ---- the first place

either_none : (test : List ℕ → Bool) (name other : List ℕ) → any_of test (map (λ b. false) other) name ≡ false
either_none test name [] = refl
either_none test [] (o ∷ others) = refl
either_none test (b ∷ bs) (o ∷ others) = either_none test bs others

or_none : (a c : Bool) → c ≡ false → (a || c) ≡ a
or_none true c is = refl
or_none false c is = is

and_true : (a : Bool) → (a && true) ≡ a
and_true true = refl
and_true false = refl

and_false : (a : Bool) → (a && false) ≡ false
and_false true = refl
and_false false = refl

-- at the first place the test is of the whole name
pub first_alone : (test : List ℕ → Bool) (name other : List ℕ) → any_of test (true ∷ map (λ b. false) other) name ≡ test name
first_alone test [] other = refl
first_alone test (b ∷ bs) other = or_none (test (b ∷ bs)) (any_of test (map (λ b. false) other) bs) (either_none test bs other)

-- ---- a star

or_with : (carry r t e x : Bool) → (((carry || r) && t) || (((carry || r) && e) || x)) ≡ ((carry && (t || e)) || ((r && (t || e)) || x))
or_with true r true e x = refl
or_with true true false true x = refl
or_with true true false false x = refl
or_with true false false true x = refl
or_with true false false false x = refl
or_with false true true e x = refl
or_with false true false true x = refl
or_with false true false false x = refl
or_with false false t e x = refl

or_end : (carry r t : Bool) → ((carry || r) && t) ≡ ((carry && t) || (r && t))
or_end true r true = refl
or_end true true false = refl
or_end true false false = refl
or_end false r t = refl

pub behind_is : (rest : List ℕ) (reached : Bool) (places : List Bool) (name : List ℕ) → length places ≡ length name + 1
    → any_of (matches rest) (behind reached places) name ≡ ((reached && matches (42 ∷ rest) name) || any_of (matches (42 ∷ rest)) places name)
behind_is rest reached [] name long = absurd (grind (arith, common_steps, long))
behind_is rest reached (place ∷ places) [] long = or_end reached place (matches rest [])
behind_is rest reached (place ∷ places) (b ∷ bs) long =
    ap (λ x. ((reached || place) && matches rest (b ∷ bs)) || x) (behind_is rest (reached || place) places bs (grind (arith, common_steps, long)))
    ∙ or_with reached place (matches rest (b ∷ bs)) (matches (42 ∷ rest) bs) (any_of (matches (42 ∷ rest)) places bs)

-- ---- another byte

and_with : (r same t y : Bool) → (((r && same) && t) || y) ≡ ((r && (same && t)) || y)
and_with true same t y = refl
and_with false same t y = refl

pub passed_is : (rest : List ℕ) (byte : ℕ) (reached : Bool) (name : List ℕ) (places : List Bool) → (byte == 42) ≡ false → length places ≡ length name + 1
    → any_of (matches rest) (passed reached byte name places) name ≡ ((reached && matches rest name) || any_of (matches (byte ∷ rest)) places name)
passed_is rest byte reached name [] other long = absurd (grind (arith, common_steps, long))
passed_is rest byte reached [] (place ∷ places) other long = rw other (sym (or_none (reached && matches rest []) (place && false) (and_false place)))
passed_is rest byte reached (b ∷ bs) (place ∷ places) other long =
    let next = passed_is rest byte (place && (byte == b)) bs places other (grind (arith, common_steps, long)) in
    rw other (ap (λ x. (reached && matches rest (b ∷ bs)) || x) (next ∙ and_with place (byte == b) (matches rest bs) (any_of (matches (byte ∷ rest)) places bs)))

-- ---- the end

some_left : (n : ℕ) → (suc n == 0) ≡ false
some_left n = ne_eqb (suc n) 0 (omega arith)

pub at_end : (places : List Bool) (name : List ℕ) → length places ≡ length name + 1
    → slice_index_or places (length name) false ≡ any_of (matches []) places name
at_end [] name long = absurd (grind (arith, common_steps, long))
at_end (place ∷ places) [] long = sym (and_true place)
at_end (place ∷ places) (b ∷ bs) long =
    rw (some_left (length bs)) (at_end places bs (grind (arith, common_steps, long)) ∙ sym (ap (λ x. x || any_of (matches []) places bs) (and_false place)))

-- ---- a pattern without a star

or_left : (a b : Bool) → (a || b) ≡ false → a ≡ false
or_left true b none = none
or_left false b none = refl

or_right : (a b : Bool) → (a || b) ≡ false → b ≡ false
or_right false b none = none
or_right true b none = absurd (true≢false none)

-- it matches only itself
pub matches_same : (pattern name : List ℕ) → list_any (λ b. b == 42) pattern ≡ false → matches pattern name ≡ bytes_eq pattern name
matches_same [] [] none = refl
matches_same [] (b ∷ bs) none = some_left (length bs)
matches_same (byte ∷ bytes) [] none = rw (or_left (byte == 42) (list_any (λ b. b == 42) bytes) none) refl
matches_same (byte ∷ bytes) (b ∷ bs) none =
    let rest = list_any (λ b. b == 42) bytes in
    rw (or_left (byte == 42) rest none) (ap (λ x. (byte == b) && x) (matches_same bytes bs (or_right (byte == 42) rest none)))

-- ---- a byte of the pattern more

pub first_length : (name : List ℕ) → length (true ∷ map (λ b. false) name) ≡ length name + 1
first_length [] = refl
first_length (b ∷ bs) =
    let rest = first_length bs in
    grind (arith, common_steps, rest)

-- the rest of the pattern matches what follows one of these places of a name exactly if the whole matches the name
abbrev Leads : List ℕ → List Bool → List ℕ → List ℕ → Type 0
Leads rest places name whole = (any_of (matches rest) places name ≡ matches whole name) × (length places ≡ length name + 1)

behind_leads : (rest name whole : List ℕ) (places : List Bool) → Leads (42 ∷ rest) places name whole → Leads rest (behind false places) name whole
behind_leads rest name whole places so = (behind_is rest false places name so.1 ∙ so.0, behind_length false places ∙ so.1)

passed_leads : (rest name whole : List ℕ) (byte : ℕ) (places : List Bool) → (byte == 42) ≡ false → Leads (byte ∷ rest) places name whole
    → Leads rest (passed false byte name places) name whole
passed_leads rest name whole byte places other so =
    (passed_is rest byte false name places other so.1 ∙ so.0, passed_length false byte name places so.1)

pub next_behind : (bytes rest : List ℕ) (byte : ℕ) (name whole : List ℕ) (places given after : List Bool) → bytes ≡ byte ∷ rest → byte ≡ 42
    → given ≡ places → after ≡ behind false given → Leads bytes places name whole → Leads rest after name whole
next_behind bytes rest byte name whole places given after is star same are so =
    let from = subst (λ bs. Leads bs places name whole) (is ∙ ap (λ b. b ∷ rest) star) so in
    subst (λ l. Leads rest l name whole) (sym (are ∙ ap (behind false) same)) (behind_leads rest name whole places from)

pub next_passed : (bytes rest : List ℕ) (byte : ℕ) (name whole : List ℕ) (places given after : List Bool) → bytes ≡ byte ∷ rest → (byte ≡ 42 → ⊥)
    → given ≡ places → after ≡ passed false byte name given → Leads bytes places name whole → Leads rest after name whole
next_passed bytes rest byte name whole places given after is other same are so =
    let from = subst (λ bs. Leads bs places name whole) is so in
    subst (λ l. Leads rest l name whole) (sym (are ∙ ap (passed false byte name) same)) (passed_leads rest name whole byte places (ne_eqb byte 42 other) from)
