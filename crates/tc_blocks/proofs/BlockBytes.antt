-- How many bytes of a block have come.
use Rattle.std.{proofs.{Common.{ℕ, Bool, true, false, ◌≡◌, ◌≢◌, ◌==◌, ◌⊎◌, inl, inr, ◌&&◌, ◌∙◌, ◌+◌, ◌<◌, ◌≤◌, if◌then◌else◌, List, [], ◌∷◌, ◌++◌, ap, drop, get_or, length, subst, sym, take, refl, append_assoc}, lemmas.{Bool.{Decides.eqb_tells, eq-eqb, le-ltb, lt-ltb}, List.{append-nil, take-append-drop, take_more}}, Math.Seq.drop-cons}, specs.Prelude.{nat_eq, nat_lt}}
use native.Mathlib.Numerals.{unary_clauses}
use Rattle.tc_blocks.specs.{Inside.{IsOpenAfter, blocks_fit, ends_block, is_due}, Limit.may_come, declared.limit.OpenBytes.OpenBytes}

not_same : (a b : ℕ) → a ≢ b → (a == b) ≡ false
not_same a b other = go (eqb_tells a b)
  where
    go : ((nat_eq a b ≡ true) × (a ≡ b)) ⊎ ((nat_eq a b ≡ false) × (a ≢ b)) → (a == b) ≡ false
    go (inl same) = absurd (other same.1)
    go (inr same) = same.0

module _ (most : ℕ) (text : List ℕ) (o : OpenBytes) (byte : ℕ) (so : IsOpenAfter most text o) where
  by_tests : (room is_lf : Bool) (rest : List ℕ) → nat_lt o.bytes most ≡ room → (byte == 10) ≡ is_lf → blocks_fit most (text ++ byte ∷ rest)
      ≡ (room && (if is_lf then may_come most (if ends_block so.line then 0 else o.bytes + 1) [] rest else may_come most (o.bytes + 1) (so.line ++ byte ∷ []) rest))
  by_tests room is_lf rest has ends =
      so.comes (byte ∷ rest)
      ∙ (ap (λ t. t && (if byte == 10 then may_come most (if ends_block so.line then 0 else o.bytes + 1) [] rest else may_come most (o.bytes + 1) (so.line ++ byte ∷ []) rest)) has
      ∙ ap (λ t. room && (if t then may_come most (if ends_block so.line then 0 else o.bytes + 1) [] rest else may_come most (o.bytes + 1) (so.line ++ byte ∷ []) rest)) ends)

  -- a byte more than a block may have
  pub byte_exceeds : most ≤ o.bytes → (rest : List ℕ) → blocks_fit most (text ++ byte ∷ rest) ≡ false
  byte_exceeds full rest = by_tests false (byte == 10) rest (le-ltb o.bytes most full) refl

  -- a byte of the line
  pub byte_comes : (next : OpenBytes) → o.bytes < most → byte ≢ 10 → next.bytes ≡ o.bytes + 1 → ((more : List ℕ) → is_due o.due (byte ∷ more) ≡ is_due next.due more) → IsOpenAfter most (text ++ byte ∷ []) next
  byte_comes next room other more due = record {
    line = so.line ++ byte ∷ [];
    due = λ rest. ap ends_block (append_assoc so.line (byte ∷ []) rest) ∙ (so.due (byte ∷ rest) ∙ due rest);
    comes = λ rest.
        ap (blocks_fit most) (append_assoc text (byte ∷ []) rest) ∙ (by_tests true false rest (lt-ltb o.bytes most room) (not_same byte 10 other)
        ∙ ap (λ n. may_come most n (so.line ++ byte ∷ []) rest) (sym more));
  }

  -- the end of the line, and of the block or not
  by_end : (next : OpenBytes) (last : Bool) → o.bytes < most → byte ≡ 10 → is_due o.due [] ≡ last → next.bytes ≡ (if last then 0 else o.bytes + 1) → ((more : List ℕ) → ends_block more ≡ is_due next.due more) → IsOpenAfter most (text ++ byte ∷ []) next
  by_end next last room is last_is more due = record {
    line = [];
    due = due;
    comes = λ rest.
        let ended : ends_block so.line ≡ last = ap ends_block (sym (append-nil so.line)) ∙ (so.due [] ∙ last_is) in
        ap (blocks_fit most) (append_assoc text (byte ∷ []) rest) ∙ (by_tests true true rest (lt-ltb o.bytes most room) (eq-eqb byte 10 is)
        ∙ (ap (λ t. may_come most (if t then 0 else o.bytes + 1) [] rest) ended ∙ ap (λ n. may_come most n [] rest) (sym more)));
  }

  pub line_ends : (next : OpenBytes) → o.bytes < most → byte ≡ 10 → is_due o.due [] ≡ false → next.bytes ≡ o.bytes + 1 → ((more : List ℕ) → ends_block more ≡ is_due next.due more) → IsOpenAfter most (text ++ byte ∷ []) next
  line_ends next room is last_is more due = by_end next false room is last_is more due

  pub block_ends : (next : OpenBytes) → o.bytes < most → byte ≡ 10 → is_due o.due [] ≡ true → next.bytes ≡ 0 → ((more : List ℕ) → ends_block more ≡ is_due next.due more) → IsOpenAfter most (text ++ byte ∷ []) next
  block_ends next room is last_is more due = by_end next true room is last_is more due

-- ---- a part

pub part_goes_on : (most : ℕ) (text part : List ℕ) (o : OpenBytes) (i d : ℕ) → i < length part → IsOpenAfter most ((text ++ take i part) ++ get_or part i d ∷ []) o → IsOpenAfter most (text ++ take (i + 1) part) o
part_goes_on most text part o i d within so =
    subst (λ l. IsOpenAfter most l o) (append_assoc text (take i part) (get_or part i d ∷ []) ∙ ap (λ l. text ++ l) (sym (take_more part i d within))) so

pub part_too_long : (most : ℕ) (text part rest : List ℕ) (i d : ℕ) → i < length part → ((more : List ℕ) → blocks_fit most ((text ++ take i part) ++ get_or part i d ∷ more) ≡ false)
    → blocks_fit most (text ++ (part ++ rest)) ≡ false
part_too_long most text part rest i d within long =
    let cut : drop i part ≡ get_or part i d ∷ drop (i + 1) part = simp unary_clauses (drop-cons part i d within) in
    ap (blocks_fit most) (
    ap (λ l. text ++ (l ++ rest)) (sym (take-append-drop i part))
    ∙ (ap (λ l. text ++ l) (append_assoc (take i part) (drop i part) rest)
    ∙ (sym (append_assoc text (take i part) (drop i part ++ rest)) ∙ ap (λ l. (text ++ take i part) ++ (l ++ rest)) cut))
    )
    ∙ long (drop (i + 1) part ++ rest)
