-- Blocks of which the last of each name counts.
use Rattle.std.{proofs.Common.{ℕ, ◌≡◌, ◌∙◌, Bool, true, false, List, [], ◌∷◌, fold, if◌then◌else◌, length, map, refl, ap, ap₂, subst, sym}, specs.{Cmp.Lexicographic.{bytes_decides, pointwise}, List.AllZip, Prelude.nat_eq}}
use Rattle.indexmap.specs.IndexMap.{insert_entry}
use Rattle.tc_blocks.specs.{declared.block.Block.Block}
use Rattle.tc_reader.specs.Prelude.{Word, is_text}
use Rattle.tc_judge.specs.{Inside.{AreJudgedIn, IsJudgedBlock, block_name, judged_name}, Check.{counting, put, that_count}, declared.judged.Judged.Judged}

pub same_word : (a b : Word) → is_text a b ≡ true → a ≡ b
unfolding is_text
same_word a b e = (bytes_decides a b).0 e

module _ {X : Type 0} (name : X → Word) where
  -- what a map from names to blocks has after one more
  abbrev pub takes_in : List (Word × X) → X → List (Word × X)
  takes_in es x = insert_entry (pointwise nat_eq) es (name x) x

  abbrev named : X → Word × X
  named x = (name x, x)

  put_in : (x : X) (xs : List X) → takes_in (map named xs) x ≡ map named (put name xs x)
  unfolding is_text
  put_in x [] = refl
  put_in x (y ∷ xs) = by (put_in x xs) (is_text (name x) (name y)) refl
    where
      by : takes_in (map named xs) x ≡ map named (put name xs x) → (t : Bool) → is_text (name x) (name y) ≡ t
          → (if t then (name y, x) ∷ map named xs else named y ∷ takes_in (map named xs) x) ≡ map named (if t then x ∷ xs else y ∷ put name xs x)
      by rest true k = ap (λ (n : Word). (n, x) ∷ map named xs) (sym (same_word (name x) (name y) k))
      by rest false k = ap (λ (l : List (Word × X)). named y ∷ l) rest

  all_in : (ys xs : List X) → map (λ (e : Word × X). e.1) (fold takes_in (map named ys) xs) ≡ fold (put name) ys xs
  all_in [] [] = refl
  all_in (y ∷ ys) [] = ap (λ (l : List X). y ∷ l) (all_in ys [])
  all_in ys (x ∷ xs) = ap (λ es. map (λ (e : Word × X). e.1) (fold takes_in es xs)) (put_in x ys) ∙ all_in (put name ys x) xs

  -- its blocks are the last of each name
  pub last_values : (xs rest : List X) (es : List (Word × X)) → length rest ≡ 0 → fold takes_in es rest ≡ fold takes_in [] xs → map (λ (e : Word × X). e.1) es ≡ fold (put name) [] xs
  last_values xs [] es none e = ap (map (λ (e : Word × X). e.1)) e ∙ all_in [] xs
  last_values xs (x ∷ rest) es none e = absurd cc

module _ {K : Type 0} (keeps : Block → K → Type 0) where
  put_judged : (b : Block) (j : Judged K) (bs : List Block) (js : List (Judged K)) → IsJudgedBlock keeps b j → AllZip (IsJudgedBlock keeps) bs js
      → AllZip (IsJudgedBlock keeps) (put block_name bs b) (put judged_name js j)
  put_judged b j [] [] is each = (is, tt)
  put_judged b j (c ∷ bs) (k ∷ js) is each =
      subst (λ t. AllZip (IsJudgedBlock keeps) (put block_name (c ∷ bs) b) (if t then j ∷ js else k ∷ put judged_name js j))
      (ap₂ is_text (sym is.name) (sym each.0.name)) (by (is_text (block_name b) (block_name c)) (put_judged b j bs js is each.1))
    where
      by : (t : Bool) → AllZip (IsJudgedBlock keeps) (put block_name bs b) (put judged_name js j)
          → AllZip (IsJudgedBlock keeps) (if t then b ∷ bs else c ∷ put block_name bs b) (if t then j ∷ js else k ∷ put judged_name js j)
      by true rest = (is, each.1)
      by false rest = (each.0, rest)
  put_judged b j _ _ is each = absurd each

  all_put : (cs bs : List Block) (ks js : List (Judged K)) → AllZip (IsJudgedBlock keeps) cs ks → AllZip (IsJudgedBlock keeps) bs js
      → AllZip (IsJudgedBlock keeps) (fold (put block_name) cs bs) (fold (put judged_name) ks js)
  all_put cs [] ks [] before each = before
  all_put cs (b ∷ bs) ks (j ∷ js) before each =
      all_put (put block_name cs b) bs (put judged_name ks j) js (put_judged b j cs ks each.0 before) each.1
  all_put cs _ ks _ before each = absurd each

  those_judged : (last : Bool) (bs : List Block) (js : List (Judged K)) → AllZip (IsJudgedBlock keeps) bs js
      → AllZip (IsJudgedBlock keeps) (counting last bs) (that_count judged_name last js)
  those_judged true bs js each = all_put [] bs [] js tt each
  those_judged false bs js each = each

  -- of blocks that are judged, those that count are
  pub counted_judged : (last : Bool) (text : List ℕ) (js vs : List (Judged K)) → AreJudgedIn keeps false text js → vs ≡ that_count judged_name last js
      → AreJudgedIn keeps last text vs
  counted_judged last text js vs are same = record {
    blocks = are.blocks;
    evidence = are.evidence;
    holds = λ all is. subst (λ l. AllZip (IsJudgedBlock keeps) (counting last all) l) (sym same) (those_judged last all js (are.holds all is));
  }
