-- The part of a history by a run, and what a run left.
use Rattle.std.proofs.Common.{zero, suc, ◌++◌, slice_index_or, ◌≡◌, ℕ, ◌==◌, if◌then◌else◌, option_map, Bool, true, false, Option, Some, None, List, [], ◌∷◌, refl, sym, ap, ◌∙◌}
use Rattle.tc_rules.specs.Prelude.{Comp, Entry, Op, is_ok, comp_of, first_some, starts_run, part, is_by}
use Rattle.tc_book.specs.{Inside.KnowsStarts, Inside.comp_by, Inside.start_at, OpenCase.start_of, Inside.starts_with}

with_comp : (op : Op) (b : ℕ) → starts_run op b ≡ option_map (λ s. s.0) (starts_with op b)
with_comp (Op.Start c run args) b = by_test (run.0 == b)
  where
    by_test : (t : Bool) → (if t then Some c else None) ≡ option_map (λ s. s.0) (if t then Some (let s : Comp × List Comp = (c, args) in s) else None)
    by_test true = refl
    by_test false = refl
with_comp _ b = refl

-- the component of a run is that of its start
pub comp_is : (past : List Entry) (b : ℕ) → comp_of past b ≡ comp_by b (start_of past b)
comp_is [] b = by_test (b == 0)
  where
    by_test : (t : Bool) → (if t then Some (let z : Comp = record { 0 = 0 } in z) else None) ≡ (if t then Some (record { 0 = 0 }) else None)
    by_test true = refl
    by_test false = refl
comp_is (e ∷ past) b =
    ap (λ o. first_some o (if is_ok e.reply then starts_run e.op b else None)) (comp_is past b)
    ∙ by_test (b == 0) (is_ok e.reply) (start_of past b) (starts_with e.op b) (starts_run e.op b) (with_comp e.op b)
  where
    by_test : (t ok : Bool) (before now : Option (Comp × List Comp)) (comp : Option Comp) → comp ≡ option_map (λ s. s.0) now →
        first_some (if t then Some (record { 0 = 0 }) else option_map (λ s. s.0) before) (if ok then comp else None)
        ≡ (if t then Some (record { 0 = 0 }) else option_map (λ s. s.0) (first_some before (if ok then now else None)))
    by_test true ok before now comp h = refl
    by_test false ok (Some x) now comp h = refl
    by_test false true None now comp h = h
    by_test false false None now comp h = refl

pub comp_known : (starts : List (Option (Comp × List Comp))) (past : List Entry) (b : ℕ) → KnowsStarts starts past → comp_by b (start_at starts b) ≡ comp_of past b
comp_known starts past b known = ap (comp_by b) (known b) ∙ sym (comp_is past b)

pub none_more : (xs : List (List Entry)) (b : ℕ) → ((k : ℕ) → slice_index_or xs k [] ≡ []) → slice_index_or (xs ++ [] ∷ []) b [] ≡ []
none_more [] zero h = refl
none_more [] (suc b) h = refl
none_more (x ∷ xs) zero h = h 0
none_more (x ∷ xs) (suc b) h = none_more xs b (λ k. h (suc k))

-- one entry more at the end
pub part_end : (h : List Entry) (e : Entry) (b : ℕ) → part (h ++ e ∷ []) b ≡ part h b ++ (if is_by b e then e ∷ [] else [])
unfolding part
part_end [] e b = by_test (e.caller.0 == b)
  where
    by_test : (t : Bool) → (if t then e ∷ [] else []) ≡ [] ++ (if t then e ∷ [] else [])
    by_test true = refl
    by_test false = refl
part_end (x ∷ h) e b = by_test (x.caller.0 == b) (part_end h e b)
  where
    by_test : (t : Bool) → part (h ++ e ∷ []) b ≡ part h b ++ (if is_by b e then e ∷ [] else []) →
        (if t then x ∷ part (h ++ e ∷ []) b else part (h ++ e ∷ []) b) ≡ (if t then x ∷ part h b else part h b) ++ (if is_by b e then e ∷ [] else [])
    by_test true more = ap (λ l. x ∷ l) more
    by_test false more = more
