-- The chosen ones of the test cases that were made of a script are those of the chosen ones of the script, and all
-- shards together have each. The number of a line before its words.
use Rattle.std.{proofs.{Common.{ℕ, ◌≡◌, ◌∙◌, ◌+◌, ◌<◌, ◌↔◌, ◌⊎◌, inl, inr, ◌&&◌, ◌||◌, Bool, true, false, List, [], ◌∷◌, Option, Some, None, Ok, All, ap, ap₂, refl, subst, sym, true≢false, ◌++◌, codes, append_assoc, ◌%◌}, lemmas.{Bool.{eq-eqb, eqb-true}, List.Elements.{All-cons, All-filter, All-head, All-tail}}, Math.Nat.mod-lt}, specs.{Fmt.decimal, List.{AllZip, list_any}, Prelude.{filter, if◌then◌else◌, map}}}
use Rattle.tc_rules.specs.Prelude.{matches, IsShard, ShardView, has_place}
use Rattle.tc_exec.specs.declared.test_case.Case.{Case}
use Rattle.tc_step.specs.Prelude.{ScriptView}
use Rattle.tc_command.specs.declared.task.Choice.{Choice}
use Rattle.tc_reader.specs.Prelude.{CampaignView, campaign, IsCase, Word, among, has_twice, is_text}
use Rattle.tc_answer.specs.{Choosing.{AreChosen, CaseView, RefusesChoice, case_name, chosen, have_names, is_asked, placed_in_shard}, Inside.{AreReadyAs, IsCaseOf, case_parts, named, place_text, script_name}, declared.fault.RunFault.RunFault}

module _ {C : Type 0} (P : C → Type 0) where
  all_with : (b : Bool) (c : C) (cs : List C) → P c → All P cs → All P (if b then c ∷ cs else cs)
  all_with true c cs one rest = All-cons P c cs one rest
  all_with false c cs one rest = rest

  all_placed : (s : ShardView) (place : ℕ) (cs : List C) → All P cs → All P (placed_in_shard s place cs)
  all_placed s place [] each = each
  all_placed s place (c ∷ cs) each =
      all_with (has_place s place) c (placed_in_shard s (place + 1) cs) (All-head P c cs each) (all_placed s (place + 1) cs (All-tail P c cs each))

  pub all_chosen : (name_of : C → List ℕ) (only : List (List ℕ)) (shard : Option ShardView) (cs : List C) → All P cs → All P (chosen name_of only shard cs)
  all_chosen name_of only None cs each = All-filter (λ c. is_asked only (name_of c)) P cs each
  all_chosen name_of only (Some s) cs each = all_placed s 0 (named name_of only cs) (All-filter (λ c. is_asked only (name_of c)) P cs each)

-- ---- names that are there once

pub or_left : (a b : Bool) → (a || b) ≡ false → a ≡ false
or_left false b e = refl
or_left true b e = absurd cc

pub or_right : (a b : Bool) → (a || b) ≡ false → b ≡ false
or_right false b e = e
or_right true b e = absurd cc

no_both : (a b : Bool) → a ≡ false → b ≡ false → (a || b) ≡ false
no_both false b one other = other
no_both true b one other = absurd cc

abbrev has_name : Word → List CaseView → Bool
has_name n cs = among n (map (λ c. c.0) cs)

abbrev IsDistinct : List CaseView → Type 0
IsDistinct cs = has_twice (map (λ c. c.0) cs) ≡ false

-- a name that is none of those of test cases is none of those of a part of them
unnamed_with : (n : Word) (b : Bool) (c : CaseView) (cs : List CaseView) → is_text n c.0 ≡ false → has_name n cs ≡ false → has_name n (if b then c ∷ cs else cs) ≡ false
unfolding among
unnamed_with n true c cs one rest = no_both (is_text n c.0) (list_any (is_text n) (map (λ c. c.0) cs)) one rest
unnamed_with n false c cs one rest = rest

distinct_with : (b : Bool) (c : CaseView) (cs : List CaseView) → has_name c.0 cs ≡ false → IsDistinct cs → IsDistinct (if b then c ∷ cs else cs)
distinct_with true c cs new rest = no_both (has_name c.0 cs) (has_twice (map (λ c. c.0) cs)) new rest
distinct_with false c cs new rest = rest

module _ (test : CaseView → Bool) where
  unnamed_filtered : (n : Word) (cs : List CaseView) → has_name n cs ≡ false → has_name n (filter test cs) ≡ false
  unfolding among
  unnamed_filtered n [] other = other
  unnamed_filtered n (c ∷ cs) other =
      let rest = list_any (is_text n) (map (λ c. c.0) cs) in
      unnamed_with n (test c) c (filter test cs) (or_left (is_text n c.0) rest other) (unnamed_filtered n cs (or_right (is_text n c.0) rest other))

  pub distinct_filtered : (cs : List CaseView) → IsDistinct cs → IsDistinct (filter test cs)
  distinct_filtered [] each = each
  distinct_filtered (c ∷ cs) each =
      let new = or_left (has_name c.0 cs) (has_twice (map (λ c. c.0) cs)) each in
      let rest = or_right (has_name c.0 cs) (has_twice (map (λ c. c.0) cs)) each in
      distinct_with (test c) c (filter test cs) (unnamed_filtered c.0 cs new) (distinct_filtered cs rest)

module _ (s : ShardView) where
  unnamed_placed : (n : Word) (place : ℕ) (cs : List CaseView) → has_name n cs ≡ false → has_name n (placed_in_shard s place cs) ≡ false
  unfolding among
  unnamed_placed n place [] other = other
  unnamed_placed n place (c ∷ cs) other =
      let rest = list_any (is_text n) (map (λ c. c.0) cs) in
      unnamed_with n (has_place s place) c (placed_in_shard s (place + 1) cs) (or_left (is_text n c.0) rest other) (unnamed_placed n (place + 1) cs (or_right (is_text n c.0) rest other))

  distinct_placed : (place : ℕ) (cs : List CaseView) → IsDistinct cs → IsDistinct (placed_in_shard s place cs)
  distinct_placed place [] each = each
  distinct_placed place (c ∷ cs) each =
      let new = or_left (has_name c.0 cs) (has_twice (map (λ c. c.0) cs)) each in
      let rest = or_right (has_name c.0 cs) (has_twice (map (λ c. c.0) cs)) each in
      distinct_with (has_place s place) c (placed_in_shard s (place + 1) cs) (unnamed_placed c.0 (place + 1) cs new) (distinct_placed (place + 1) cs rest)

-- the chosen ones of test cases with different names have different names
distinct_chosen : (only : List Word) (shard : Option ShardView) (cs : List CaseView) → IsDistinct cs → IsDistinct (chosen script_name only shard cs)
distinct_chosen only None cs each = distinct_filtered (λ c. is_asked only c.0) cs each
distinct_chosen only (Some s) cs each = distinct_placed s 0 (named script_name only cs) (distinct_filtered (λ c. is_asked only c.0) cs each)

-- of two lists, place by place, those that pass tests which agree
module _ {A B : Type 0} (R : A → B → Type 0) where
  pub zip_with : (a b : Bool) (x : A) (y : B) (xs : List A) (ys : List B) → a ≡ b → R x y → AllZip R xs ys → AllZip R (if a then x ∷ xs else xs) (if b then y ∷ ys else ys)
  zip_with true true x y xs ys same one rest = (one, rest)
  zip_with false false x y xs ys same one rest = rest
  zip_with true false x y xs ys same one rest = absurd (true≢false same)
  zip_with false true x y xs ys same one rest = absurd (true≢false (sym same))

  pub zip_filter : (p : A → Bool) (q : B → Bool) → ((x : A) (y : B) → R x y → p x ≡ q y) → (xs : List A) (ys : List B) → AllZip R xs ys → AllZip R (filter p xs) (filter q ys)
  zip_filter p q same [] [] each = tt
  zip_filter p q same [] (y ∷ ys) each = absurd each
  zip_filter p q same (x ∷ xs) [] each = absurd each
  zip_filter p q same (x ∷ xs) (y ∷ ys) each = zip_with (p x) (q y) x y (filter p xs) (filter q ys) (same x y each.0) each.0 (zip_filter p q same xs ys each.1)

-- of two lists, each test case with the one at its place
abbrev AreCases : List CaseView → List (Case ScriptView) → Type 0
AreCases cs ks = AllZip IsCaseOf cs ks

zip_named : (only : List (List ℕ)) (cs : List CaseView) (ks : List (Case ScriptView)) → AreCases cs ks → AreCases (named script_name only cs) (named case_name only ks)
zip_named only cs ks each = zip_filter IsCaseOf (λ c. is_asked only (script_name c)) (λ k. is_asked only (case_name k)) (λ c k is. ap (is_asked only) (sym is.name)) cs ks each

zip_placed : (s : ShardView) (place : ℕ) (cs : List CaseView) (ks : List (Case ScriptView)) → AreCases cs ks → AreCases (placed_in_shard s place cs) (placed_in_shard s place ks)
zip_placed s place [] [] each = tt
zip_placed s place [] (k ∷ ks) each = absurd each
zip_placed s place (c ∷ cs) [] each = absurd each
zip_placed s place (c ∷ cs) (k ∷ ks) each =
    zip_with IsCaseOf (has_place s place) (has_place s place) c k (placed_in_shard s (place + 1) cs) (placed_in_shard s (place + 1) ks) refl each.0 (zip_placed s (place + 1) cs ks each.1)

pub zip_chosen : (only : List (List ℕ)) (shard : Option ShardView) (cs : List CaseView) (ks : List (Case ScriptView)) → AreCases cs ks
    → AreCases (chosen script_name only shard cs) (chosen case_name only shard ks)
zip_chosen only None cs ks each = zip_named only cs ks each
zip_chosen only (Some s) cs ks each = zip_placed s 0 (named script_name only cs) (named case_name only ks) (zip_named only cs ks each)

same_any : (pattern : List ℕ) (cs : List CaseView) (ks : List (Case ScriptView)) → AreCases cs ks
    → list_any (λ c. matches pattern (script_name c)) cs ≡ list_any (λ k. matches pattern (case_name k)) ks
same_any pattern [] [] each = refl
same_any pattern [] (k ∷ ks) each = absurd each
same_any pattern (c ∷ cs) [] each = absurd each
same_any pattern (c ∷ cs) (k ∷ ks) each = ap₂ ◌||◌ (ap (matches pattern) (sym each.0.name)) (same_any pattern cs ks each.1)

-- the names are those of the script
pub same_names : (only : List (List ℕ)) (cs : List CaseView) (ks : List (Case ScriptView)) → AreCases cs ks → have_names script_name only cs ≡ have_names case_name only ks
same_names [] cs ks each = refl
same_names (pattern ∷ only) cs ks each = ap₂ ◌&&◌ (same_any pattern cs ks each) (same_names only cs ks each)

-- the chosen ones of test cases that were made of a script are ready to be run
pub ready : (choice : Choice) (text : List ℕ) (all : CampaignView) (made ks : List (Case ScriptView)) → campaign text ≡ Ok all → IsDistinct all → All (λ c. IsCase c.1) all
    → AreCases all made → have_names case_name choice.only.items made ≡ true → ks ≡ chosen case_name choice.only.items choice.shard made → AreReadyAs (AreChosen choice text) ks
ready choice text all made ks spelled distinct lawful each have are =
    let only = choice.only.items in
    let shard = choice.shard in record {
      cases = chosen script_name only shard all;
      chosen = record { all = all; spelled = spelled; named = same_names only all made each ∙ have; are = refl };
      distinct = distinct_chosen only shard all distinct;
      lawful = all_chosen (λ c. IsCase c.1) script_name only shard all lawful;
      each = subst (λ rs. AreCases (chosen script_name only shard all) rs) (sym are) (zip_chosen only shard all made each);
    }

abbrev first_or : {C : Type 0} → C → List C → C
first_or d [] = d
first_or d (c ∷ cs) = c

abbrev rest_of : {C : Type 0} → List C → List C
rest_of [] = []
rest_of (c ∷ cs) = cs

abbrev is_none : {C : Type 0} → List C → Bool
is_none [] = true
is_none (c ∷ cs) = false

-- test cases with the same parts are of the same test cases of a script
same_cases : (cs : List CaseView) (ks rs : List (Case ScriptView)) → AreCases cs ks → map case_parts rs ≡ map case_parts ks → AreCases cs rs
same_cases [] [] [] each same = tt
same_cases [] [] (r ∷ rs) each same = absurd (true≢false (ap is_none (sym same)))
same_cases [] (k ∷ ks) rs each same = absurd each
same_cases (c ∷ cs) [] rs each same = absurd each
same_cases (c ∷ cs) (k ∷ ks) [] each same = absurd (true≢false (ap is_none same))
same_cases (c ∷ cs) (k ∷ ks) (r ∷ rs) each same =
    let at : case_parts r ≡ case_parts k = ap (first_or (case_parts r)) same in (
      record { name = ap (λ p. p.0) at ∙ each.0.name; names = ap (λ p. p.1.0) at ∙ each.0.names; jobs = ap (λ p. p.1.1) at ∙ each.0.jobs },
      same_cases cs ks rs each.1 (ap rest_of same),
    )

-- test cases with the same parts as ready ones are ready
pub still_ready : (Are : CampaignView → Type 0) (ks rs : List (Case ScriptView)) → AreReadyAs Are ks → map case_parts rs ≡ map case_parts ks → AreReadyAs Are rs
still_ready Are ks rs are same =
    record { cases = are.cases; chosen = are.chosen; distinct = are.distinct; lawful = are.lawful; each = same_cases are.cases ks rs are.each same }

-- a name that they do not have is one that the script does not have
pub unready : (choice : Choice) (text : List ℕ) (all : CampaignView) (made : List (Case ScriptView)) (fault : RunFault) → campaign text ≡ Ok all → AreCases all made
    → (fault ≡ RunFault.NoMemory) ⊎ ((fault ≡ RunFault.Only) × (have_names case_name choice.only.items made ≡ false)) → RefusesChoice choice text fault
unready choice text all made fault spelled each (inl is) = subst (RefusesChoice choice text) (sym is) tt
unready choice text all made fault spelled each (inr why) = subst (RefusesChoice choice text) (sym why.0) (all, spelled, same_names choice.only.items all made each ∙ why.1)

-- the number of a line, and the words after it
pub at_place : (line : ℕ) (words : List ℕ) → place_text line ++ words ≡ codes "line " ++ (decimal line ++ (codes ": " ++ words))
unfolding place_text
at_place line words =
    append_assoc (codes "line ") (decimal line ++ codes ": ") words
    ∙ ap (λ l. codes "line " ++ l) (append_assoc (decimal line) (codes ": ") words)

-- the place of a shard that has a test case
place_of : (s : ShardView) (place : ℕ) → has_place s place ≡ true → place % s.shards ≡ s.place
place_of s place has = eqb-true (place % s.shards) s.place has

pub shards_are_all : (shards : ℕ) → 0 < shards → (place : ℕ) → (k : ℕ) × (k < shards) × ((s : ShardView) → IsShard s → s.shards ≡ shards → (has_place s place ≡ true) ↔ (s.place ≡ k))
shards_are_all shards some place = (
  place % shards,
  mod-lt place some,
  λ s is_shard is_of. (λ has. sym (place_of s place has) ∙ ap (λ n. place % n) is_of, λ is. eq-eqb (place % s.shards) s.place (ap (λ n. place % n) is_of ∙ sym is)),
)
