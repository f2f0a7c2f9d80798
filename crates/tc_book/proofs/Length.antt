-- A history is as long as its parts together.
use Rattle.std.proofs.{Common.{ℕ, ◌≡◌, ◌≢◌, ◌+◌, ◌≤◌, ◌==◌, cond, if◌then◌else◌, Bool, true, false, List, [], ◌∷◌, length, count_by, refl, ap, sym, ◌∙◌, eq-eqb, arith, subst, inl, inr}, lemmas.Bool.{cases_eq, ne_eqb}, lemmas.List.Sums.sum_by-cons}
use Rattle.tc_rules.specs.{Prelude.{Entry, log_of, logged, is_by, part}, declared.run_log.RunLog.RunLog}
use Rattle.tc_book.proofs.PartOfMerge.{entries_by, part_same, part_miss}

-- this is a log of run b
abbrev pub is_log_of : ℕ → RunLog → Bool
is_log_of b l = l.run.0 == b

-- no run has two logs
abbrev pub HaveDistinctRuns : List RunLog → Type 0
HaveDistinctRuns logs = (b : ℕ) → count_by (is_log_of b) logs ≤ 1

-- the entries that are not by run b
abbrev without : ℕ → List Entry → List Entry
without b [] = []
without b (e ∷ h) = if is_by b e then without b h else e ∷ without b h

split : (b : ℕ) (h : List Entry) → length h ≡ length (entries_by h b) + length (without b h)
split b [] = refl
split b (e ∷ h) = by_test (e.caller.0 == b) (split b h)
  where
    by_test : (t : Bool) → length h ≡ length (entries_by h b) + length (without b h) →
        length (e ∷ h) ≡ length (if t then e ∷ entries_by h b else entries_by h b) + length (if t then without b h else e ∷ without b h)
    by_test true more = omega arith
    by_test false more = omega arith

none_without : (b : ℕ) (h : List Entry) → entries_by (without b h) b ≡ []
none_without b [] = refl
none_without b (e ∷ h) = elim (cases_eq e.caller.0 b) [
  | inl same ↦ let test : (e.caller.0 == b) ≡ true = eq-eqb e.caller.0 b same in rw test (none_without b h)
  | inr other ↦ let test : (e.caller.0 == b) ≡ false = ne_eqb e.caller.0 b other in rw (test, test) (none_without b h)
]

others_without : (b c : ℕ) (h : List Entry) → b ≢ c → entries_by (without b h) c ≡ entries_by h c
others_without b c [] apart = refl
others_without b c (e ∷ h) apart = elim (cases_eq e.caller.0 b) [
  | inl same ↦
      let test : (e.caller.0 == b) ≡ true = eq-eqb e.caller.0 b same in
      let miss : entries_by (e ∷ h) c ≡ entries_by h c = part_miss h e c (λ k. apart (sym same ∙ k)) in
      rw test (others_without b c h apart ∙ sym miss)
  | inr other ↦
      let test : (e.caller.0 == b) ≡ false = ne_eqb e.caller.0 b other in
      rw test (by_test (e.caller.0 == c) (others_without b c h apart))
]
  where
    by_test : (t : Bool) → entries_by (without b h) c ≡ entries_by h c →
        (if t then e ∷ entries_by (without b h) c else entries_by (without b h) c) ≡ (if t then e ∷ entries_by h c else entries_by h c)
    by_test true more = ap (λ l. e ∷ l) more
    by_test false more = more

nobody : (h : List Entry) → ((b : ℕ) → entries_by h b ≡ []) → h ≡ []
nobody [] none = refl
nobody (e ∷ h) none = let q : e ∷ entries_by h e.caller.0 ≡ [] = sym (part_same h e e.caller.0 refl) ∙ none e.caller.0 in absurd cc

counted : (b : ℕ) (l : RunLog) (ls : List RunLog) → count_by (is_log_of b) (l ∷ ls) ≡ cond (l.run.0 == b) 1 0 + count_by (is_log_of b) ls
counted b l ls = sum_by-cons (λ (m : RunLog). cond (is_log_of b m) 1 0) l ls

unnamed : (b : ℕ) (ls : List RunLog) → count_by (is_log_of b) ls ≡ 0 → log_of ls b ≡ []
unnamed b [] none = refl
unnamed b (l ∷ ls) none = elim (cases_eq l.run.0 b) [
  | inl same ↦
      let test : (l.run.0 == b) ≡ true = eq-eqb l.run.0 b same in
      let k : count_by (is_log_of b) (l ∷ ls) ≡ 1 + count_by (is_log_of b) ls = counted b l ls ∙ rw test refl in
      absurd (omega arith)
  | inr other ↦
      let test : (l.run.0 == b) ≡ false = ne_eqb l.run.0 b other in
      let zero_more : cond {A = ℕ} (l.run.0 == b) 1 0 ≡ 0 = rw test refl in
      let k : count_by (is_log_of b) (l ∷ ls) ≡ count_by (is_log_of b) ls = omega (arith, counted b l ls, zero_more) in
      rw test (unnamed b ls (sym k ∙ none))
]

fewer : (b : ℕ) (l : RunLog) (ls : List RunLog) → count_by (is_log_of b) (l ∷ ls) ≤ 1 → count_by (is_log_of b) ls ≤ 1
fewer b l ls few = by_test (l.run.0 == b) (counted b l ls)
  where
    by_test : (t : Bool) → count_by (is_log_of b) (l ∷ ls) ≡ cond t 1 0 + count_by (is_log_of b) ls → count_by (is_log_of b) ls ≤ 1
    by_test true k = omega arith
    by_test false k = omega arith

as_long : (h : List Entry) (logs : List RunLog) → ((b : ℕ) → entries_by h b ≡ log_of logs b) → HaveDistinctRuns logs → length h ≡ logged logs
as_long h [] parts one = ap length (nobody h parts)
as_long h (l ∷ ls) parts one =
    let b : ℕ = l.run.0 in
    let test : (b == b) ≡ true = eq-eqb b b refl in
    let k : count_by (is_log_of b) (l ∷ ls) ≡ 1 + count_by (is_log_of b) ls = counted b l ls ∙ rw test refl in
    let none : log_of ls b ≡ [] = unnamed b ls (omega (arith, one b)) in
    let own : entries_by h b ≡ l.entries = parts b ∙ rw test refl in
    let rest : (c : ℕ) → entries_by (without b h) c ≡ log_of ls c = λ c. elim (cases_eq b c) [
      | inl same ↦ subst (λ c. entries_by (without b h) c ≡ log_of ls c) same (none_without b h ∙ sym none)
      | inr other ↦
          let miss : (b == c) ≡ false = ne_eqb b c other in
          let e : log_of (l ∷ ls) c ≡ log_of ls c = rw miss refl in
          others_without b c h other ∙ (parts c ∙ e)
    ] in
    let more : length (without b h) ≡ logged ls = as_long (without b h) ls rest (λ c. fewer c l ls (one c)) in
    omega (arith, split b h, ap length own, more, sum_by-cons (λ (m : RunLog). length m.entries) l ls)

as_part : (h : List Entry) (b : ℕ) → entries_by h b ≡ part h b
unfolding part
as_part h b = refl

-- a history is as long as the logs that are its parts
pub long_by_parts : (h : List Entry) (logs : List RunLog) → ((b : ℕ) → part h b ≡ log_of logs b) → HaveDistinctRuns logs → length h ≡ logged logs
long_by_parts h logs parts one = as_long h logs (λ b. as_part h b ∙ parts b) one
