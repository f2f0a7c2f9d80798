-- What came back is whole by the merged history, if it is one of each run and its logs are the parts of that history.
use Rattle.std.{proofs.{Common.{ℕ, zero, suc, ◌≡◌, ◌+◌, ◌<◌, ◌≤◌, ◌==◌, cond, if◌then◌else◌, Bool, true, false, Option, None, List, [], ◌∷◌, length, reverse, map, sum_by, count_by, get_or, refl, sym, ap, ◌∙◌, subst, arith, eq-eqb, inl, inr}, lemmas.Bool.Decides.nat_tests, lemmas.Bool.{cases_lt, ne_eqb}, lemmas.List.Sums.sum_by-cons}, specs.List.All}
use Rattle.tc_rules.specs.{Prelude.{Comp, Entry, IsLegal, comp_of, log_of, logged, part}, declared.run_log.RunLog.RunLog}
use Rattle.tc_book.{proofs.{Length.{is_log_of, HaveDistinctRuns, long_by_parts}, InPlace.others-merge, Lemmas.PartOf.comp_known, Reporting.no_others, Skipping.starts_same}, specs.{Closing.{IsFitting, IsMerged, IsOneEach, IsWhole, merged}, Inside.{run_log, is_left_of, AreLogs, ArePlaced, IsJoined, IsSound, KnowsStarts}, OpenCase.OpenCase, Passes.LeftState}}

logged_map : (lefts : List LeftState) → logged (map run_log lefts) ≡ sum_by (λ l. length l.log) lefts
logged_map [] = refl
logged_map (l ∷ lefts) = omega (arith, logged_map lefts, sum_by-cons (λ (r : RunLog). length r.entries) (run_log l) (map run_log lefts), sum_by-cons (λ (m : LeftState). length m.log) l lefts)

-- no run from n on left anything
none_counted : (n : ℕ) (lefts : List LeftState) (b : ℕ) → All (λ l. l.run.0 < n) lefts → n ≤ b → count_by (is_left_of b) lefts ≡ 0
none_counted n [] b within beyond = refl
none_counted n (l ∷ lefts) b within beyond =
    let test : (l.run.0 == b) ≡ false = ne_eqb l.run.0 b (let below = within 0 l (omega arith) in omega (arith, below, beyond)) in
    let this : cond {A = ℕ} (l.run.0 == b) 1 0 ≡ 0 = rw test refl in
    omega (arith, this, none_counted n lefts b (λ k d q. within (suc k) d (omega (arith, q))) beyond, sum_by-cons (λ (m : LeftState). cond (is_left_of b m) 1 0) l lefts)

pub log_beyond : (n : ℕ) (lefts : List LeftState) (b : ℕ) → All (λ l. l.run.0 < n) lefts → n ≤ b → log_of (map run_log lefts) b ≡ []
log_beyond n [] b within beyond = refl
log_beyond n (l ∷ lefts) b within beyond =
    let test : (l.run.0 == b) ≡ false = ne_eqb l.run.0 b (let below = within 0 l (omega arith) in omega (arith, below, beyond)) in
    rw test (log_beyond n lefts b (λ k d q. within (suc k) d (omega (arith, q))) beyond)

counted_map : (lefts : List LeftState) (b : ℕ) → count_by (is_log_of b) (map run_log lefts) ≡ count_by (is_left_of b) lefts
counted_map [] b = refl
counted_map (l ∷ lefts) b =
    omega (arith, counted_map lefts b, sum_by-cons (λ (m : RunLog). cond (is_log_of b m) 1 0) (run_log l) (map run_log lefts), sum_by-cons (λ (m : LeftState). cond (is_left_of b m) 1 0) l lefts)

-- no two of one of each run are of one run
distinct : (n : ℕ) (lefts : List LeftState) → IsOneEach n lefts → HaveDistinctRuns (map run_log lefts)
distinct n lefts one b = elim (cases_lt b n) [
  | inl below ↦ omega (arith, counted_map lefts b, one.each b below)
  | inr beyond ↦ omega (arith, counted_map lefts b, none_counted n lefts b one.within beyond)
]

-- a run that is there is counted
counted : (lefts : List LeftState) (k : ℕ) (d : LeftState) → k < length lefts → 1 ≤ count_by (is_left_of (get_or lefts k d).run.0) lefts
counted [] k d below = absurd (omega arith)
counted (l ∷ lefts) zero d below =
    let test : (l.run.0 == l.run.0) ≡ true = eq-eqb l.run.0 l.run.0 refl in
    let one : ℕ = 1 in
    let this : cond (is_left_of l.run.0 l) one 0 ≡ one = rw test refl in
    omega (arith, this, sum_by-cons (λ (m : LeftState). cond (is_left_of l.run.0 m) 1 0) l lefts)
counted (l ∷ lefts) (suc k) d below =
    let b : ℕ = (get_or lefts k d).run.0 in
    omega (arith, counted lefts k d (omega arith), sum_by-cons (λ (m : LeftState). cond (is_left_of b m) 1 0) l lefts)

-- of what came back of one of each run, the log by a run's number is that of the run
own_log : (lefts : List LeftState) (k : ℕ) (d : LeftState) → k < length lefts → count_by (is_left_of (get_or lefts k d).run.0) lefts ≡ 1 →
    log_of (map run_log lefts) (get_or lefts k d).run.0 ≡ (get_or lefts k d).log
own_log [] k d below one = absurd (omega arith)
own_log (l ∷ lefts) zero d below one = let test : (l.run.0 == l.run.0) ≡ true = eq-eqb l.run.0 l.run.0 refl in rw test refl
own_log (l ∷ lefts) (suc k) d below one =
    by_test (l.run.0 == (get_or lefts k d).run.0) (counted lefts k d (omega arith)) (own_log lefts k d (omega arith)) (sum_by-cons (λ (m : LeftState). cond (is_left_of (get_or lefts k d).run.0 m) 1 0) l lefts)
  where
    by_test : (t : Bool) → 1 ≤ count_by (is_left_of (get_or lefts k d).run.0) lefts →
        (count_by (is_left_of (get_or lefts k d).run.0) lefts ≡ 1 → log_of (map run_log lefts) (get_or lefts k d).run.0 ≡ (get_or lefts k d).log) →
        count_by (is_left_of (get_or lefts k d).run.0) (l ∷ lefts) ≡ cond t 1 0 + count_by (is_left_of (get_or lefts k d).run.0) lefts →
        (if t then l.log else log_of (map run_log lefts) (get_or lefts k d).run.0) ≡ (get_or lefts k d).log
    by_test true there before count = absurd (omega (arith, one, there, count))
    by_test false there before count = before (omega (arith, one, count))

-- if what came back fits a history, the log by a run's number is the run's part of it
pub log_of_fits : (h : List Entry) (lefts : List LeftState) (b : ℕ) → 1 ≤ count_by (is_left_of b) lefts → All (IsFitting h) lefts → log_of (map run_log lefts) b ≡ part h b
log_of_fits h [] b some fits = absurd (omega arith)
log_of_fits h (l ∷ lefts) b some fits =
    by_test (l.run.0 == b) refl (λ more. log_of_fits h lefts b more (λ k d below. fits (suc k) d (omega arith))) (sum_by-cons (λ (m : LeftState). cond (is_left_of b m) 1 0) l lefts)
  where
    by_test : (t : Bool) → (l.run.0 == b) ≡ t → (1 ≤ count_by (is_left_of b) lefts → log_of (map run_log lefts) b ≡ part h b) →
        count_by (is_left_of b) (l ∷ lefts) ≡ cond t 1 0 + count_by (is_left_of b) lefts →
        (if t then l.log else log_of (map run_log lefts) b) ≡ part h b
    by_test true same before count = let q : l.run.0 ≡ b = grind (arith, nat_tests) in (fits 0 l (omega arith)).part ∙ ap (part h) q
    by_test false other before count = before (omega (arith, some, count))

-- if its history is sound, what came back is whole by it
pub whole_by : (n : ℕ) (starts : List (Option (Comp × List Comp))) (parts : List (List Entry)) (h : List Entry) (lefts : List LeftState) →
    IsJoined n starts parts h lefts → IsSound n parts h → ((b : ℕ) → n ≤ b → comp_of (reverse h) b ≡ None) → IsWhole n h lefts
whole_by n starts parts h lefts joined sound none =
    let one = joined.placed.one_each in
    let parts_known : (b : ℕ) → b < n → log_of (map run_log lefts) b ≡ part h b =
    λ b below. sym (joined.logs.each b below) ∙ sound.parts b (let q : b < length parts = rw joined.logs.as_many below in q) in
    let all_parts : (b : ℕ) → part h b ≡ log_of (map run_log lefts) b =
    λ b. elim (cases_lt b n) [
      | inl below ↦ sym (parts_known b below)
      | inr beyond ↦ no_others h b sound.started (none b beyond) ∙ sym (log_beyond n lefts b one.within beyond)
    ] in
    record {
      one_each = one;
      over = sound.over;
      started = sound.started;
      fitting = λ k d q.
          let l : LeftState = get_or lefts k d in
          let place = joined.placed.each k d q in
          let within : l.run.0 < n = one.within k d q in
          record {
            part = sym (own_log lefts k d q (one.each l.run.0 within)) ∙ parts_known l.run.0 within;
            started = λ some. place.started some ∙ joined.known l.run.0;
          };
      as_long = long_by_parts h (map run_log lefts) all_parts (distinct n lefts one) ∙ logged_map lefts;
    }

-- and only there
pub whole_placed : (n : ℕ) (starts : List (Option (Comp × List Comp))) (h : List Entry) (lefts : List LeftState) → KnowsStarts starts (reverse h) → IsWhole n h lefts → ArePlaced n starts lefts
whole_placed n starts h lefts known w = record {
  one_each = w.one_each;
  each = λ k d q.
      let l : LeftState = get_or lefts k d in
      let fit = w.fitting k d q in
      record {
        started = λ some. fit.started some ∙ sym (known l.run.0);
        unstarted = λ none. fit.part ∙ no_others h l.run.0 w.started (sym (comp_known starts (reverse h) l.run.0 known) ∙ none);
      };
}

-- and its history is sound
pub sound_by : (n : ℕ) (parts : List (List Entry)) (h : List Entry) (lefts : List LeftState) → AreLogs n parts lefts → IsLegal n (reverse h) → IsWhole n h lefts → IsSound n parts h
sound_by n parts h lefts logs legal w = record {
  legal = legal;
  started = w.started;
  parts = λ b below.
      let within : b < n = rw logs.as_many at below in
      logs.each b within ∙ log_of_fits h lefts b (omega (arith, w.one_each.each b within)) w.fitting;
  over = w.over;
}

-- the starts of a book's history are those of the merged one
pub merged_starts : (starts : List (Option (Comp × List Comp))) (k : List Entry) (lefts : List LeftState) → KnowsStarts starts (reverse k) → KnowsStarts starts (reverse (merged k lefts))
merged_starts starts k lefts known = starts_same starts (merged k lefts) k (others-merge k (map run_log lefts)) known

-- what is kept of a book and what came back, under the names that a caller has for it
pub record AtClose (n n' : ℕ) (starts starts' : List (Option (Comp × List Comp))) (k k' : List Entry) (lefts lefts' : List LeftState) : Type 0 where
  pub same_n : n' ≡ n
  pub same_starts : starts' ≡ starts
  pub same_history : k' ≡ k
  pub same_lefts : lefts' ≡ lefts
  pub known : KnowsStarts starts (reverse k)

pub torn_placed : (b : OpenCase) (n' : ℕ) (starts starts' : List (Option (Comp × List Comp))) (k : List Entry) (lefts lefts' : List LeftState) →
    AtClose b.behaviours n' starts starts' k b.history lefts lefts' → IsMerged b lefts → ArePlaced n' starts' lefts'
torn_placed b n' starts starts' k lefts lefts' a m =
    rw (a.same_n, a.same_starts, a.same_lefts) (whole_placed b.behaviours starts (merged b.history lefts) lefts (subst (λ h. KnowsStarts starts (reverse (merged h lefts))) (sym a.same_history) (merged_starts starts k lefts a.known)) m.whole)
