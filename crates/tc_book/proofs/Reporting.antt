-- What a report says of a case that is over.
use Rattle.std.proofs.{Common.{ℕ, zero, suc, ◌≡◌, ◌≢◌, ◌+◌, ◌<◌, ◌≤◌, ◌==◌, cond, Bool, true, false, Option, Some, None, is_some, List, [], ◌∷◌, ◌++◌, length, reverse, map, filter, count_by, refl, ap, sym, ◌∙◌, arith, add-one, eq-eqb, inl, inr}, lemmas.Bool.{cases_eq, cases_lt, ne_eqb}, lemmas.List.Sums.sum_by-append, lemmas.List.{append-nil, get_or_append_left, length-map, reverse-reverse}, Math.Seq.get_or-append_seam}
use Rattle.tc_rules.{specs.{Prelude.{worst, Comp, Entry, comps, comp_of, first_some, is_over, local, overall, IsLegal, IsAllOver, is_by, is_other, log_of, merge, logged, part, log_if, logs_below, started_on, Kept, StandsFor, IsOneHistory}, declared.closed.Closed.Closed, declared.run_log.RunLog.RunLog}, proofs.{Lemmas.Deciding.{and_left, and_right, equal_if}, Lemmas.Differing.later_legal, Lemmas.Numbered.comps_numbered, Lemmas.Over.all_over, Lemmas.Standing.stands_legal}}
use Rattle.tc_book.{proofs.{Length.{is_log_of, long_by_parts}, InPlace.{log_or, log_or-last, log_or-none}, Lemmas.PartOf.comp_known, Skipping.filter-reverse}, specs.{OneCase.all_started, Inside.{KnowsParts, KnowsStarts, comp_by, log_on, logs_from, start_at}}}

first_none : (o p : Option Comp) → first_some o p ≡ None → o ≡ None
first_none None p h = refl
first_none (Some c) p h = absurd cc

none_by : (past : List Entry) (b : ℕ) → all_started past ≡ true → comp_of past b ≡ None → filter (is_by b) past ≡ []
none_by [] b h none = refl
none_by (e ∷ past) b h none =
    let before : comp_of past b ≡ None = first_none (comp_of past b) (started_on e b) none in
    by_test (e.caller.0 == b) refl before (none_by past b (and_right (is_some (comp_of past e.caller.0)) (all_started past) h) before)
  where
    by_test : (t : Bool) → (e.caller.0 == b) ≡ t → comp_of past b ≡ None → filter (is_by b) past ≡ [] → cond t (e ∷ filter (is_by b) past) (filter (is_by b) past) ≡ []
    by_test true same before more =
        let q : e.caller.0 ≡ b = equal_if e.caller.0 b same in
        let on : is_some (comp_of past b) ≡ true = rw (← q) (and_left (is_some (comp_of past e.caller.0)) (all_started past) h) in
        let z : false ≡ true = sym (ap is_some before) ∙ on in
        absurd cc
    by_test false other before more = more

-- a run that was never started made no call
pub no_others : (h : List Entry) (b : ℕ) → all_started (reverse h) ≡ true → comp_of (reverse h) b ≡ None → part h b ≡ []
unfolding part
no_others h b started none =
    ap (filter (is_by b)) (sym (reverse-reverse h)) ∙ (filter-reverse (is_by b) (reverse h) ∙ ap reverse (none_by (reverse h) b started none))

-- there is no run from the number of behaviours on
pub none_beyond : (s : Kept) (past : List Entry) → StandsFor s past → (b : ℕ) → s.behaviours ≤ b → comp_of past b ≡ None
unfolding StandsFor
none_beyond s past stands b beyond = (stands.no_other_run b beyond).0

-- the log of one run more is none of another run's
one_more : (h : List Entry) (n b : ℕ) (other : List Entry) → n ≢ b → (o : Option Comp) → log_or (logs_below h n ++ log_if o h n) b other ≡ log_or (logs_below h n) b other
one_more h n b other apart None = rw append-nil refl
one_more h n b other apart (Some c) =
    let test : (n == b) ≡ false = ne_eqb n b apart in
    log_or-last (logs_below h n) (record { run = record { 0 = n }; comp = c; entries = part h n }) b other ∙ rw test refl

-- none of the logs below n is of a later run
below_or : (h : List Entry) (n b : ℕ) (other : List Entry) → n ≤ b → log_or (logs_below h n) b other ≡ other
below_or h zero b other beyond = refl
below_or h (suc n) b other beyond = one_more h n b other (omega (arith, beyond)) (comp_of (reverse h) n) ∙ below_or h n b other (omega (arith, beyond))

-- the log of a run below n is its part
at_or : (h : List Entry) (n b : ℕ) → b < n → (comp_of (reverse h) b ≡ None → part h b ≡ []) → log_or (logs_below h n) b [] ≡ part h b
at_or h zero b below none = absurd (omega (arith, below))
at_or h (suc n) b below none = elim (cases_eq n b) [
  | inl same ↦ by_comp (comp_of (reverse h) n) refl same
  | inr other ↦ one_more h n b [] other (comp_of (reverse h) n) ∙ at_or h n b (omega (arith, below, other)) none
]
  where
    by_comp : (o : Option Comp) → comp_of (reverse h) n ≡ o → n ≡ b → log_or (logs_below h n ++ log_if o h n) b [] ≡ part h b
    by_comp (Some c) is same =
        let test : (n == b) ≡ true = eq-eqb n b same in
        log_or-last (logs_below h n) (record { run = record { 0 = n }; comp = c; entries = part h n }) b [] ∙ rw test (below_or h n b (part h n) (omega (arith, same)) ∙ ap (part h) same)
    by_comp None is same = rw append-nil (below_or h n b [] (omega (arith, same)) ∙ sym (none (ap (comp_of (reverse h)) (sym same) ∙ is)))

module _ (h : List Entry) (n : ℕ) (started : all_started (reverse h) ≡ true) (beyond : (b : ℕ) → n ≤ b → comp_of (reverse h) b ≡ None) where
  -- the log of a run in a report is its part
  pub log_below : (b : ℕ) → log_of (logs_below h n) b ≡ part h b
  log_below b = sym (log_or-none (logs_below h n) b) ∙ elim (cases_lt b n) [
    | inl below ↦ at_or h n b below (no_others h b started)
    | inr past ↦ below_or h n b [] past ∙ sym (no_others h b started (beyond b past))
  ]

  counted : (m b : ℕ) → (m ≤ b → count_by (is_log_of b) (logs_below h m) ≡ 0) × (count_by (is_log_of b) (logs_below h m) ≤ 1)
  counted zero b = ((λ _. refl), omega arith)
  counted (suc m) b =
      by_comp (comp_of (reverse h) m) (m == b) refl (counted m b) (sum_by-append (λ (l : RunLog). cond (is_log_of b l) 1 0) (logs_below h m) (log_if (comp_of (reverse h) m) h m))
    where
      by_comp : (o : Option Comp) (t : Bool) → (m == b) ≡ t → (m ≤ b → count_by (is_log_of b) (logs_below h m) ≡ 0) × (count_by (is_log_of b) (logs_below h m) ≤ 1) →
          count_by (is_log_of b) (logs_below h m ++ log_if o h m) ≡ count_by (is_log_of b) (logs_below h m) + count_by (is_log_of b) (log_if o h m) →
          (suc m ≤ b → count_by (is_log_of b) (logs_below h m ++ log_if o h m) ≡ 0) × (count_by (is_log_of b) (logs_below h m ++ log_if o h m) ≤ 1)
      by_comp None t is before more = ((λ q. let z = before.0 (omega arith) in omega arith), omega (arith, before.1))
      by_comp (Some c) true is before more =
          let same : m ≡ b = equal_if m b is in
          let none = before.0 (omega (arith, same)) in
          let one : cond {A = ℕ} (m == b) 1 0 ≡ 1 = rw is refl in
          ((λ q. absurd (omega (arith, same, q))), omega (arith, none, more, one))
      by_comp (Some c) false is before more =
          let zero_more : cond {A = ℕ} (m == b) 1 0 ≡ 0 = rw is refl in
          ((λ q. let z = before.0 (omega arith) in omega (arith, z, more, zero_more)), omega (arith, before.1, more, zero_more))

  -- the history is as long as the logs of the report
  pub as_long : length h ≡ logged (logs_below h n)
  as_long = long_by_parts h (logs_below h n) (λ b. sym (log_below b)) (λ b. (counted n b).1)

-- from an entry that ends the case on, no component is alive
pub none_alive : (n : ℕ) (past later earlier : List Entry) → IsLegal n past → past ≡ later ++ earlier → is_over earlier ≡ true → IsAllOver n earlier
none_alive n past later earlier legal split over = all_over n earlier (later_legal n later earlier (rw split at legal)) over

pub one_history : (s : Kept) (h : List Entry) (c : Closed) → StandsFor s (reverse h) → all_started (reverse h) ≡ true → is_over (reverse h) ≡ true → h ≡ merge (filter is_other h) (logs_below h s.behaviours) →
    c.behaviours ≡ s.behaviours → c.history ≡ h → c.logs ≡ logs_below h s.behaviours → c.locals ≡ map (local (reverse h)) (comps (reverse h)) → c.verdict ≡ overall (reverse h) → IsOneHistory c
one_history s h c stands started over merged n_is h_is logs_is locals_is verdict_is =
    let n : ℕ = s.behaviours in
    let past : List Entry = reverse h in
    let legal : IsLegal n past = stands_legal s past stands in
    record {
      legal = rw (n_is, h_is) legal;
      logs = rw (n_is, h_is) logs_is;
      as_long = rw (h_is, logs_is) (as_long h n started (none_beyond s past stands));
      merged = rw (h_is, logs_is) merged;
      no_others = λ b none. rw h_is (no_others h b started (rw h_is at none));
      over = rw h_is over;
      none_alive = λ later earlier split o. rw n_is (none_alive n past later earlier legal (rw h_is at split) o);
      locals = rw h_is (locals_is ∙ ap (map (local past)) (comps_numbered n past legal));
      verdict = rw h_is verdict_is;
    }

logs_from_prefix : (starts : List (Option (Comp × List Comp))) (parts more : List (List Entry)) (n : ℕ) → n ≤ length parts → logs_from starts (parts ++ more) n ≡ logs_from starts parts n
logs_from_prefix starts parts more zero all = refl
logs_from_prefix starts parts more (suc n) all =
    let before : logs_from starts (parts ++ more) n ≡ logs_from starts parts n = logs_from_prefix starts parts more n (omega arith) in
    rw (before, get_or_append_left parts more [] n (omega arith)) refl

-- the log of one run more
pub logs_from_more : (starts : List (Option (Comp × List Comp))) (parts : List (List Entry)) (entries : List Entry) →
    logs_from starts (parts ++ entries ∷ []) (length parts + 1) ≡ logs_from starts parts (length parts) ++ log_on (comp_by (length parts) (start_at starts (length parts))) (length parts) entries
logs_from_more starts parts entries =
    rw (add-one, logs_from_prefix starts parts (entries ∷ []) (length parts) (omega arith), get_or-append_seam parts entries [] []) refl

-- by what is known of starts and parts, the logs are those of the history
pub logs_known : (starts : List (Option (Comp × List Comp))) (parts : List (List Entry)) (h : List Entry) (n : ℕ) → KnowsStarts starts (reverse h) → KnowsParts parts h → n ≤ length parts →
    logs_from starts parts n ≡ logs_below h n
logs_known starts parts h zero known parts_known all = refl
logs_known starts parts h (suc n) known parts_known all =
    let before : logs_from starts parts n ≡ logs_below h n = logs_known starts parts h n known parts_known (omega arith) in
    rw (before, comp_known starts (reverse h) n known, parts_known n (omega arith)) refl
