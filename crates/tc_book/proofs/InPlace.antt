-- Lemmas on what the merge puts in its place, and on what it puts at the end.
use Rattle.std.{proofs.{Common.{◌≡◌, ◌≢◌, ℕ, suc, ◌+◌, ◌<◌, ◌≤◌, ◌==◌, true, false, List, [], ◌∷◌, ◌++◌, length, get_or, take, reverse, refl, sym, ap, ◌∙◌, subst, add-one, append_assoc, eq-eqb, arith, inl, inr, zero, filter, max, if◌then◌else◌, set, replicate, ◌&&◌, not, Bool, Option, Some, None}, Math.Seq.take-suc, lemmas.Bool.{cases_eq, cases_lt, ne_eqb}, lemmas.List.{append-nil, reverse-append, get_or-replicate, get_or-set_other, get_or-set_same, length-replicate, length-set, reverse-reverse}, lemmas.List.Elements.filter-append}, specs.Borrow.Bor}
use Rattle.tc_rules.specs.{Prelude.{Entry, calls_of, in_place, started, verdict_calls_after, late, is_late, log_of, runs_end, Run, is_ended, is_other, is_verdict_call, merge}, declared.run_log.RunLog.RunLog}
use Rattle.tc_book.specs.Inside.Merging.{IsMovedOn, entries_of, head_at_start, Has}

-- the log of run b, otherwise other entries
abbrev pub log_or : List RunLog → ℕ → List Entry → List Entry
log_or [] b other = other
log_or (l ∷ ls) b other = if l.run.0 == b then l.entries else log_or ls b other

-- once these logs are put in, the table has the log of each run
abbrev pub HasAfter : List (Bor (List Entry)) → List RunLog → (ℕ → List Entry) → Type 0
HasAfter table logs log = (b : ℕ) (d : Bor (List Entry)) → b < length table → log_or logs b (get_or table b d).now ≡ log b

-- with no other entries it is the log of the run
pub log_or-none : (logs : List RunLog) (b : ℕ) → log_or logs b [] ≡ log_of logs b
log_or-none [] b = refl
log_or-none (l ∷ ls) b = ap (λ x. if l.run.0 == b then l.entries else x) (log_or-none ls b)

-- of one log more at the end
pub log_or-last : (logs : List RunLog) (l : RunLog) (b : ℕ) (other : List Entry) →
    log_or (logs ++ l ∷ []) b other ≡ log_or logs b (if l.run.0 == b then l.entries else other)
log_or-last [] l b other = refl
log_or-last (m ∷ ms) l b other = ap (λ x. if m.run.0 == b then m.entries else x) (log_or-last ms l b other)

-- the end, of one log more at the end
pub end_of-last : (logs : List RunLog) (l : RunLog) → runs_end (logs ++ l ∷ []) ≡ max (runs_end logs) (l.run.0 + 1)
end_of-last [] l = omega arith
end_of-last (m ∷ ms) l = let e = end_of-last ms l in omega arith

-- no run from the end on has a log
pub log_of-beyond : (logs : List RunLog) (b : ℕ) → runs_end logs ≤ b → log_of logs b ≡ []
log_of-beyond [] b h = refl
log_of-beyond (l ∷ ls) b h =
    let other : l.run.0 ≢ b = omega arith in
    let test : (l.run.0 == b) ≡ false = ne_eqb l.run.0 b other in
    rw test (log_of-beyond ls b (omega arith))

-- an empty table, before all logs are put in
pub has-none : (table : List (Bor (List Entry))) (n : ℕ) (none : Bor (List Entry)) (logs : List RunLog) → table ≡ replicate n none → none.now ≡ [] → HasAfter table logs (log_of logs)
has-none table n none logs is empty b d below =
    let within : b < n = omega (arith, length-replicate n none, ap length is, below) in
    rw (is, get_or-replicate n b none d within, empty) (log_or-none logs b)

-- the last of the logs is put in
pub has-last : (table : List (Bor (List Entry))) (before : List RunLog) (l : RunLog) (entries : Bor (List Entry)) (log : ℕ → List Entry) → entries.now ≡ l.entries → l.run.0 < length table →
    HasAfter table (before ++ l ∷ []) log → HasAfter (set table l.run.0 entries) before log
has-last table before l entries log is within has b d below =
    elim (cases_eq l.run.0 b) [
      | inl same ↦
          let test : (l.run.0 == b) ≡ true = eq-eqb l.run.0 b same in
          let put : (get_or (set table l.run.0 entries) b d).now ≡ l.entries =
          subst (λ k. (get_or (set table l.run.0 entries) k d).now ≡ l.entries) same (ap (λ (x : Bor (List Entry)). x.now) (get_or-set_same table l.run.0 entries d within) ∙ is) in
          let e : log_or (before ++ l ∷ []) b (get_or table b d).now ≡ log_or before b l.entries = log_or-last before l b (get_or table b d).now ∙ rw test refl in
          ap (λ x. log_or before b x) put ∙ (sym e ∙ has b d (omega (arith, same, within)))
      | inr other ↦
          let test : (l.run.0 == b) ≡ false = ne_eqb l.run.0 b other in
          let kept : get_or (set table l.run.0 entries) b d ≡ get_or table b d = get_or-set_other table l.run.0 b entries d (λ h. other (sym h)) in
          let e : log_or (before ++ l ∷ []) b (get_or table b d).now ≡ log_or before b (get_or table b d).now = log_or-last before l b (get_or table b d).now ∙ rw test refl in
          let few : b < length table = omega (arith, length-set table l.run.0 entries, below) in
          ap (λ (x : Bor (List Entry)). log_or before b x.now) kept ∙ (sym e ∙ has b d few)
    ]

-- all logs are put in
pub has-all : (table : List (Bor (List Entry))) (rest logs : List RunLog) → length rest ≡ 0 → length table ≡ runs_end logs → HasAfter table rest (log_of logs) → Has table (log_of logs)
has-all table [] logs none len has = record { each = has; none = λ b beyond. log_of-beyond logs b (omega arith) }
has-all table (l ∷ ls) logs none len has = absurd (omega arith)

-- what is looked up in the table is the log of the run
pub at-run : (table : List (Bor (List Entry))) (log : ℕ → List Entry) (b : ℕ) (d : Bor (List Entry)) (got : List Entry) → Has table log →
    (b < length table → got ≡ (get_or table b d).now) → (length table ≤ b → got ≡ []) → got ≡ log b
at-run table log b d got has within beyond =
    elim (cases_lt b (length table)) [
      | inl below ↦ within below ∙ has.each b d below
      | inr above ↦ beyond above ∙ sym (has.none b above)
    ]

-- the table has the verdict entries of each run that are after this many other entries of its log
pub record HasRests (table : List (Bor (List Entry))) (log : ℕ → List Entry) (made : ℕ → ℕ) : Type 0 where
  pub each : (b : ℕ) (d : Bor (List Entry)) → b < length table
      → (k : ℕ) → verdict_calls_after k (entries_of table b d) ≡ verdict_calls_after (k + made b) (log b)
  pub none : (b : ℕ) → length table ≤ b → log b ≡ []

pub past_more : (h : List Entry) (i : ℕ) (e : Entry) → i < length h → e ≡ get_or h i e → reverse (take (i + 1) h) ≡ e ∷ reverse (take i h)
past_more h i e within is =
    let t : take (i + 1) h ≡ take i h ++ get_or h i e ∷ [] = rw add-one (take-suc h i e within) in
    rw (t, sym is) (reverse-append (take i h) (e ∷ []))

pub calls_same : (past : List Entry) (e : Entry) (j : ℕ) → e.caller.0 ≢ j → calls_of j (e ∷ past) ≡ calls_of j past
calls_same past e j other = let test : (e.caller.0 == j) ≡ false = ne_eqb e.caller.0 j other in rw test refl

pub calls_more : (past : List Entry) (e : Entry) (j : ℕ) → e.caller.0 ≡ j → calls_of j (e ∷ past) ≡ suc (calls_of j past)
calls_more past e j same = let test : (e.caller.0 == j) ≡ true = eq-eqb e.caller.0 j same in rw test refl

pub in_place_more : (log : ℕ → List Entry) (past : List Entry) (e : Entry) (before all pushed said whole : List Entry) →
    all ≡ before ++ in_place log past → pushed ≡ all ++ e ∷ [] → said ≡ pushed ++ verdict_calls_after (calls_of e.caller.0 (e ∷ past)) (log e.caller.0) →
    whole ≡ said ++ head_at_start log (started e) → whole ≡ before ++ in_place log (e ∷ past)
in_place_more log past e before all pushed said whole a p s w = rw (w, s, p, a, append_assoc, append_assoc, append_assoc) refl

-- the table of the logs themselves
pub has_none : (log : ℕ → List Entry) (table : List (Bor (List Entry))) → Has table log → HasRests table log (λ b. calls_of b [])
has_none log table has = record {
  each = λ b d below k. ap (verdict_calls_after k) (has.each b d below) ∙ ap (λ n. verdict_calls_after n (log b)) (omega arith);
  none = has.none;
}

-- the table of what follows, after one entry more
pub has_more : (log : ℕ → List Entry) (past : List Entry) (e : Entry) (old new : List (Bor (List Entry))) → HasRests old log (λ b. calls_of b past) → length new ≡ length old →
    ((j : ℕ) (d : Bor (List Entry)) → j ≢ e.caller.0 → get_or new j d ≡ get_or old j d) → IsMovedOn old new e.caller.0 → HasRests new log (λ b. calls_of b (e ∷ past))
has_more log past e old new has len same moved = record {
  each = λ j d less k.
      let below : j < length old = omega (arith, len, less) in
      elim (cases_eq e.caller.0 j) [
        | inl is ↦
            let more : suc k + calls_of j past ≡ k + calls_of j (e ∷ past) = omega (arith, calls_more past e j is) in
            subst (λ b. verdict_calls_after k (get_or new b d).now ≡ verdict_calls_after (suc k) (get_or old b d).now) is (moved d (omega (arith, is, below)) k)
            ∙ (has.each j d below (suc k) ∙ ap (λ n. verdict_calls_after n (log j)) more)
        | inr other ↦ ap (λ (x : Bor (List Entry)). verdict_calls_after k x.now) (same j d (λ h. other (sym h)))
            ∙ (has.each j d below k ∙ ap (λ n. verdict_calls_after (k + n) (log j)) (sym (calls_same past e j other)))
      ];
  none = λ j beyond. has.none j (omega (arith, len, beyond));
}

-- the verdict calls in the table of a run
pub calls_after : (log : ℕ → List Entry) (past : List Entry) (b : ℕ) (table : List (Bor (List Entry))) (d : Bor (List Entry)) (got : List Entry) → HasRests table log (λ b. calls_of b past) →
    (b < length table → got ≡ (get_or table b d).now) → (length table ≤ b → got ≡ []) → verdict_calls_after 0 got ≡ verdict_calls_after (calls_of b past) (log b)
calls_after log past b table d got has within beyond =
    elim (cases_lt b (length table)) [
      | inl below ↦ ap (verdict_calls_after 0) (within below) ∙ (has.each b d below 0 ∙ ap (λ n. verdict_calls_after n (log b)) (omega arith))
      | inr above ↦ ap (verdict_calls_after 0) (beyond above) ∙ sym (ap (verdict_calls_after (calls_of b past)) (has.none b above))
    ]

pub late_none : (log : ℕ → List Entry) (xs : List Entry) → xs ≡ xs ++ late log 0
unfolding late
late_none log xs = rw append-nil refl

late_more : (log : ℕ → List Entry) (b : ℕ) → late log (b + 1) ≡ late log b ++ filter is_late (log b)
unfolding late
late_more log b = rw add-one refl

pub late_step : (log : ℕ → List Entry) (b : ℕ) (xs ys zs : List Entry) →
    ys ≡ xs ++ late log b → zs ≡ ys ++ filter is_late (log b) → zs ≡ xs ++ late log (b + 1)
late_step log b xs ys zs h e = rw (e, h, late_more, append_assoc) refl

-- runs without a log add nothing
late_until : (f : ℕ → List Entry) (m n : ℕ) → m ≤ n → ((b : ℕ) → m ≤ b → f b ≡ []) → late f n ≡ late f m
unfolding late
late_until f m zero below none = let q : m ≡ 0 = omega arith in rw q refl
late_until f m (suc n) below none =
    elim (cases_eq m (suc n)) [
      | inl same ↦ rw same refl
      | inr other ↦ rw (none n (omega (arith, below, other)), append-nil) (late_until f m n (omega (arith, below, other)) none)
    ]

-- up to the end of a table, beyond which no run has a log
pub late_table : (logs : List RunLog) (n : ℕ) → ((b : ℕ) → n ≤ b → log_of logs b ≡ []) → late (log_of logs) n ≡ late (log_of logs) (runs_end logs)
late_table logs n none = elim (cases_lt n (runs_end logs)) [
  | inl less ↦ sym (late_until (log_of logs) n (runs_end logs) (omega (arith, less)) none)
  | inr more ↦ late_until (log_of logs) (runs_end logs) n more (log_of-beyond logs)
]

abbrev others : List Entry → List Entry
others h = filter is_other h

others-append : (xs ys : List Entry) → others (xs ++ ys) ≡ others xs ++ others ys
others-append xs ys = filter-append is_other xs ys

others-calls : (k : ℕ) (xs : List Entry) → others (verdict_calls_after k xs) ≡ []
others-calls k [] = refl
others-calls (suc k) (e ∷ es) = others-calls (if is_other e then k else suc k) es
others-calls zero (e ∷ es) = by_test (is_verdict_call e.op) (is_ended e.reply) refl (others-calls 0 es)
  where
    calls : List Entry
    calls = verdict_calls_after 0 es

    by_test : (verdict ended : Bool) → is_verdict_call e.op ≡ verdict → others calls ≡ [] →
        others (if not verdict then [] else if verdict && ended then calls else e ∷ calls) ≡ []
    by_test false ended is more = refl
    by_test true true is more = more
    by_test true false is more = rw is more

others-late : (xs : List Entry) → others (filter is_late xs) ≡ []
others-late [] = refl
others-late (e ∷ es) = by_test (is_verdict_call e.op) (is_ended e.reply) refl (others-late es)
  where
    by_test : (verdict ended : Bool) → is_verdict_call e.op ≡ verdict → others (filter is_late es) ≡ [] →
        others (if verdict && ended then e ∷ filter is_late es else filter is_late es) ≡ []
    by_test false ended is more = more
    by_test true true is more = rw is more
    by_test true false is more = more

others-lates : (log : ℕ → List Entry) (n : ℕ) → others (late log n) ≡ []
unfolding late
others-lates log zero = refl
others-lates log (suc b) = others-append (late log b) (filter is_late (log b)) ∙ rw (others-lates log b) (others-late (log b))

others-start : (log : ℕ → List Entry) (o : Option Run) → others (head_at_start log o) ≡ []
others-start log (Some run) = others-calls 0 (log run.0)
others-start log None = refl

others-one : (e : Entry) (xs : List Entry) → others xs ≡ [] → others (e ∷ xs) ≡ others (e ∷ [])
others-one e xs none = ap (λ l. if is_other e then e ∷ l else l) none

others-in_place : (log : ℕ → List Entry) (past : List Entry) → others (in_place log past) ≡ others (reverse past)
others-in_place log [] = others-calls 0 (log 0)
others-in_place log (e ∷ past) =
    let count : ℕ = calls_of e.caller.0 (e ∷ past) in
    let said : List Entry = verdict_calls_after count (log e.caller.0) in
    let start : List Entry = head_at_start log (started e) in
    let none : others (said ++ start) ≡ [] = others-append said start ∙ rw (others-calls count (log e.caller.0)) (others-start log (started e)) in
    let back : reverse (e ∷ past) ≡ reverse past ++ e ∷ [] = reverse-append (e ∷ []) past in
    others-append (in_place log past) (e ∷ said ++ start)
    ∙ (ap (λ l. l ++ others (e ∷ said ++ start)) (others-in_place log past)
    ∙ (ap (λ l. others (reverse past) ++ l) (others-one e (said ++ start) none)
    ∙ (sym (others-append (reverse past) (e ∷ [])) ∙ ap others (sym back))))

-- without its verdict entries the merge is the history without its own
pub others-merge : (history : List Entry) (logs : List RunLog) → filter is_other (merge history logs) ≡ filter is_other history
unfolding merge
others-merge history logs =
    others-append (in_place (log_of logs) (reverse history)) (late (log_of logs) (runs_end logs))
    ∙ (ap (λ l. others (in_place (log_of logs) (reverse history)) ++ l) (others-lates (log_of logs) (runs_end logs))
    ∙ (append-nil (others (in_place (log_of logs) (reverse history)))
    ∙ (others-in_place (log_of logs) (reverse history) ∙ ap others (reverse-reverse history))))
