-- A merged history is the merge of itself without its verdict entries with its runs' parts of it.
use Rattle.std.{proofs.{Common.{ℕ, ◌≡◌, ◌<◌, ◌≤◌, true, false, None, Option, List, [], ◌∷◌, reverse, map, filter, length, get_or, sym, ap, ◌∙◌, subst, refl, inl, inr}, lemmas.Bool.cases_lt, lemmas.List.{get_or_past, reverse-reverse}}, specs.{Borrow.Bor, List.All}}
use Rattle.tc_rules.specs.{Prelude.{Comp, Entry, comp_of, is_other, is_over, is_verdict_call, merge, log_of, logs_below}, declared.run_log.RunLog.RunLog}
use Rattle.tc_book.{specs.{Inside.{Merging.Has, run_log, AreLogs, AreLogsOf, CameBack, IsJoined, IsSound, IsWalk}, Closing.merged, OpenCase.AreOthers, Passes.LeftState}, proofs.{InPlace.others-merge, Reporting.{log_below, no_others}, Skipping.filter-reverse, Wholeness.{log_beyond, merged_starts}}}

-- the table of these lists has the logs
pub has_logs : (parts : List (List Entry)) (table : List (Bor (List Entry))) (logs : List RunLog) → length table ≡ length parts →
    ((b : ℕ) (d : Bor (List Entry)) → b < length parts → (get_or table b d).now ≡ get_or parts b []) → AreLogsOf parts logs → Has table (log_of logs)
has_logs parts table logs as_many each are = record {
  each = λ b d below. each b d (subst (λ m. b < m) as_many below) ∙ sym (are b);
  none = λ b beyond. are b ∙ get_or_past parts b [] (subst (λ m. m ≤ b) as_many beyond);
}

-- a history that was walked by this table, and is that of a case that is over
pub sound_of : (n : ℕ) (parts : List (List Entry)) (table : List (Bor (List Entry))) (h : List Entry) (d : Bor (List Entry)) → length table ≡ length parts →
    ((b : ℕ) (d : Bor (List Entry)) → b < length parts → (get_or table b d).now ≡ get_or parts b []) → IsWalk n table h → is_over (reverse h) ≡ true → IsSound n parts h
sound_of n parts table h d as_many each w over = record {
  legal = w.legal;
  started = w.started;
  parts = λ b below. sym (each b d below) ∙ w.parts b d (subst (λ m. b < m) (sym as_many) below);
  over = over;
}

pub walk_of : (n : ℕ) (parts : List (List Entry)) (table : List (Bor (List Entry))) (h : List Entry) → length table ≡ length parts →
    ((b : ℕ) (d : Bor (List Entry)) → b < length parts → (get_or table b d).now ≡ get_or parts b []) → IsSound n parts h → IsWalk n table h
walk_of n parts table h as_many each s = record {
  legal = s.legal;
  started = s.started;
  parts = λ b d below. let within : b < length parts = subst (λ m. b < m) as_many below in each b d within ∙ s.parts b within;
}

-- the logs of a report are these lists
pub below_logs : (n : ℕ) (parts : List (List Entry)) (h : List Entry) → length parts ≡ n → IsSound n parts h → ((b : ℕ) → n ≤ b → comp_of (reverse h) b ≡ None) → AreLogsOf parts (logs_below h n)
below_logs n parts h as_many s none b = log_below h n s.started none b ∙ elim (cases_lt b n) [
  | inl below ↦ sym (s.parts b (subst (λ m. b < m) (sym as_many) below))
  | inr beyond ↦ no_others h b s.started (none b beyond) ∙ sym (get_or_past parts b [] (subst (λ m. m ≤ b) (sym as_many) beyond))
]

-- what came back has the logs of its runs
pub logs_of_lefts : (n : ℕ) (parts : List (List Entry)) (lefts : List LeftState) → All (λ l. l.run.0 < n) lefts → AreLogs n parts lefts → AreLogsOf parts (map run_log lefts)
logs_of_lefts n parts lefts within logs b = elim (cases_lt b n) [
  | inl below ↦ sym (logs.each b below)
  | inr beyond ↦ log_beyond n lefts b within beyond ∙ sym (get_or_past parts b [] (subst (λ m. m ≤ b) (sym logs.as_many) beyond))
]

others_all : (past : List Entry) → AreOthers past → filter is_other past ≡ past
others_all [] others = refl
others_all (e ∷ past) others = let test : is_verdict_call e.op ≡ false = others.0 in rw test (ap (λ l. e ∷ l) (others_all past others.1))

all_others : (k : List Entry) → AreOthers (reverse k) → filter is_other k ≡ k
all_others k others = ap (filter is_other) (sym (reverse-reverse k)) ∙ (filter-reverse is_other (reverse k) ∙ (ap reverse (others_all (reverse k) others) ∙ reverse-reverse k))

pub merged_by : (n : ℕ) (starts : List (Option (Comp × List Comp))) (parts : List (List Entry)) (k h : List Entry) (lefts : List LeftState) → CameBack n starts parts k lefts →
    ((logs : List RunLog) → AreLogsOf parts logs → h ≡ merge k logs) → h ≡ merged k lefts
merged_by n starts parts k h lefts back is = is (map run_log lefts) (logs_of_lefts n parts lefts back.placed.one_each.within back.logs)

-- what came back, by the history that it was merged into
pub joined_by : (n : ℕ) (starts : List (Option (Comp × List Comp))) (parts : List (List Entry)) (k h : List Entry) (lefts : List LeftState) → CameBack n starts parts k lefts →
    ((logs : List RunLog) → AreLogsOf parts logs → h ≡ merge k logs) → IsJoined n starts parts h lefts
joined_by n starts parts k h lefts back is =
    let one : h ≡ merge k (map run_log lefts) = merged_by n starts parts k h lefts back is in
    let same : filter is_other h ≡ k = ap (filter is_other) one ∙ (others-merge k (map run_log lefts) ∙ all_others k back.others) in
    record {
      placed = back.placed;
      logs = back.logs;
      known = rw one (merged_starts starts k lefts back.known);
      itself = λ all are. is all are ∙ ap (λ l. merge l all) (sym same);
    }
