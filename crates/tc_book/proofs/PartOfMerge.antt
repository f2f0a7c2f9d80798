-- Each log is its run's part of the merge.
use Rattle.std.{proofs.{Common.{◌≡◌, ◌≢◌, ℕ, zero, suc, ◌<◌, ◌≤◌, ◌==◌, ◌&&◌, if◌then◌else◌, Bool, true, false, Option, Some, None, is_some, List, [], ◌∷◌, ◌++◌, drop, filter, reverse, refl, sym, ap, ◌∙◌, subst, append_assoc, eq-eqb, arith, ◌⊎◌, inl, inr}, lemmas.Bool.{cases_eq, cases_lt, ne_eqb}, lemmas.List.Elements.filter-append, lemmas.List.{append-nil, reverse-append, reverse-reverse}}, specs.List.All}
use Rattle.tc_rules.specs.{Prelude.{Run, Comp, Entry, Op, is_ended, is_ok, comp_of, first_some, starts_run, is_other, is_late, is_verdict_call, verdict_calls_after, calls_of, started, started_run, in_place, late, log_of, runs_end, merge, is_by, part}, declared.run_log.RunLog.RunLog}
use Rattle.tc_book.{specs.{Inside.Merging.head_at_start, OneCase.{AreOfOneCase, all_started}}, proofs.InPlace.{calls_more, calls_same, log_of-beyond}}

-- the part of a history by run b, as it computes
abbrev pub entries_by : List Entry → ℕ → List Entry
entries_by h b = filter (is_by b) h

-- every entry is by run b
abbrev AllBy : ℕ → List Entry → Type 0
AllBy b [] = Unit {0}
AllBy b (e ∷ es) = (e.caller.0 ≡ b) × AllBy b es

all_by : (b : ℕ) (xs : List Entry) → All (λ e. e.caller.0 ≡ b) xs → AllBy b xs
all_by b [] h = tt
all_by b (e ∷ es) h = (h 0 e (omega arith), all_by b es (λ k d q. h (suc k) d (omega arith)))

abbrev others : List Entry → List Entry
others log = filter is_other log

abbrev is_run : Option Run → ℕ → Bool
is_run (Some run) b = run.0 == b
is_run None b = false

-- the component on which the entry starts run b
abbrev starts_in : Entry → ℕ → Option Comp
starts_in e b = if is_ok e.reply then starts_run e.op b else None

starts_none : (ok : Bool) (op : Op) (b : ℕ) → is_run (if ok then started_run op else None) b ≡ false → (if ok then starts_run op b else None) ≡ None
starts_none false op b h = refl
starts_none true (Op.Start c run args) b h = rw h refl
starts_none true _ b h = refl

starts_some : (ok : Bool) (op : Op) (b : ℕ) (run : Run) → (if ok then started_run op else None) ≡ Some run → run.0 ≡ b → (if ok then starts_run op b else None) ≢ None
starts_some false op b run is same = absurd cc
starts_some true (Op.Start c r args) b run is same =
    let k : r ≡ run = cc in
    let test : (r.0 == b) ≡ true = eq-eqb r.0 b (ap (λ (x : Run). x.0) k ∙ same) in
    λ h. let q : Some c ≡ None = rw test at h in cc
starts_some true _ b run is same = absurd cc

kept_some : (o p : Option Comp) → o ≢ None → first_some o p ≢ None
kept_some (Some c) p some = some
kept_some None p some = absurd (some refl)

bool_or : (b : Bool) → (b ≡ true) ⊎ (b ≡ false)
bool_or true = inl refl
bool_or false = inr refl

-- what is not too late
abbrev keep : List Entry → List Entry
keep [] = []
keep (e ∷ es) = if is_late e then keep es else e ∷ keep es

-- what is not too late, of a log up to before its other entry after the k-th
abbrev kept_to : ℕ → List Entry → List Entry
kept_to zero log = verdict_calls_after 0 log
kept_to (suc k) [] = []
kept_to (suc k) (e ∷ es) = if is_other e then e ∷ kept_to k es else if is_late e then kept_to (suc k) es else e ∷ kept_to (suc k) es

by_if : (b : ℕ) (t : Bool) (xs ys : List Entry) → AllBy b xs → AllBy b ys → AllBy b (if t then xs else ys)
by_if b true xs ys p q = p
by_if b false xs ys p q = q

by_calls : (b k : ℕ) (xs : List Entry) → AllBy b xs → AllBy b (verdict_calls_after k xs)
by_calls b k [] p = tt
by_calls b (suc k) (e ∷ es) p = by_calls b (if is_other e then k else suc k) es p.1
by_calls b zero (e ∷ es) p =
    let more : AllBy b (verdict_calls_after 0 es) = by_calls b 0 es p.1 in
    by_if b (is_other e) [] _ tt (by_if b (is_late e) (verdict_calls_after 0 es) (e ∷ verdict_calls_after 0 es) more (p.0, more))

pub part_same : (h : List Entry) (e : Entry) (b : ℕ) → e.caller.0 ≡ b → entries_by (e ∷ h) b ≡ e ∷ entries_by h b
part_same h e b same = let test : (e.caller.0 == b) ≡ true = eq-eqb e.caller.0 b same in rw test refl

pub part_miss : (h : List Entry) (e : Entry) (b : ℕ) → e.caller.0 ≢ b → entries_by (e ∷ h) b ≡ entries_by h b
part_miss h e b other = let test : (e.caller.0 == b) ≡ false = ne_eqb e.caller.0 b other in rw test refl

part_all : (b : ℕ) (xs : List Entry) → AllBy b xs → entries_by xs b ≡ xs
part_all b [] p = refl
part_all b (e ∷ es) p = part_same es e b p.0 ∙ ap (λ l. e ∷ l) (part_all b es p.1)

part_none : (b c : ℕ) (xs : List Entry) → AllBy c xs → c ≢ b → entries_by xs b ≡ []
part_none b c [] p other = refl
part_none b c (e ∷ es) p other = part_miss es e b (λ h. other (sym p.0 ∙ h)) ∙ part_none b c es p.1 other

part_append : (b : ℕ) (xs ys : List Entry) → entries_by (xs ++ ys) b ≡ entries_by xs b ++ entries_by ys b
part_append b xs ys = filter-append (is_by b) xs ys

drop_more : (k : ℕ) (xs : List Entry) (e : Entry) (ys : List Entry) → drop k xs ≡ e ∷ ys → drop (suc k) xs ≡ ys
drop_more zero [] e ys is = absurd cc
drop_more zero (x ∷ xs) e ys is = cc
drop_more (suc k) [] e ys is = absurd cc
drop_more (suc k) (x ∷ xs) e ys is = drop_more k xs e ys is

-- one other entry more, if it is known
kept_more : (k : ℕ) (xs : List Entry) (e : Entry) (ys : List Entry) → drop k (others xs) ≡ e ∷ ys → kept_to (suc k) xs ≡ kept_to k xs ++ e ∷ verdict_calls_after (suc k) xs
kept_more zero [] e ys is = absurd cc
kept_more (suc k) [] e ys is = absurd cc
kept_more zero (x ∷ xs) e ys is = elim (bool_or (is_verdict_call x.op)) [
  | inl s ↦
      let more = kept_more zero xs e ys (rw s at is) in
      elim (bool_or (is_ended x.reply)) [ inl n ↦ rw (s, n) more | inr n ↦ rw (s, n) (ap (λ l. x ∷ l) more) ]
  | inr s ↦
      let here : x ∷ others xs ≡ e ∷ ys = rw s at is in
      let same : x ≡ e = cc in
      rw s (ap (λ y. y ∷ verdict_calls_after 0 xs) same)
]
kept_more (suc k) (x ∷ xs) e ys is = elim (bool_or (is_verdict_call x.op)) [
  | inl s ↦
      let more = kept_more (suc k) xs e ys (rw s at is) in
      elim (bool_or (is_ended x.reply)) [ inl n ↦ rw (s, n) more | inr n ↦ rw (s, n) (ap (λ l. x ∷ l) more) ]
  | inr s ↦ let more = kept_more k xs e ys (rw s at is) in rw s (ap (λ l. x ∷ l) more)
]

-- there is no other entry more
kept_all : (k : ℕ) (xs : List Entry) → drop k (others xs) ≡ [] → kept_to k xs ≡ keep xs
kept_all zero [] is = refl
kept_all (suc k) [] is = refl
kept_all zero (x ∷ xs) is = elim (bool_or (is_verdict_call x.op)) [
  | inl s ↦
      let more = kept_all zero xs (rw s at is) in
      elim (bool_or (is_ended x.reply)) [ inl n ↦ rw (s, n) more | inr n ↦ rw (s, n) (ap (λ l. x ∷ l) more) ]
  | inr s ↦ let k : x ∷ others xs ≡ [] = rw s at is in absurd cc
]
kept_all (suc k) (x ∷ xs) is = elim (bool_or (is_verdict_call x.op)) [
  | inl s ↦
      let more = kept_all (suc k) xs (rw s at is) in
      elim (bool_or (is_ended x.reply)) [ inl n ↦ rw (s, n) more | inr n ↦ rw (s, n) (ap (λ l. x ∷ l) more) ]
  | inr s ↦ let more = kept_all k xs (rw s at is) in rw s (ap (λ l. x ∷ l) more)
]

-- if nothing follows a late entry, it is the last
keep_and_late : (xs : List Entry) → ((before after : List Entry) (e : Entry) → xs ≡ before ++ e ∷ after → is_late e ≡ true → after ≡ []) →
    keep xs ++ filter is_late xs ≡ xs
keep_and_late [] h = refl
keep_and_late (e ∷ es) h =
    by (is_late e) refl (keep_and_late es (λ before after d q late. h (e ∷ before) after d (ap (λ xs. e ∷ xs) q) late))
  where
    by : (t : Bool) → is_late e ≡ t → keep es ++ filter is_late es ≡ es →
        (if t then keep es else e ∷ keep es) ++ (if t then e ∷ filter is_late es else filter is_late es) ≡ e ∷ es
    by true late more = subst (λ xs. keep xs ++ e ∷ filter is_late xs ≡ e ∷ xs) (sym (h [] es e refl late)) refl
    by false other more = ap (λ xs. e ∷ xs) more

part_of_more : (b : ℕ) (e : Entry) (past rest : List Entry) → entries_by (reverse (e ∷ past) ++ rest) b ≡ entries_by (reverse past ++ e ∷ rest) b
part_of_more b e past rest = ap (λ l. entries_by l b) (ap (λ l. l ++ rest) (reverse-append (e ∷ []) past) ∙ append_assoc (reverse past) (e ∷ []) rest)

-- the other entries that follow are those that the table is still to make
align : (b : ℕ) (log : ℕ → List Entry) (past rest : List Entry) → others (log b) ≡ entries_by (reverse past ++ rest) b → drop (calls_of b past) (others (log b)) ≡ entries_by rest b
align b log [] rest h = h
align b log (e ∷ past) rest h =
    let k : drop (calls_of b past) (others (log b)) ≡ entries_by (e ∷ rest) b = align b log past (e ∷ rest) (h ∙ part_of_more b e past rest) in
    elim (cases_eq e.caller.0 b) [
      | inl same ↦ rw (calls_more past e b same) (drop_more (calls_of b past) (others (log b)) e (entries_by rest b) (k ∙ part_same rest e b same))
      | inr other ↦ rw (calls_same past e b other) (k ∙ part_miss rest e b other)
    ]

-- the entry starts run b
pub record Opens (b : ℕ) (log : ℕ → List Entry) (o : Option Run) : Type 0 where
  pub run : Run
  pub is : o ≡ Some run
  pub same : run.0 ≡ b
  pub said : entries_by (head_at_start log o) b ≡ verdict_calls_after 0 (log b)

-- it does not
pub record Skips (b : ℕ) (log : ℕ → List Entry) (o : Option Run) : Type 0 where
  pub not : is_run o b ≡ false
  pub said : entries_by (head_at_start log o) b ≡ []

opens_or : (b : ℕ) (log : ℕ → List Entry) (o : Option Run) → ((c : ℕ) → AllBy c (log c)) → Opens b log o ⊎ Skips b log o
opens_or b log None own = inr (record { not = refl; said = refl })
opens_or b log (Some run) own =
    elim (cases_eq run.0 b) [
      | inl same ↦ inl (record {
        run = run;
        is = refl;
        same = same;
        said = subst (λ c. entries_by (verdict_calls_after 0 (log c)) b ≡ verdict_calls_after 0 (log b)) (sym same) (part_all b _ (by_calls b 0 (log b) (own b)));
      })
      | inr other ↦ inr (record {
        not = ne_eqb run.0 b other;
        said = part_none b run.0 _ (by_calls run.0 0 (log run.0) (own run.0)) other;
      })
    ]

-- run b after the entries of past: it has none and nothing of it is placed, or its log up to before its next is
pub record Before (log : ℕ → List Entry) (past : List Entry) (b : ℕ) : Type 0 where
  pub closed : comp_of past b ≡ None
  pub none : entries_by (in_place log past) b ≡ []
  pub whole : calls_of b past ≡ 0

pub record After (log : ℕ → List Entry) (past : List Entry) (b : ℕ) : Type 0 where
  pub opened : comp_of past b ≢ None
  pub made : entries_by (in_place log past) b ≡ kept_to (calls_of b past) (log b)

opening : (b : ℕ) (log : ℕ → List Entry) → ((c : ℕ) → AllBy c (log c)) → Before log [] b ⊎ After log [] b
opening b log own =
    elim (cases_eq b 0) [
      | inl is ↦ inr (record {
        opened = let test : (b == 0) ≡ true = eq-eqb b 0 is in λ h. let zero_comp : Comp = record { 0 = 0 } in let q : Some zero_comp ≡ None = rw test at h in cc;
        made = subst (λ c. entries_by (verdict_calls_after 0 (log c)) b ≡ verdict_calls_after 0 (log b)) is (part_all b _ (by_calls b 0 (log b) (own b)));
      })
      | inr other ↦ inl (record {
        closed = let test : (b == 0) ≡ false = ne_eqb b 0 other in rw test refl;
        none = part_none b 0 _ (by_calls 0 0 (log 0) (own 0)) (λ h. other (sym h));
        whole = refl;
      })
    ]

placed_other : (b : ℕ) (log : ℕ → List Entry) (past : List Entry) (e : Entry) → AllBy e.caller.0 (log e.caller.0) → e.caller.0 ≢ b →
    entries_by (in_place log (e ∷ past)) b ≡ entries_by (in_place log past) b ++ entries_by (head_at_start log (started e)) b
placed_other b log past e own other =
    let count : ℕ = calls_of e.caller.0 (e ∷ past) in
    let said : List Entry = verdict_calls_after count (log e.caller.0) in
    let start : List Entry = head_at_start log (started e) in
    let p : entries_by (e ∷ said ++ start) b ≡ entries_by start b =
    part_miss (said ++ start) e b other ∙ (part_append b said start ∙ ap (λ l. l ++ entries_by start b) (part_none b e.caller.0 said (by_calls e.caller.0 count (log e.caller.0) own) other)) in
    part_append b (in_place log past) (e ∷ said ++ start) ∙ ap (λ l. entries_by (in_place log past) b ++ l) p

placed_same : (b : ℕ) (log : ℕ → List Entry) (past : List Entry) (e : Entry) → AllBy b (log b) → e.caller.0 ≡ b →
    entries_by (head_at_start log (started e)) b ≡ [] →
    entries_by (in_place log (e ∷ past)) b ≡ entries_by (in_place log past) b ++ (e ∷ verdict_calls_after (calls_of b (e ∷ past)) (log b))
placed_same b log past e own same none =
    let said_of : ℕ → List Entry = λ c. verdict_calls_after (calls_of c (e ∷ past)) (log c) in
    let start : List Entry = head_at_start log (started e) in
    let q : entries_by (said_of e.caller.0) b ≡ said_of b =
    subst (λ c. entries_by (said_of c) b ≡ said_of b) (sym same) (part_all b (said_of b) (by_calls b (calls_of b (e ∷ past)) (log b) own)) in
    let r : entries_by (said_of e.caller.0 ++ start) b ≡ said_of b = part_append b (said_of e.caller.0) start ∙ rw (q, none) (append-nil (said_of b)) in
    let p : entries_by (e ∷ said_of e.caller.0 ++ start) b ≡ e ∷ said_of b = part_same (said_of e.caller.0 ++ start) e b same ∙ ap (λ l. e ∷ l) r in
    part_append b (in_place log past) (e ∷ said_of e.caller.0 ++ start) ∙ ap (λ l. entries_by (in_place log past) b ++ l) p

was_closed : (b : ℕ) (log : ℕ → List Entry) (past : List Entry) (e : Entry) → Opens b log (started e) →
    ((run : Run) → started e ≡ Some run → comp_of past run.0 ≡ None) → comp_of past b ≡ None
was_closed b log past e o fresh = subst (λ c. comp_of past c ≡ None) o.same (fresh o.run o.is)

opened_by : (b : ℕ) (log : ℕ → List Entry) (past : List Entry) (e : Entry) → Opens b log (started e) → comp_of past b ≡ None → comp_of (e ∷ past) b ≢ None
opened_by b log past e o closed =
    let some : starts_in e b ≢ None = starts_some (is_ok e.reply) e.op b o.run o.is o.same in
    λ h. some (sym (ap (λ c. first_some c (starts_in e b)) closed) ∙ h)

still_closed : (b : ℕ) (log : ℕ → List Entry) (past : List Entry) (e : Entry) → Skips b log (started e) → comp_of past b ≡ None → comp_of (e ∷ past) b ≡ None
still_closed b log past e s closed =
    ap (λ c. first_some c (starts_in e b)) closed ∙ starts_none (is_ok e.reply) e.op b s.not

step : (b : ℕ) (log : ℕ → List Entry) (past rest : List Entry) (e : Entry) → ((c : ℕ) → AllBy c (log c)) →
    comp_of past e.caller.0 ≢ None → ((run : Run) → started e ≡ Some run → comp_of past run.0 ≡ None) →
    drop (calls_of b past) (others (log b)) ≡ entries_by (e ∷ rest) b →
    Before log past b ⊎ After log past b → Before log (e ∷ past) b ⊎ After log (e ∷ past) b
step b log past rest e own caller fresh next (inl before) =
    let other : e.caller.0 ≢ b = λ same. caller (ap (comp_of past) same ∙ before.closed) in
    let w : entries_by (in_place log (e ∷ past)) b ≡ entries_by (head_at_start log (started e)) b =
    placed_other b log past e (own e.caller.0) other ∙ ap (λ l. l ++ entries_by (head_at_start log (started e)) b) before.none in
    let none : calls_of b (e ∷ past) ≡ 0 = calls_same past e b other ∙ before.whole in
    elim (opens_or b log (started e) own) [
      | inl o ↦ inr (record {
        opened = opened_by b log past e o before.closed;
        made = w ∙ (o.said ∙ sym (ap (λ n. kept_to n (log b)) none));
      })
      | inr s ↦ inl (record {
        closed = still_closed b log past e s before.closed;
        none = w ∙ s.said;
        whole = none;
      })
    ]
step b log past rest e own caller fresh next (inr after) =
    elim (opens_or b log (started e) own) [
      | inl o ↦ absurd (after.opened (was_closed b log past e o fresh))
      | inr s ↦ elim (cases_eq e.caller.0 b) [
        | inl same ↦ inr (record {
          opened = kept_some (comp_of past b) (starts_in e b) after.opened;
          made =
              let n : ℕ = calls_of b past in
              let count : calls_of b (e ∷ past) ≡ suc n = calls_more past e b same in
              placed_same b log past e (own b) same s.said
              ∙ (ap (λ l. l ++ e ∷ verdict_calls_after (calls_of b (e ∷ past)) (log b)) after.made
              ∙ (ap (λ m. kept_to n (log b) ++ e ∷ verdict_calls_after m (log b)) count
              ∙ (sym (kept_more n (log b) e (entries_by rest b) (next ∙ part_same rest e b same)) ∙ sym (ap (λ m. kept_to m (log b)) count))));
        })
        | inr other ↦ inr (record {
          opened = kept_some (comp_of past b) (starts_in e b) after.opened;
          made =
              let kept : entries_by (in_place log (e ∷ past)) b ≡ kept_to (calls_of b past) (log b) = rw (placed_other b log past e (own e.caller.0) other, s.said, append-nil) after.made in
              kept ∙ sym (ap (λ m. kept_to m (log b)) (calls_same past e b other));
        })
      ]
    ]

both : (s t : Bool) → (s && t) ≡ true → (s ≡ true) × (t ≡ true)
both true t h = (refl, h)
both false t h = absurd cc

there : (o : Option Comp) → is_some o ≡ true → o ≢ None
there (Some c) h = λ q. cc
there None h = absurd cc

-- no entry starts a run that was started before it
abbrev StartsOnce : List Entry → Type 0
StartsOnce past = (run : Run) (later earlier : List Entry) (x : Entry) → past ≡ later ++ x ∷ earlier → started x ≡ Some run → comp_of earlier run.0 ≡ None

steps : (b : ℕ) (log : ℕ → List Entry) (past rest : List Entry) → ((c : ℕ) → AllBy c (log c)) → all_started past ≡ true → StartsOnce past →
    others (log b) ≡ entries_by (reverse past ++ rest) b → Before log past b ⊎ After log past b
steps b log [] rest own by_started once h = opening b log own
steps b log (e ∷ past) rest own by_started once h =
    let g : others (log b) ≡ entries_by (reverse past ++ e ∷ rest) b = h ∙ part_of_more b e past rest in
    let s = both (is_some (comp_of past e.caller.0)) (all_started past) by_started in
    let before : StartsOnce past = λ run later earlier x is. once run (e ∷ later) earlier x (ap (λ l. e ∷ l) is) in
    step b log past rest e own (there (comp_of past e.caller.0) s.0) (λ run. once run [] past e refl) (align b log past (e ∷ rest) g) (steps b log past (e ∷ rest) own s.1 before g)

by_late : (b : ℕ) (xs : List Entry) → AllBy b xs → AllBy b (filter is_late xs)
by_late b [] p = p
by_late b (e ∷ es) p = by_if b (is_late e) (e ∷ filter is_late es) (filter is_late es) (p.0, by_late b es p.1) (by_late b es p.1)

late_below : (b : ℕ) (log : ℕ → List Entry) (n : ℕ) → ((c : ℕ) → AllBy c (log c)) → n ≤ b → entries_by (late log n) b ≡ []
unfolding late
late_below b log zero own h = refl
late_below b log (suc k) own h =
    let other : k ≢ b = omega arith in
    part_append b (late log k) (filter is_late (log k))
    ∙ (ap (λ l. l ++ entries_by (filter is_late (log k)) b) (late_below b log k own (omega arith)) ∙ part_none b k (filter is_late (log k)) (by_late k (log k) (own k)) other)

late_at : (b : ℕ) (log : ℕ → List Entry) (n : ℕ) → ((c : ℕ) → AllBy c (log c)) → b < n → entries_by (late log n) b ≡ filter is_late (log b)
unfolding late
late_at b log zero own h = absurd (omega arith)
late_at b log (suc k) own h =
    elim (cases_eq k b) [
      | inl same ↦ part_append b (late log k) (filter is_late (log k))
          ∙ (ap (λ l. l ++ entries_by (filter is_late (log k)) b) (late_below b log k own (omega arith))
          ∙ subst (λ c. entries_by (filter is_late (log c)) b ≡ filter is_late (log b)) (sym same) (part_all b (filter is_late (log b)) (by_late b (log b) (own b))))
      | inr other ↦ part_append b (late log k) (filter is_late (log k))
          ∙ (ap (λ l. entries_by (late log k) b ++ l) (part_none b k (filter is_late (log k)) (by_late k (log k) (own k)) other)
          ∙ (append-nil (entries_by (late log k) b) ∙ late_at b log k own (omega arith)))
    ]

late_part : (b n : ℕ) (log : ℕ → List Entry) → ((c : ℕ) → AllBy c (log c)) → ((c : ℕ) → n ≤ c → log c ≡ []) → entries_by (late log n) b ≡ filter is_late (log b)
late_part b n log own few =
    elim (cases_lt b n) [
      | inl below ↦ late_at b log n own below
      | inr above ↦ late_below b log n own above ∙ sym (ap (λ l. filter is_late l) (few b above))
    ]

as_entries_by : (h : List Entry) (b : ℕ) → part h b ≡ entries_by h b
unfolding part
as_entries_by h b = refl

-- each log is its run's part of the merge
pub part-merge : (history : List Entry) (logs : List RunLog) → AreOfOneCase history logs → (b : ℕ) → part (merge history logs) b ≡ log_of logs b
unfolding merge
part-merge history logs one b =
    let past : List Entry = reverse history in
    let log : ℕ → List Entry = log_of logs in
    let n : ℕ = runs_end logs in
    let own : (c : ℕ) → AllBy c (log c) = λ c. all_by c (log c) (one.own c) in
    let few : (c : ℕ) → n ≤ c → log c ≡ [] = λ c beyond. log_of-beyond logs c beyond in
    let h : others (log b) ≡ entries_by (reverse past ++ []) b =
    one.others b ∙ (as_entries_by history b ∙ sym (ap (λ l. entries_by l b) (append-nil (reverse past) ∙ reverse-reverse history))) in
    let whole : entries_by (in_place log past ++ late log n) b ≡ entries_by (in_place log past) b ++ filter is_late (log b) =
    part_append b (in_place log past) (late log n) ∙ ap (λ l. entries_by (in_place log past) b ++ l) (late_part b n log own few) in
    as_entries_by (in_place log past ++ late log n) b ∙ (whole ∙ elim (steps b log past [] own one.started one.once h) [
      | inl before ↦ let e : log b ≡ [] = one.unstarted b before.closed in rw (before.none, e) refl
      | inr after ↦
          let k : entries_by (in_place log past) b ≡ keep (log b) = after.made ∙ kept_all (calls_of b past) (log b) (align b log past [] h) in
          ap (λ l. l ++ filter is_late (log b)) k ∙ keep_and_late (log b) (one.stop b)
    ])

pub merge-is : (history : List Entry) (logs : List RunLog) → merge history logs ≡ in_place (log_of logs) (reverse history) ++ late (log_of logs) (runs_end logs)
unfolding merge
merge-is history logs = refl
