-- The words after one more entry: they lag at most.
use Rattle.std.proofs.{Common.{ℕ, ◌≡◌, ◌≢◌, ◌<◌, ◌==◌, ◌&&◌, not, if◌then◌else◌, Bool, true, false, Option, Some, None, is_some, unwrap_or, List, ◌∷◌, length, set, length-set, refl, ap, sym, ◌∙◌, subst, arith, inl, inr}, lemmas.Bool.Decides.nat_tests, lemmas.Bool.{cases_eq, ne_eqb}}
use Rattle.tc_rules.{specs.Prelude.{Run, UserVerdict, Comp, Entry, Op, Reply, is_ok, comp_of, first_some, halts, started_on, last_run, phase, start_in, is_running, answer, is_active, IsLegal}, proofs.{Lemmas.Going.{halted_by_entry, last_on_it, last_stands, started_by_entry, starts_still}, Lemmas.Sound.{no_special, plain_if, start_in_range, starts_fresh}}}
use Rattle.tc_board.specs.declared.record.Record.{Record, TheVariants.Closed, TheVariants.Open, TheVariants.Unbegun}
use Rattle.tc_book.{specs.{Inside.Words.{CanBegin, Lags, WordsLag, with_start, carried_to, last_on, left_by}, Words.{IsWordOf, WordsAgree, carried, closing, record_at, run_before}}, proofs.Settling.{at_same, at_other}}

first_true : (a b : Bool) → (a && b) ≡ true → a ≡ true
first_true true b h = refl
first_true false b h = absurd cc

first_or : (o : Option Comp) → first_some o None ≡ o
first_or (Some c) = refl
first_or None = refl

-- a run that the entry does not start continues after it only if it continued before it
active_before : (n : ℕ) (past : List Entry) (e : Entry) (b : ℕ) → IsLegal n (e ∷ past) → started_on e b ≡ None → is_active (e ∷ past) b ≡ true → is_active past b ≡ true
active_before n past e b legal none h = by_comp (comp_of past b) refl
  where
    by_comp : (o : Option Comp) → comp_of past b ≡ o → is_active past b ≡ true
    by_comp (Some c) on = first_true (is_active past b) (not (halts (comp_of past e.caller.0) e c.0)) (sym (halted_by_entry n past e b c legal on) ∙ h)
    by_comp None free = let q : false ≡ true = sym (started_by_entry n past e b legal free ∙ ap is_some none) ∙ h in absurd cc

comp_same : (past : List Entry) (e : Entry) (b : ℕ) → started_on e b ≡ None → comp_of (e ∷ past) b ≡ comp_of past b
comp_same past e b none = rw none (first_or (comp_of past b))

if_some : (s : Bool) (x y : Option Run) (a : Run) → y ≡ None → (if s then x else y) ≡ Some a → x ≡ Some a
if_some true x y a none is = is
if_some false x y a none is = cc

before_same : (past : List Entry) (e : Entry) (b : ℕ) (a : Run) → started_on e b ≡ None → run_before (e ∷ past) b ≡ Some a → run_before past b ≡ Some a
before_same past e b a none is = if_some (is_some (comp_of past b)) (run_before past b) (last_on past (started_on e b)) a (ap (last_on past) none) is

word_same : (o : Option Comp) (was : Bool) (words : List Record) (x y : Option Run) (r : Record) →
    IsWordOf o was (left_by words x) r → IsWordOf o was (left_by words (if is_some o then x else y)) r
word_same None was words x y r is = is
word_same (Some c) was words x y r is = is

-- the word of a run that the entry does not start lags at most
lags_other : (n : ℕ) (past : List Entry) (e : Entry) (words : List Record) (b : ℕ) → IsLegal n (e ∷ past) → started_on e b ≡ None → b < n → WordsAgree n past words → Lags (e ∷ past) words b
lags_other n past e words b legal none less t = record {
  was = is_active past b;
  active = active_before n past e b legal none;
  is = rw (comp_same past e b none)
      (word_same (comp_of past b) (is_active past b) words (run_before past b) (last_on past (started_on e b)) (record_at words b) (t.each b less));
}

-- after an entry that starts no run
partly_after : (n : ℕ) (past : List Entry) (e : Entry) (words : List Record) → IsLegal n (e ∷ past) → ((b : ℕ) → started_on e b ≡ None) → WordsAgree n past words →
    WordsLag n (e ∷ past) words 0
partly_after n past e words legal none t = record {
  as_many = t.as_many;
  each = λ b less. lags_other n past e words b legal (none b) less t;
  before = λ b a is. t.before b a (before_same past e b a (none b) is);
  settled = λ b less. absurd (omega arith);
}

left_kept : (words : List Record) (i : ℕ) (r : Record) (o : Option Run) → ((a : Run) → o ≡ Some a → a.0 ≢ i) → left_by (set words i r) o ≡ left_by words o
left_kept words i r None other = refl
left_kept words i r (Some a) other = ap (λ x. unwrap_or (closing x) UserVerdict.None) (at_other words i a.0 r (other a refl))

-- the last run on a component that is not running has its word closed
last_closed : (n : ℕ) (past : List Entry) (words : List Record) (c : ℕ) (a : Run) → 0 < n → IsLegal n past → WordsAgree n past words →
    is_running (phase past c) ≡ false → last_run past c ≡ Some a → is_some (closing (record_at words a.0)) ≡ true
last_closed n past words c a some legal t still h =
    let k = last_on_it n past c a some legal h in
    let off : is_active past a.0 ≡ false = last_stands past c a k.0 still in
    let halted : (v : UserVerdict) × (record_at words a.0 ≡ Closed (carried words past a.0) v) = rw (k.0, off) at (t.each a.0 k.1) in
    ap (λ x. is_some (closing x)) halted.1

abbrev pub start : Run → Comp → Run → List Comp → Entry
start caller comp run args = record { caller = caller; op = Op.Start comp run args; reply = Reply.Ok }

pub same_test : (m : ℕ) → (m == m) ≡ true
same_test m = grind (arith, nat_tests)

-- after a Start replied Ok, whose word is begun with what the close of the last run on the component gave
partly_started : (n : ℕ) (past : List Entry) (words : List Record) (caller : Run) (comp : Comp) (run : Run) (args : List Comp) →
    IsLegal n (start caller comp run args ∷ past) → WordsAgree n past words →
    WordsLag n (start caller comp run args ∷ past) (set words run.0 (Open (left_by words (last_run past comp.0)))) 0
partly_started n past words caller comp run args legal t =
    let e : Entry = start caller comp run args in
    let ok : Reply.Ok ≡ answer n past caller.0 (Op.Start comp run args) = legal.0 in
    let plain = plain_if n past caller.0 (Op.Start comp run args) Reply.Ok refl refl ok in
    let below : run.0 < n = start_in_range n past comp.0 run.0 (no_special n past caller.0 (Op.Start comp run args) plain.no_fault) in
    let some : 0 < n = omega (arith, below) in
    let begins : start_in e comp.0 ≡ Some run = rw (same_test comp.0) refl in
    let free : comp_of past run.0 ≡ None = (starts_fresh n past e comp.0 run legal.0 begins).1.free in
    let still : is_running (phase past comp.0) ≡ false = starts_still n past e comp.0 run legal.0 begins in
    let w : Record = Open (left_by words (last_run past comp.0)) in
    let within : run.0 < length words = rw t.as_many below in
    let empty : record_at words run.0 ≡ Unbegun = rw free at (t.each run.0 below) in
    let not_it : (a : ℕ) → is_some (closing (record_at words a)) ≡ true → a ≢ run.0 =
    λ a d is. let q : is_some (closing (record_at words run.0)) ≡ true = subst (λ k. is_some (closing (record_at words k)) ≡ true) is d in
    let z : is_some (closing Unbegun) ≡ true = rw empty at q in let y : false ≡ true = z in cc in
    let here : started_on e run.0 ≡ Some comp = rw (same_test run.0) refl in
    let before_here : run_before (e ∷ past) run.0 ≡ last_run past comp.0 = rw (free, here) refl in
    let other : (b : ℕ) → b ≢ run.0 → started_on e b ≡ None = λ b ne. rw (ne_eqb run.0 b (λ h. ne (sym h))) refl in
    let all_before : (b : ℕ) (a : Run) → run_before (e ∷ past) b ≡ Some a → is_some (closing (record_at words a.0)) ≡ true =
    λ b a is. elim (cases_eq b run.0) [
      | inl same ↦ last_closed n past words comp.0 a some legal.1 t still (sym before_here ∙ subst (λ k. run_before (e ∷ past) k ≡ Some a) same is)
      | inr ne ↦ t.before b a (before_same past e b a (other b ne) is)
    ] in
    let carries : (b : ℕ) → carried (set words run.0 w) (e ∷ past) b ≡ carried words (e ∷ past) b =
    λ b. left_kept words run.0 w (run_before (e ∷ past) b) (λ a is. not_it a.0 (all_before b a is)) in
    let on : comp_of (e ∷ past) run.0 ≡ Some comp = rw (free, here) refl in
    let mine : Lags (e ∷ past) (set words run.0 w) run.0 = record {
      was = true;
      active = λ a. refl;
      is = rw (at_same words run.0 w within, on, carries run.0, before_here) refl;
    } in
    record {
      as_many = rw length-set t.as_many;
      each = λ b less. elim (cases_eq b run.0) [
        | inl same ↦ subst (λ k. Lags (e ∷ past) (set words run.0 w) k) (sym same) mine
        | inr ne ↦
            let old = lags_other n past e words b legal (other b ne) less t in
            record {
              was = old.was;
              active = old.active;
              is = rw (at_other words run.0 b w ne, carries b) old.is;
            }
      ];
      before = λ b a is. rw (at_other words run.0 a.0 w (not_it a.0 (all_before b a is))) (all_before b a is);
      settled = λ b less. absurd (omega arith);
    }

if_none : {A : Type 0} (ok : Bool) → (if ok then (let o : Option A = None in o) else None) ≡ None
if_none true = refl
if_none false = refl

abbrev pub entry : Run → Op → Reply → Entry
entry caller op reply = record { caller = caller; op = op; reply = reply }

-- after any entry, if the word of a run that it starts is begun
pub after_entry : (n : ℕ) (past : List Entry) (words : List Record) (caller : Run) (op : Op) (reply : Reply) →
    IsLegal n (entry caller op reply ∷ past) → WordsAgree n past words →
    WordsLag n (entry caller op reply ∷ past) (with_start op reply (carried_to words past op) words) 0
after_entry n past words caller (Op.Start c run args) Reply.Ok legal t = partly_started n past words caller c run args legal t
after_entry n past words caller (Op.Start c run args) reply legal t = partly_after n past (entry caller (Op.Start c run args) reply) words legal (λ b. refl) t
after_entry n past words caller op reply legal t = partly_after n past (entry caller op reply) words legal (λ b. if_none (is_ok reply)) t

-- the word of a run that is started is unbegun
pub can_begin : (n : ℕ) (past : List Entry) (words : List Record) (caller : Run) (op : Op) (reply : Reply) → WordsAgree n past words → reply ≡ answer n past caller.0 op → CanBegin op reply words
can_begin n past words caller (Op.Start c run args) Reply.Ok t ok =
    let plain = plain_if n past caller.0 (Op.Start c run args) Reply.Ok refl refl ok in
    let below : run.0 < n = start_in_range n past c.0 run.0 (no_special n past caller.0 (Op.Start c run args) plain.no_fault) in
    let begins : start_in (start caller c run args) c.0 ≡ Some run = rw (same_test c.0) refl in
    let free : comp_of past run.0 ≡ None = (starts_fresh n past (start caller c run args) c.0 run ok begins).1.free in
    (rw t.as_many below, rw free at (t.each run.0 below))
can_begin n past words caller (Op.Start c run args) reply t ok = tt
can_begin n past words caller op reply t ok = tt
