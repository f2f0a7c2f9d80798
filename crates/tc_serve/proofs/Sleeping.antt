-- Runs that sleep, and how they are woken.
use Rattle.std.proofs.Common.{ℕ, ◌≡◌, ◌≢◌, ◌∙◌, ◌∷◌, ◌+◌, ◌-◌, ◌==◌, ◌<◌, ◌≤◌, zero, suc, if◌then◌else◌, Bool, true, false, Some, None, List, refl, ap, sym, subst, arith}
use Rattle.tc_rules.{specs.{Prelude.{Entry, Op, Reply, Run, parks, waiting, is_parked, answer, IsReplyOf, wake_op}, declared.awaited.Awaited.Awaited}, proofs.Lemmas.Deciding.equal_if}
use Rattle.tc_serve.{specs.{Inside.{AreAwake, Becomes, Holds, IsCalled, IsOpen, after_call, woken_from, woken_once, called}, Protocol.{Played, woken}, declared.open_case.OpenCase.OpenCase}, proofs.Changes.woken_next}
use Rattle.tc_blocks.specs.{declared.line.Line.Line, Prelude.entries_of}

-- ---- what a call does to who sleeps

-- the same are awake, if the caller is none of them or does not sleep
awake_on : (n k : ℕ) (past : List Entry) (e : Entry) → AreAwake k n past → (k ≤ e.caller.0 → e.caller.0 < n → parks e.op e.reply ≡ None) → AreAwake k n (e ∷ past)
awake_on n k past e so goes b from less = by_test (e.caller.0 == b) refl
  where
    by_test : (t : Bool) → (e.caller.0 == b) ≡ t → (if t then parks e.op e.reply else waiting past b) ≡ None
    by_test false other = so b from less
    by_test true own = let same = equal_if e.caller.0 b own in goes (omega (arith, from, same)) (omega (arith, less, same))

-- fewer are from a later run on
awake_from : (n k j : ℕ) (past : List Entry) → k ≤ j → AreAwake k n past → AreAwake j n past
awake_from n k j past later so b from less = so b (omega (arith, from, later)) less

goes_if : (op : Op) (r : Reply) → is_parked r ≡ false → parks op r ≡ None
goes_if op Reply.Parked goes = absurd cc
goes_if op _ goes = refl

pub not_parked : (r : Reply) → r ≢ Reply.Parked → is_parked r ≡ false
not_parked Reply.Parked other = absurd (other refl)
not_parked _ other = refl

-- a call was made, after which only runs before this one sleep
pub called_on : (v w x : OpenCase) (caller : Run) (op : Op) (reply : Reply) (out written : List ℕ) → IsCalled caller op reply v w out written → x.state ≡ w.state → x.met ≡ w.met → v.waited ≤ x.waited →
    ((p : Played) → IsOpen v p → x.waited ≤ p.behaviours) → ((p : Played) → IsOpen v p → x.waited ≤ caller.0 → caller.0 < p.behaviours → is_parked reply ≡ false) → Becomes (λ p. record p { lines = after_call p caller op }) v x out written
called_on v w x caller op reply out written call state met more few goes p closed before holds = record {
  is = record {
    kept = rw (state, met) (call.kept p holds.is.kept);
    few = few p holds.is;
    awake = awake_on p.behaviours x.waited (entries_of p.lines) (called p.behaviours p.lines caller op) (awake_from p.behaviours v.waited x.waited (entries_of p.lines) more holds.is.awake)
        (λ from less. goes_if op _ (ap is_parked (sym (call.replied p holds.is.kept)) ∙ goes p holds.is from less));
  };
  text = call.text p closed before holds.is.kept holds.text;
}

-- ---- one run

pub wakes_up : (o w : OpenCase) (run : Run) (a : Awaited) (reply given : Reply) (out written : List ℕ) → ((p : Played) → IsOpen o p → Some a ≡ waiting (entries_of p.lines) run.0) → IsReplyOf o.state run (wake_op a) reply → is_parked reply ≡ false →
    IsCalled run (wake_op a) given o w out written → Becomes (λ p. record p { lines = woken_once p.behaviours p.lines run.0 }) o w out written
wakes_up o w run a reply given out written waits replied goes call p closed before holds =
    let awake : is_parked (answer p.behaviours (entries_of p.lines) run.0 (wake_op a)) ≡ false = ap is_parked (sym (answered p holds.is)) ∙ goes in
    let once : after_call p run (wake_op a) ≡ woken_once p.behaviours p.lines run.0 =
    sym (ap (woken_from p.behaviours p.lines run.0) (sym (waits p holds.is)) ∙ ap (λ (t : Bool). if t then p.lines else after_call p run (wake_op a)) awake) in
    subst (λ (ls : List Line). Holds w (record p { lines = ls }) closed before written) once
    (called_on o w w run (wake_op a) given out written call refl refl (let same = call.same in omega (arith, same)) (λ q is. let same = call.same in let few = is.few in omega (arith, same, few))
    (λ q is from less. ap is_parked (call.replied q is.kept ∙ sym (answered q is)) ∙ goes) p closed before holds)
  where
    answered : (q : Played) → IsOpen o q → reply ≡ answer q.behaviours (entries_of q.lines) run.0 (wake_op a)
    answered q is = replied (entries_of q.lines) is.kept.stands ∙ ap (λ (n : ℕ). answer n (entries_of q.lines) run.0 (wake_op a)) is.kept.behaviours

-- ---- one after the other

-- nobody is woken whom no wait holds
skip : (n : ℕ) (lines : List Line) (k j : ℕ) → ((b : ℕ) → k ≤ b → b < k + j → waiting (entries_of (woken n lines k)) b ≡ None) → woken n lines (k + j) ≡ woken n lines k
skip n lines k zero none = let same : k + 0 ≡ k = omega arith in ap (woken n lines) same
skip n lines k (suc j) none =
    let before : woken n lines (k + j) ≡ woken n lines k = skip n lines k j (λ b from less. none b from (omega (arith, less))) in
    let awake : waiting (entries_of (woken n lines k)) (k + j) ≡ None = none (k + j) (omega arith) (omega arith) in
    let next : k + suc j ≡ (k + j) + 1 = omega arith in
    ap (woken n lines) next ∙ (woken_next n lines (k + j) ∙ (ap (λ ls. woken_once n ls (k + j)) before ∙ ap (woken_from n (woken n lines k) (k + j)) awake))

skipped : (n : ℕ) (lines : List Line) (k j : ℕ) → k ≤ j → ((b : ℕ) → k ≤ b → b < j → waiting (entries_of (woken n lines k)) b ≡ None) → woken n lines j ≡ woken n lines k
skipped n lines k j less none =
    let whole : k + (j - k) ≡ j = omega (arith, less) in
    ap (woken n lines) (sym whole) ∙ skip n lines k (j - k) (λ b from below. none b from (omega (arith, below, whole)))

-- those before this run that can continue are woken
abbrev pub AreWoken : OpenCase → OpenCase → ℕ → List ℕ → List ℕ → Type 0
AreWoken o o' k out written = (p : Played) (closed : List Played) (before : List ℕ) → Holds o p closed before out → Holds o' (record p { lines = woken p.behaviours p.lines k }) closed before written

pub woken_one : (o w x : OpenCase) (k : ℕ) (run : Run) (out mid written : List ℕ) → run.0 ≡ k → AreWoken o w k out mid → Becomes (λ p. record p { lines = woken_once p.behaviours p.lines run.0 }) w x mid written → AreWoken o x (k + 1) out written
woken_one o w x k run out mid written is so becomes p closed before holds =
    subst (λ (ls : List Line). Holds x (record p { lines = ls }) closed before written) (ap (woken_once p.behaviours (woken p.behaviours p.lines k)) is ∙ sym (woken_next p.behaviours p.lines k))
    (becomes (record p { lines = woken p.behaviours p.lines k }) closed before (so p closed before holds))

pub woken_all : (o w : OpenCase) (k : ℕ) (out written : List ℕ) → k ≡ w.waited → AreWoken o w k out written → Becomes (λ p. record p { lines = woken p.behaviours p.lines p.behaviours }) o w out written
woken_all o w k out written all so p closed before holds =
    let after = so p closed before holds in
    subst (λ (ls : List Line). Holds w (record p { lines = ls }) closed before written)
    (sym (skipped p.behaviours p.lines k p.behaviours (omega (arith, all, after.is.few)) (λ b from less. after.is.awake b (omega (arith, all, from)) less))) after
