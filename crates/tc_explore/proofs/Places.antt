-- The place of a run after its own turn.
use Rattle.std.proofs.lemmas.Grind.{common_steps}
use Rattle.std.{proofs.{lemmas.Bool.{and_parts, or_right, Decides.nat_tests, cases_lt, or_cases, or_left, or_parts}, Common.{ℕ, suc, ◌≡◌, ◌+◌, ◌<◌, ◌≤◌, ◌==◌, ◌&&◌, ◌||◌, ◌⊎◌, inl, inr, not, if◌then◌else◌, Bool, true, false, Option, Some, None, MatchOption, List, [], ◌∷◌, length, refl, ap, sym, subst, ◌∙◌, arith, append-nil, ⊎_elim, slice_get}}, specs.{List.list_all, Option.{unwrap_or}}}
use Rattle.tc_rules.{specs.Prelude.{Verdict, level_of, Comp, Entry, Op, Reply, Fault, is_ended, is_wake, ends_pass, comp_of, created, exists, overall, fault, all_exist, names, asks_many, special_fault, IsLegal, UserVerdict, given, started_on}, proofs.Lemmas.{Over.stays}}
use Rattle.tc_step.specs.Prelude.{ScriptView}
use Rattle.tc_course.{specs.{Prelude.{CourseState, after_own, stand, turn, steps_of}, Inside.{ends, wake_for, wake_if, call_of}}, proofs.Lemmas.{has_turn, never_wake}}
use Rattle.tc_explore.{specs.Inside.Simulation.{is_quiet, is_late, is_met, is_spent, WasParked, IsQuietAt, call_at, IsWakeOf, IsBefore, IsParkedAt, IsFollowed, IsLastAt, IsLeaving, is_barred, IsBarredBefore}, proofs.{Ahead.KeepsQuiet, Alike.{ChangesNothing, overall_grows}, Late.{late_next, late_special, met_next, met_special}}}

pub or_no : (a : Bool) → (a || false) ≡ a
or_no true = refl
or_no false = refl

pub kept_bound : (e : Entry) (s : CourseState) → created e.op e.reply ≡ None → (after_own e s).bound ≡ s.bound
kept_bound e s h = rw h (append-nil s.bound)

pub kept_left : (e : Entry) (s : CourseState) → ends s.comp e ≡ false → (after_own e s).left ≡ s.left
kept_left e s h = rw h (or_no s.left)

one_more_called : (e : Entry) (s : CourseState) → is_wake e.op ≡ false → (after_own e s).called ≡ s.called + 1
one_more_called e s h = rw h refl

-- what changes nothing ends no pass
pub not_ending : (past : List Entry) (e : Entry) (o : Option Comp) (me : Comp) → ChangesNothing past e → o ≡ Some me → comp_of past e.caller.0 ≡ Some me → is_ended e.reply ≡ false → ends o e ≡ false
unfolding ends_pass
not_ending past e o me u same on r = grind (arith, common_steps)

pub quiet_sets_no_wake : (w : Verdict) (op : Op) (r : Reply) → is_quiet w op ≡ true → wake_if op r ≡ None
quiet_sets_no_wake w op Reply.Parked h = by_op op h
  where
    by_op : (o : Op) → is_quiet w o ≡ true → wake_for o ≡ None
    by_op (Op.Wait k t) j = absurd cc
    by_op _ j = cc
quiet_sets_no_wake w op _ h = refl

pub quiet_no_wake : (w : Verdict) (op : Op) → is_quiet w op ≡ true → is_wake op ≡ false
quiet_no_wake w (Op.Wake k t) h = absurd cc
quiet_no_wake w _ h = refl

before_of : (scripts : List ScriptView) (q : List Entry) (b : ℕ) (s t : CourseState) → s.wake ≡ None → IsFollowed scripts q b s t → IsBefore scripts q b s t
before_of scripts q b s t h f = subst (λ o. MatchOption o (IsBefore scripts q b s t) (λ wake. IsParkedAt scripts q b s t wake)) h f.place

followed_own : (scripts : List ScriptView) (q : List Entry) (b : ℕ) (s t : CourseState) (e : Entry) → IsFollowed scripts q b s t → created e.op e.reply ≡ None → ends s.comp e ≡ false →
    MatchOption (after_own e s).wake (IsBefore scripts q b (after_own e s) t) (IsParkedAt scripts q b (after_own e s) t) → IsFollowed scripts q b (after_own e s) t
followed_own scripts q b s t e f made stays_on place = record { comp = f.comp; bound = kept_bound e s made ∙ f.bound; left = kept_left e s stays_on ∙ f.left; no_wake = f.no_wake; place = place }

-- a quiet call that the other has made already
pub behind : (scripts : List ScriptView) (q : List Entry) (b : ℕ) (s t : CourseState) (e : Entry) → IsFollowed scripts q b s t → s.wake ≡ None → s.called < t.called →
    created e.op e.reply ≡ None → ends s.comp e ≡ false → is_wake e.op ≡ false → wake_if e.op e.reply ≡ None → IsFollowed scripts q b (after_own e s) t
behind scripts q b s t e f none less made stays_on plain no_wake = grind (arith, common_steps)

-- a Wait that is parked
pub parked : (scripts : List ScriptView) (q : List Entry) (b : ℕ) (s t : CourseState) (e : Entry) (wake : Op) → IsFollowed scripts q b s t → s.wake ≡ None →
    created e.op e.reply ≡ None → ends s.comp e ≡ false → is_wake e.op ≡ false → wake_if e.op e.reply ≡ Some wake → IsWakeOf (call_at scripts b t t.comp s.called) wake →
    IsFollowed scripts q b (after_own e s) t
parked scripts q b s t e wake f none made stays_on plain to_come of = grind (arith, common_steps)

-- a Wake that is answered Matched, of a Wait that the other has made already
pub woken_behind : (scripts : List ScriptView) (q : List Entry) (b : ℕ) (s t : CourseState) (e : Entry) (wake : Op) → IsFollowed scripts q b s t → (at : IsParkedAt scripts q b s t wake) → at.place < t.called →
    created e.op e.reply ≡ None → ends s.comp e ≡ false → is_wake e.op ≡ true → wake_if e.op e.reply ≡ None → IsFollowed scripts q b (after_own e s) t
woken_behind scripts q b s t e wake f at less made stays_on wakes none = grind (arith, common_steps)

-- what is called at a place stays so after a call that makes no component
pub own_call : (scripts : List ScriptView) (b : ℕ) (s : CourseState) (e : Entry) → created e.op e.reply ≡ None → (o : Option Comp) (k : ℕ) → call_at scripts b (after_own e s) o k ≡ call_at scripts b s o k
own_call scripts b s e made None k = refl
own_call scripts b s e made (Some me) k = rw (kept_bound e s made) refl

-- a quiet call of the other
pub ahead : (scripts : List ScriptView) (q : List Entry) (b : ℕ) (s t : CourseState) (e : Entry) → IsFollowed scripts (e ∷ q) b s t → IsQuietAt (length scripts) (e ∷ q) b (call_at scripts b t t.comp t.called) →
    created e.op e.reply ≡ None → ends t.comp e ≡ false → is_wake e.op ≡ false → wake_if e.op e.reply ≡ None → IsFollowed scripts (e ∷ q) b s (after_own e t)
ahead scripts q b s t e f quiet made stays_on plain no_wake = record {
  comp = f.comp;
  bound = f.bound ∙ sym (kept_bound e t made);
  left = f.left ∙ sym (kept_left e t stays_on);
  no_wake = no_wake;
  place = by_wake s.wake f.place;
}
  where
    called : (after_own e t).called ≡ t.called + 1
    called = one_more_called e t plain

    same_call : (k : ℕ) → call_at scripts b (after_own e t) t.comp k ≡ call_at scripts b t t.comp k
    same_call = own_call scripts b t e made t.comp

    at_last : (k : ℕ) → (k < t.called → IsQuietAt (length scripts) (e ∷ q) b (call_at scripts b t t.comp k)) → k < (after_own e t).called → IsQuietAt (length scripts) (e ∷ q) b (call_at scripts b (after_own e t) t.comp k)
    at_last k h m = subst (λ op. IsQuietAt (length scripts) (e ∷ q) b op) (sym (same_call k)) (⊎_elim h (λ far.
        let is : k ≡ t.called = omega (arith, called, far, m) in
        subst (λ x. IsQuietAt (length scripts) (e ∷ q) b (call_at scripts b t t.comp x)) (sym is) quiet) (cases_lt k t.called))

    by_wake : (o : Option Op) → MatchOption o (IsBefore scripts (e ∷ q) b s t) (λ wake. IsParkedAt scripts (e ∷ q) b s t wake) →
        MatchOption o (IsBefore scripts (e ∷ q) b s (after_own e t)) (λ wake. IsParkedAt scripts (e ∷ q) b s (after_own e t) wake)
    by_wake None h = record {
      fewer = let l = h.fewer in omega (arith, called);
      between = λ k l m. at_last k (h.between k l) m;
    }
    by_wake (Some wake) h = record {
      place = h.place;
      one_more = h.one_more;
      fewer = let l = h.fewer in omega (arith, called);
      wake_of = subst (λ op. IsWakeOf op wake) (sym (same_call h.place)) h.wake_of;
      between = λ k l m. at_last k (h.between k l) m;
    }

-- what is left of a run after a call of it that makes no component: what is barred stays so
leaving_own : {aim : Verdict} (scripts : List ScriptView) (q : List Entry) (b : ℕ) (s : CourseState) (e : Entry) → created e.op e.reply ≡ None →
    MatchOption (after_own e s).wake (Unit {0}) (λ wake. WasParked scripts q b (after_own e s) wake) → s.called ≤ (after_own e s).called →
    ((j : ℕ) → s.called ≤ j → is_barred aim (call_at scripts b s s.comp j) ≡ true → (after_own e s).called ≤ j) → IsLeaving aim scripts q b s → IsLeaving aim scripts q b (after_own e s)
leaving_own {aim} scripts q b s e made parked more from l = record { parked = parked; calls = λ k m. by_call k (l.calls k (omega (arith, more, m))) }
  where
    by_call : (k : ℕ) → IsLastAt (length scripts) q b (call_at scripts b s s.comp k) ⊎ IsBarredBefore aim scripts b s k →
        IsLastAt (length scripts) q b (call_at scripts b (after_own e s) s.comp k) ⊎ IsBarredBefore aim scripts b (after_own e s) k
    by_call k (inl last) = inl (subst (λ op. IsLastAt (length scripts) q b op) (sym (own_call scripts b s e made s.comp k)) last)
    by_call k (inr bar) = inr (record { place = bar.place; later = from bar.place bar.later bar.bars; before = bar.before; bars = ap (is_barred aim) (own_call scripts b s e made s.comp bar.place) ∙ bar.bars })

from_behind : (aim : Verdict) (scripts : List ScriptView) (b : ℕ) (s : CourseState) (e : Entry) → is_wake e.op ≡ false → is_barred aim (call_at scripts b s s.comp s.called) ≡ false → (j : ℕ) → s.called ≤ j →
    is_barred aim (call_at scripts b s s.comp j) ≡ true → (after_own e s).called ≤ j
from_behind aim scripts b s e plain free j l bars = grind (arith, common_steps)

-- a quiet call of a run that is leaving
pub leaving_on : {aim : Verdict} (scripts : List ScriptView) (q : List Entry) (b : ℕ) (s : CourseState) (e : Entry) → IsLeaving aim scripts q b s →
    created e.op e.reply ≡ None → is_wake e.op ≡ false → wake_if e.op e.reply ≡ None → is_barred aim (call_at scripts b s s.comp s.called) ≡ false → IsLeaving aim scripts q b (after_own e s)
leaving_on {aim} scripts q b s e l made plain no_wake free =
    leaving_own scripts q b s e made (subst (λ o. MatchOption o (Unit {0}) (λ wake. WasParked scripts q b (after_own e s) wake)) (sym no_wake) tt)
    (omega (arith, one_more_called e s plain)) (from_behind aim scripts b s e plain free) l

-- a Wait of it that is parked
pub leaving_parked : {aim : Verdict} (scripts : List ScriptView) (q : List Entry) (b : ℕ) (s : CourseState) (e : Entry) (wake : Op) → IsLeaving aim scripts q b s →
    created e.op e.reply ≡ None → is_wake e.op ≡ false → wake_if e.op e.reply ≡ Some wake → IsWakeOf (call_at scripts b s s.comp s.called) wake →
    IsQuietAt (length scripts) q b (call_at scripts b s s.comp s.called) → IsLeaving aim scripts q b (after_own e s)
leaving_parked {aim} scripts q b s e wake l made plain to_come of quiet =
    leaving_own scripts q b s e made (subst (λ o. MatchOption o (Unit {0}) (λ w. WasParked scripts q b (after_own e s) w)) (sym to_come) was)
    (omega (arith, one_more_called e s plain)) (from_behind aim scripts b s e plain (ap (is_barred aim) of.waits)) l
  where
    was : WasParked scripts q b (after_own e s) wake
    was = record {
      place = s.called;
      one_more = omega (arith, one_more_called e s plain);
      wake_of = subst (λ op. IsWakeOf op wake) (sym (own_call scripts b s e made s.comp s.called)) of;
      quiet = subst (λ op. IsQuietAt (length scripts) q b op) (sym (own_call scripts b s e made s.comp s.called)) quiet;
    }

-- a Wake of it that is answered Matched
pub leaving_woken : {aim : Verdict} (scripts : List ScriptView) (q : List Entry) (b : ℕ) (s : CourseState) (e : Entry) → IsLeaving aim scripts q b s →
    created e.op e.reply ≡ None → is_wake e.op ≡ true → wake_if e.op e.reply ≡ None → IsLeaving aim scripts q b (after_own e s)
leaving_woken {aim} scripts q b s e l made wakes none =
    let called : (after_own e s).called ≡ s.called = rw wakes refl in
    leaving_own scripts q b s e made (subst (λ o. MatchOption o (Unit {0}) (λ w. WasParked scripts q b (after_own e s) w)) (sym none) tt)
    (omega (arith, called)) (λ j low bars. omega (arith, called, low)) l

-- the same call of both, which is not parked
pub together : (scripts : List ScriptView) (q r : List Entry) (b : ℕ) (s t : CourseState) (e : Entry) → IsFollowed scripts q b s t → s.called ≡ t.called →
    is_wake e.op ≡ false → wake_if e.op e.reply ≡ None → IsFollowed scripts r b (after_own e s) (after_own e t)
together scripts q r b s t e f same plain no_wake = grind (arith, common_steps)

-- a Wake of the one, and a Wait of the other, with the same reply
pub woken : (scripts : List ScriptView) (q r : List Entry) (b : ℕ) (s t : CourseState) (d e : Entry) → IsFollowed scripts q b s t → s.called ≡ suc t.called →
    created d.op d.reply ≡ None → created e.op e.reply ≡ None → ends s.comp d ≡ false → ends t.comp e ≡ false →
    is_wake d.op ≡ true → is_wake e.op ≡ false → wake_if d.op d.reply ≡ None → wake_if e.op e.reply ≡ None → IsFollowed scripts r b (after_own d s) (after_own e t)
woken scripts q r b s t d e f one_more made_d made_e stays_d stays_e wakes waits none_d none_e = grind (arith, common_steps)

-- the same is known
pub followed_self : (scripts : List ScriptView) (q : List Entry) (b : ℕ) (s : CourseState) → s.wake ≡ None → IsFollowed scripts q b s s
followed_self scripts q b s none = grind (arith, common_steps)

-- ---- quiet calls stay quiet after any entry

quiet_then : (w x : Verdict) (op : Op) → level_of w ≤ level_of x → is_quiet w op ≡ true → is_quiet x op ≡ true
quiet_then w x (Op.SetVerdict v) l h = grind (arith, nat_tests)
quiet_then w x _ l h = h

no_fault_by : (known many : Bool) (f : Option Fault) → (if not known then Some Fault.NoComponent else if many then Some Fault.NotMain else f) ≡ None → (known ≡ true) × (many ≡ false)
no_fault_by true true f h = absurd cc
no_fault_by true false f h = (refl, refl)
no_fault_by false many f h = absurd cc

never_special : (n : ℕ) (past : List Entry) (w : Verdict) (op : Op) → is_quiet w op ≡ true → special_fault n past op ≡ None
never_special n past w (Op.Create alive name) h = absurd cc
never_special n past w _ h = cc

still_exist : (past : List Entry) (e : Entry) (cs : List Comp) → list_all (λ c. exists past c.0) cs ≡ true → list_all (λ c. exists (e ∷ past) c.0) cs ≡ true
still_exist past e [] h = refl
still_exist past e (c ∷ cs) h =
    let p = and_parts (exists past c.0) (list_all (λ x. exists past x.0) cs) h in
    rw (stays past e c.0 p.0, still_exist past e cs p.1) refl

pub still_no_fault_by : (n : ℕ) (past : List Entry) (e : Entry) (b : ℕ) (op : Op) → special_fault n (e ∷ past) op ≡ None → fault n past b op ≡ None → fault n (e ∷ past) b op ≡ None
unfolding fault all_exist
still_no_fault_by n past e b op none h =
    let p = no_fault_by (list_all (λ c. exists past c.0) (names op)) (asks_many op && not (b == 0)) (special_fault n past op) h in
    rw (still_exist past e (names op) p.0, p.1, none) refl

-- how a call changes nothing: it is quiet, or stops or kills what is killed already, or waits for that
abbrev pub Spent : List Entry → Op → Type 0
Spent past op = (is_quiet (overall past) op ≡ true) ⊎ ((is_late past op ≡ true) ⊎ (is_met past op ≡ true))

pub how_spent : (past : List Entry) (op : Op) → is_spent past op ≡ true → Spent past op
how_spent past op h = ⊎_elim inl (λ rest. inr (or_cases (is_late past op) _ rest)) (or_cases (is_quiet (overall past) op) _ h)

pub spent_by : (past : List Entry) (op : Op) → Spent past op → is_spent past op ≡ true
spent_by past op (inl quiet) = or_left (is_quiet (overall past) op) _ quiet
spent_by past op (inr other) = or_right (is_quiet (overall past) op) _ (⊎_elim (or_left (is_late past op) _) (or_right (is_late past op) _) other)

pub loud_not_quiet : (past : List Entry) (op : Op) → is_spent past op ≡ false → is_quiet (overall past) op ≡ false
loud_not_quiet past op h = (or_parts (is_quiet (overall past) op) _ h).0

pub keeps_quiet : (n : ℕ) (past : List Entry) (e : Entry) → IsLegal n (e ∷ past) → KeepsQuiet n past (e ∷ past)
keeps_quiet n past e legal b op h =
    let k = by_kind (how_spent past op h.quiet) in
    record { quiet = spent_by (e ∷ past) op k.0; no_fault = still_no_fault_by n past e b op k.1 h.no_fault }
  where
    by_kind : Spent past op → Spent (e ∷ past) op × (special_fault n (e ∷ past) op ≡ None)
    by_kind (inl quiet) = (inl (quiet_then (overall past) (overall (e ∷ past)) op (overall_grows n past e legal) quiet), never_special n (e ∷ past) (overall past) op quiet)
    by_kind (inr (inl late)) = (inr (inl (late_next n past e op legal late)), late_special n (e ∷ past) past op late)
    by_kind (inr (inr met)) = (inr (inr (met_next n past e op legal met)), met_special n (e ∷ past) past op met)

-- a call that sets a verdict worse than this one
pub record IsSettingWorse (aim : Verdict) (op : Op) : Type 0 where
  pub verdict : UserVerdict
  pub sets : op ≡ Op.SetVerdict verdict
  pub worse : level_of aim < level_of (given verdict)

pub barred_sets : (aim : Verdict) (op : Op) → is_barred aim op ≡ true → IsSettingWorse aim op
barred_sets aim (Op.SetVerdict v) h = record { verdict = v; sets = refl; worse = grind (arith, nat_tests) }
barred_sets aim _ h = absurd cc

-- what is no worse than is looked for is not barred
pub quiet_free : (w aim : Verdict) (op : Op) → level_of w ≤ level_of aim → is_quiet w op ≡ true → is_barred aim op ≡ false
quiet_free w aim (Op.SetVerdict v) l h = grind (arith, nat_tests)
quiet_free w aim _ l h = refl

-- ---- what a run calls next

-- one that an entry neither starts nor comes from is where it was
pub stand_still : (past : List Entry) (e : Entry) (b : ℕ) → (e.caller.0 == b) ≡ false → started_on e b ≡ None → stand (e ∷ past) b ≡ stand past b
stand_still past e b other none = grind (arith, common_steps)

-- with no Wake to come it calls its next step
pub next_of : (scripts : List ScriptView) (q : List Entry) (b : ℕ) (op : Op) → (stand q b).wake ≡ None → turn scripts q b ≡ Some op → call_at scripts b (stand q b) (stand q b).comp (stand q b).called ≡ op
next_of scripts q b op none turns =
    let t = has_turn scripts q b op turns in
    ap (λ o. call_at scripts b (stand q b) o (stand q b).called) t.on
    ∙ (ap (λ o. unwrap_or o (call_of t.me (stand q b).bound (slice_get (steps_of scripts b) (stand q b).called))) (sym none) ∙ t.calls)

-- which is no Wake
pub next_plain : (scripts : List ScriptView) (q : List Entry) (b : ℕ) (op : Op) → (stand q b).wake ≡ None → turn scripts q b ≡ Some op → is_wake op ≡ false
next_plain scripts q b op none turns = ap is_wake (sym (next_of scripts q b op none turns)) ∙ by_comp (stand q b).comp
  where
    by_comp : (o : Option Comp) → is_wake (call_at scripts b (stand q b) o (stand q b).called) ≡ false
    by_comp None = refl
    by_comp (Some me) = never_wake me (stand q b).bound (slice_get (steps_of scripts b) (stand q b).called)

-- with one it calls that
pub wake_of_turn : (scripts : List ScriptView) (q : List Entry) (b : ℕ) (wake op : Op) → (stand q b).wake ≡ Some wake → turn scripts q b ≡ Some op → wake ≡ op
wake_of_turn scripts q b wake op some turns =
    let t = has_turn scripts q b op turns in
    ap (λ o. unwrap_or o (call_of t.me (stand q b).bound (slice_get (steps_of scripts b) (stand q b).called))) (sym some) ∙ t.calls

-- after an entry
pub wake_after : (past : List Entry) (e : Entry) (b : ℕ) → (stand (e ∷ past) b).wake ≡ (if e.caller.0 == b then wake_if e.op e.reply else (stand past b).wake)
wake_after past e b = grind (arith, common_steps)
