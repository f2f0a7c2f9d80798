-- For what runs wait from now on: each component that they wait for comes before their own by rank, so that they do not wait
-- for one another.
use Rattle.std.proofs.lemmas.Grind.{common_steps}
use Rattle.std.{proofs.Common.{ℕ, ◌≡◌, ◌+◌, ◌≤◌, ◌==◌, ◌⊎◌, inl, inr, if◌then◌else◌, Bool, true, false, Option, Some, None, is_some, List, ◌∷◌, length, slice_get, refl, ap, sym, subst, ◌∙◌, arith}, specs.Option.unwrap_or}
use Rattle.tc_rules.{specs.Prelude.{Comp, Entry, Op, comp_of, created, started_on, first_some, phase, phase_if_any, is_active, IsLegal, Verdict, is_wake, Phase}, proofs.Lemmas.{Deciding.{and_left, equal_if, first_alone}, Going.{halted_by_entry, started_by_entry}}}
use Rattle.tc_step.specs.{declared.step.Step.Step, Prelude.ScriptView}
use Rattle.tc_course.{specs.{Prelude.{CourseState, stand, after_own, steps_of, IsTurn, IsCourse}, Inside.{wake_if, call_of}}, proofs.Lemmas.{course_legal, HasTurn, has_turn, never_wake, stand_own, stand_other, stand_comp}}
use Rattle.tc_explore.{specs.Inside.Simulation.{IsAlike, is_gone, place_by, IsAhead, IsOrdered, AreOrdered}, proofs.{Alike.any_phase_same, Late.{gone_if, gone_is, gone_next}, Places.own_call}}

-- ---- one run

from_next : (w : Bool) (o u : Option Op) (n : ℕ) → (w ≡ true → is_some o ≡ true) → place_by o n ≤ place_by u (if w then n else n + 1)
from_next false None None n h = omega arith
from_next false None (Some v) n h = omega arith
from_next false (Some x) None n h = omega arith
from_next false (Some x) (Some v) n h = omega arith
from_next true None u n h = let no = h refl in absurd cc
from_next true (Some x) None n h = omega arith
from_next true (Some x) (Some v) n h = omega arith

-- after a call of its own it waits for no more
pub ordered_own : (scripts : List ScriptView) (rank : ℕ → ℕ) (q : List Entry) (c b : ℕ) (s : CourseState) (e : Entry) → created e.op e.reply ≡ None → (is_wake e.op ≡ true → is_some s.wake ≡ true) →
    IsOrdered scripts rank q c b s → IsOrdered scripts rank q c b (after_own e s)
ordered_own scripts rank q c b s e made wakes h = λ k killed t l call.
    let first = from_next (is_wake e.op) s.wake (wake_if e.op e.reply) s.called wakes in
    h k killed t (omega (arith, first, l)) (sym (own_call scripts b s e made s.comp k) ∙ call)

-- ---- all runs

pub not_on_killed : (past : List Entry) (b c : ℕ) → is_active past b ≡ true → comp_of past b ≡ Some (record { 0 = c }) → phase past c ≡ Phase.Killed → ⊥
unfolding is_active
not_on_killed past b c act on dead = grind (arith, common_steps)

-- a run that continues continued before an entry that starts nothing
pub was_active : (n : ℕ) (past : List Entry) (e : Entry) → IsLegal n (e ∷ past) → ((b : ℕ) → started_on e b ≡ None) → (b : ℕ) → is_active (e ∷ past) b ≡ true → is_active past b ≡ true
was_active n past e legal no_run b act = by_comp (comp_of past b) refl
  where
    by_comp : (o : Option Comp) → comp_of past b ≡ o → is_active past b ≡ true
    by_comp None k =
        let off : is_active (e ∷ past) b ≡ false = started_by_entry n past e b legal k ∙ ap is_some (no_run b) in
        absurd cc
    by_comp (Some d) k = and_left (is_active past b) _ (sym (halted_by_entry n past e b d legal k) ∙ act)

-- only who has a Wake to come calls it
wakes_parked : (scripts : List ScriptView) (past : List Entry) (e : Entry) → IsTurn scripts past e → is_wake e.op ≡ true → is_some (stand past e.caller.0).wake ≡ true
wakes_parked scripts past e turn wakes = by_wake (stand past e.caller.0).wake refl
  where
    t : HasTurn (steps_of scripts e.caller.0) (stand past e.caller.0) e.op
    t = has_turn scripts past e.caller.0 e.op turn.turn

    by_wake : (o : Option Op) → (stand past e.caller.0).wake ≡ o → is_some o ≡ true
    by_wake (Some wake) k = refl
    by_wake None k =
        let step : Option Step = slice_get (steps_of scripts e.caller.0) (stand past e.caller.0).called in
        let call : call_of t.me (stand past e.caller.0).bound step ≡ e.op = ap (λ o. unwrap_or o (call_of t.me (stand past e.caller.0).bound step)) (sym k) ∙ t.calls in
        let off : is_wake e.op ≡ false = ap is_wake (sym call) ∙ never_wake t.me (stand past e.caller.0).bound step in
        absurd cc

pub ordered_later : (scripts : List ScriptView) (rank : ℕ → ℕ) (q r : List Entry) (c b : ℕ) (s : CourseState) → ((t : ℕ) → is_gone (phase_if_any q t) ≡ true → is_gone (phase_if_any r t) ≡ true) →
    IsOrdered scripts rank q c b s → IsOrdered scripts rank r c b s
ordered_later scripts rank q r c b s gone h = λ k killed t l call. let o = h k killed t l call in (o.0, gone t.0 o.1)

pub gone_after : (n : ℕ) (past : List Entry) (e : Entry) → IsLegal n (e ∷ past) → (t : ℕ) → is_gone (phase_if_any past t) ≡ true → is_gone (phase_if_any (e ∷ past) t) ≡ true
gone_after n past e legal t h = gone_if (e ∷ past) t (gone_next n past e t legal (gone_is past t h))

-- after a turn of p that starts and makes nothing
pub order_stays : (scripts : List ScriptView) (p q : List Entry) (e : Entry) → IsCourse scripts (e ∷ p) → AreOrdered scripts p q → created e.op e.reply ≡ None → ((b : ℕ) → started_on e b ≡ None) → AreOrdered scripts (e ∷ p) q
order_stays scripts p q e cp order made no_run = record {
  rank = order.rank;
  top = order.top;
  below = order.below;
  each = λ c b act on dead. by_test c b (was_active (length scripts) p e (course_legal scripts (e ∷ p) cp) no_run b act) (sym (kept b) ∙ on) dead (e.caller.0 == b) refl;
}
  where
    kept : (b : ℕ) → comp_of (e ∷ p) b ≡ comp_of p b
    kept b = ap (first_some (comp_of p b)) (no_run b) ∙ first_alone (comp_of p b)

    by_test : (c b : ℕ) → is_active p b ≡ true → comp_of p b ≡ Some (record { 0 = c }) → phase q c ≡ Phase.Killed → (t : Bool) → (e.caller.0 == b) ≡ t → IsOrdered scripts order.rank q c b (stand (e ∷ p) b)
    by_test c b act on dead true k =
        let same : e.caller.0 ≡ b = equal_if e.caller.0 b k in
        let wakes : is_wake e.op ≡ true → is_some (stand p b).wake ≡ true = subst (λ x. is_wake e.op ≡ true → is_some (stand p x).wake ≡ true) same (wakes_parked scripts p e cp.0) in
        subst (λ s. IsOrdered scripts order.rank q c b s) (sym (stand_own p e b same)) (ordered_own scripts order.rank q c b (stand p b) e made wakes (order.each c b act on dead))
    by_test c b act on dead false k =
        let here : (stand p b).comp ≡ Some (record { 0 = c }) = stand_comp scripts p b cp.1 ∙ on in
        subst (λ s. IsOrdered scripts order.rank q c b s) (sym (stand_other p e b (record { 0 = c }) k here)) (order.each c b act on dead)

-- q changes to what is alike
pub order_alike : (scripts : List ScriptView) (p q r : List Entry) → IsAlike r q → AreOrdered scripts p q → AreOrdered scripts p r
order_alike scripts p q r a order = record {
  rank = order.rank;
  top = order.top;
  below = order.below;
  each = λ c b act on dead.
      ordered_later scripts order.rank q r c b (stand p b) (λ t h. ap is_gone (any_phase_same a t) ∙ h) (order.each c b act on (sym (a.phase_same c) ∙ dead));
}

-- at the opening
pub order_opening : (scripts : List ScriptView) (p : List Entry) → AreOrdered scripts p p
order_opening scripts p = record { rank = λ c. 0; top = 0; below = λ c. omega arith; each = λ c b act on dead. absurd (not_on_killed p b c act on dead) }

-- after a turn of both
pub order_both : {aim : Verdict} (scripts : List ScriptView) (p q : List Entry) (d e : Entry) → IsCourse scripts (d ∷ p) → IsCourse scripts (e ∷ q) → IsAhead aim scripts p q → AreOrdered scripts p q → d.caller.0 ≡ e.caller.0 →
    IsAhead aim scripts (d ∷ p) (e ∷ q) → ((c : ℕ) → phase (e ∷ q) c ≡ Phase.Killed → (phase q c ≡ Phase.Killed) ⊎ (phase (d ∷ p) c ≡ Phase.Killed)) → is_active q e.caller.0 ≡ true → AreOrdered scripts (d ∷ p) (e ∷ q)
order_both scripts p q d e cp cq before order callers after dies acts = record {
  rank = order.rank;
  top = order.top;
  below = order.below;
  each = λ c b act on dead. by_death c b act on dead (dies c dead);
}
  where
    lp : IsLegal (length scripts) (d ∷ p)
    lp = course_legal scripts (d ∷ p) cp

    lq : IsLegal (length scripts) (e ∷ q)
    lq = course_legal scripts (e ∷ q) cq

    by_test : (c b : ℕ) → is_active p b ≡ true → comp_of p b ≡ Some (record { 0 = c }) → phase q c ≡ Phase.Killed → (t : Bool) → (d.caller.0 == b) ≡ t → IsOrdered scripts order.rank (e ∷ q) c b (stand (d ∷ p) b)
    by_test c b act on dead true k =
        let same : e.caller.0 ≡ b = sym callers ∙ equal_if d.caller.0 b k in
        let act_q : is_active q b ≡ true = subst (λ x. is_active q x ≡ true) same acts in
        absurd (not_on_killed q b c act_q (sym (before.comp_same b) ∙ on) dead)
    by_test c b act on dead false k =
        let here : (stand p b).comp ≡ Some (record { 0 = c }) = stand_comp scripts p b cp.1 ∙ on in
        subst (λ s. IsOrdered scripts order.rank (e ∷ q) c b s) (sym (stand_other p d b (record { 0 = c }) k here))
        (ordered_later scripts order.rank q (e ∷ q) c b (stand p b) (gone_after (length scripts) q e lq) (order.each c b act on dead))

    by_comp : (c b : ℕ) → is_active (d ∷ p) b ≡ true → comp_of (d ∷ p) b ≡ Some (record { 0 = c }) → phase (e ∷ q) c ≡ Phase.Killed → phase q c ≡ Phase.Killed → (o : Option Comp) → comp_of p b ≡ o →
        IsOrdered scripts order.rank (e ∷ q) c b (stand (d ∷ p) b)
    by_comp c b act on dead was None k =
        let on_q : comp_of (e ∷ q) b ≡ Some (record { 0 = c }) = sym (after.comp_same b) ∙ on in
        let none : comp_of q b ≡ None = sym (before.comp_same b) ∙ k in
        let starts : started_on e b ≡ Some (record { 0 = c }) = ap (λ o. first_some o (started_on e b)) (sym none) ∙ on_q in
        let act_q : is_active (e ∷ q) b ≡ true = started_by_entry (length scripts) q e b lq none ∙ ap is_some starts in
        absurd (not_on_killed (e ∷ q) b c act_q on_q dead)
    by_comp c b act on dead was (Some x) k =
        let same : Some x ≡ Some (record { 0 = c }) = ap (λ o. first_some o (started_on d b)) (sym k) ∙ on in
        let was_on : is_active p b ≡ true = and_left (is_active p b) _ (sym (halted_by_entry (length scripts) p d b x lp k) ∙ act) in
        by_test c b was_on (k ∙ same) was (d.caller.0 == b) refl

    by_death : (c b : ℕ) → is_active (d ∷ p) b ≡ true → comp_of (d ∷ p) b ≡ Some (record { 0 = c }) → phase (e ∷ q) c ≡ Phase.Killed → (phase q c ≡ Phase.Killed) ⊎ (phase (d ∷ p) c ≡ Phase.Killed) →
        IsOrdered scripts order.rank (e ∷ q) c b (stand (d ∷ p) b)
    by_death c b act on dead (inl was) = by_comp c b act on dead was (comp_of p b) refl
    by_death c b act on dead (inr gone) = absurd (not_on_killed (d ∷ p) b c act on gone)
