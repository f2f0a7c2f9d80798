-- If whatever comes after each seen history is seen, or its verdict is found, the verdict of every complete course is
-- found.
use Rattle.std.proofs.lemmas.Grind.{common_steps}
use Rattle.std.{proofs.{lemmas.Bool.{both_ways, not-true, or_parts, cases_lt, true_from_ne_false}, Common.{ℕ, zero, suc, ◌≡◌, ◌<◌, ◌≤◌, ◌==◌, ◌&&◌, ◌⊎◌, inl, inr, ⊎_elim, if◌then◌else◌, Bool, true, false, Option, Some, None, is_some, MatchOption, List, [], ◌∷◌, length, slice_get, refl, ap, sym, subst, ◌∙◌, arith}}, specs.Option.unwrap_or}
use Rattle.tc_rules.{specs.{Prelude.{Verdict, worse, level_of, Comp, Entry, Op, Target, Phase, Reply, Fault, is_ended, is_fault, is_wake, comp_of, comps, exists, is_in, created, started_on, ends_case, kills, is_over, phase, overall, gives, holds, waiting, waits_in_vain, is_still, is_stuck, awaited, fault, all_exist, answer, plain_answer, is_active, is_active_on, is_run_of, IsLegal, UserVerdict, given}, declared.awaited.Awaited.Awaited}, proofs.Lemmas.{Deciding.{and_right, equal_if, self_equal}, Going.started_by_entry, Over.{all_over, on_existing}, Stuck.one_false, Decided.overall_more}}
use Rattle.tc_step.specs.Prelude.{ScriptView}
use Rattle.tc_course.{specs.{Inside.{call_of, wake_if, ends}, declared.witness.Witness.Witness, Prelude.{CourseState, stand, goes_on, after_own, after_other_by, is_idle, turn, steps_of, IsTurn, IsCourse, IsComplete, is_found}}, proofs.Lemmas.{course_legal, HasTurn, has_turn, turn_of, stand_own, stand_comp, stand_unstarted, unstarted, IsAwaitedBy, waiting_wake, wake_after_other, run_in_range, other_not_idle}}
use Rattle.tc_verdict.proofs.Lemmas.Order.{worse_right}
use Rattle.tc_explore.{specs.Inside.{Seen.IsToldBy, Simulation.{AreOrdered, GoesOn, IsAhead, IsAlike, IsBarredBefore, IsBefore, IsClosed, IsCovered, IsEnding, IsFollowed, IsFor, IsLastAt, IsLeaving, IsParkedAt, IsQuietAt, IsWakeOf, IsWithin, WasParked, call_at, is_barred, is_met, is_quiet, is_spent, place_of}}, proofs.{Ahead.{answer_plain, active_back, active_forth, ahead_after, ahead_self, ahead_step, ahead_turn, answer_ahead, died_before, ended_inactive, ending_active, fault_ahead, holds_ahead, none_too, not_ending_run, some_too}, Alike.{ChangesNothing, active_alike, alike_sym, gives_error, alike_unchanged, holds_alike, is_plain_call, next_within, overall_grows}, Late.{IsMetFor, ahead_late, halt_not_ending, late_for, late_free, late_halts, late_reply, met_for, met_holds, met_or_parked, met_reply, other_than_gone, HaltsOne}, Leaving.{Ends, running_on, calls_as, end_halts}, Ordered.order_opening, Places.{Spent, barred_sets, behind, followed_self, how_spent, keeps_quiet, leaving_on, leaving_parked, leaving_woken, loud_not_quiet, not_ending, parked, quiet_free, quiet_no_wake, quiet_sets_no_wake, together, woken, woken_behind, or_no, next_of, next_plain, wake_of_turn}, Simulation.{both, ended_kept, quiet_within, some_if, stay, stutter, unchanged_ended, unchanged_quiet, unchanged_wait, unchanged_wake, wait_kept, wake_kept}}}

-- what is found of a course, or represents it
pub record IsTold (aim : Verdict) (scripts : List ScriptView) (Seen : List Entry → Type 0) (found : List Witness) (p : List Entry) : Type 0 where
  pub over : is_over p ≡ true → IsToldBy aim found (overall p)
  pub going : is_over p ≡ false → (r : List Entry) × IsClosed aim scripts Seen found r × IsFor aim scripts r p

-- each seen history is closed, or another that represents the same is
abbrev pub SeenIsClosed : Verdict → List ScriptView → (List Entry → Type 0) → List Witness → Type 0
SeenIsClosed aim scripts Seen found =
    (r p : List Entry) → Seen r → IsCourse scripts p → IsFor aim scripts r p → (s : List Entry) × IsClosed aim scripts Seen found s × IsFor aim scripts s p

-- ---- replies

pub answer_fault : (n : ℕ) (past : List Entry) (b : ℕ) (op : Op) (f : Fault) → is_active past b ≡ true → fault n past b op ≡ Some f → answer n past b op ≡ Reply.Fault f
unfolding answer
answer_fault n past b op f act h = rw (act, h) refl

pub answer_inactive : (n : ℕ) (past : List Entry) (b : ℕ) (op : Op) → is_active past b ≡ false → answer n past b op ≡ Reply.Ended
unfolding answer
answer_inactive n past b op act = rw act refl

matched_or_parked : (t : Bool) → is_ended (if t then Reply.Matched else Reply.Parked) ≡ false
matched_or_parked true = refl
matched_or_parked false = refl

woken_or_not : (t s : Bool) → is_ended (if t then Reply.Matched else if s then Reply.Fault Fault.Stuck else Reply.Parked) ≡ false
woken_or_not true s = refl
woken_or_not false true = refl
woken_or_not false false = refl

plain_not_ended : (past : List Entry) (b : ℕ) (op : Op) (c : Comp) → comp_of past b ≡ Some c → is_ended (plain_answer past b op) ≡ false
plain_not_ended past b (Op.Wait k t) c on = matched_or_parked (holds past (record { killed = k; target = t }))
plain_not_ended past b (Op.Wake k t) c on = woken_or_not (holds past (record { killed = k; target = t })) ((b == 0) && is_stuck past)
plain_not_ended past b Op.GetVerdict c on = rw on refl
plain_not_ended past b _ c on = refl

pub not_ended : (n : ℕ) (past : List Entry) (b : ℕ) (op : Op) (c : Comp) → is_active past b ≡ true → comp_of past b ≡ Some c → is_ended (answer n past b op) ≡ false
not_ended n past b op c act on = by_fault (fault n past b op) refl
  where
    by_fault : (o : Option Fault) → fault n past b op ≡ o → is_ended (answer n past b op) ≡ false
    by_fault None k = ap is_ended (answer_plain n past b op act k) ∙ plain_not_ended past b op c on
    by_fault (Some f) k = ap is_ended (answer_fault n past b op f act k)

-- a quiet call that is no error is answered at once
pub quiet_reply : (w : Verdict) (past : List Entry) (b : ℕ) (op : Op) (c : Comp) → comp_of past b ≡ Some c → is_quiet w op ≡ true →
    (goes_on (plain_answer past b op) ≡ true) × (is_fault (plain_answer past b op) ≡ false)
quiet_reply w past b (Op.SetVerdict v) c on h = (refl, refl)
quiet_reply w past b Op.GetVerdict c on h = rw on (refl, refl)
quiet_reply w past b _ c on h = (cc, cc)

-- so is one that changes nothing
spent_reply : (q : List Entry) (b : ℕ) (op : Op) (c : Comp) → comp_of q b ≡ Some c → is_spent q op ≡ true →
    (goes_on (plain_answer q b op) ≡ true) × (is_fault (plain_answer q b op) ≡ false)
spent_reply q b op c on h = by_kind (how_spent q op h)
  where
    by_kind : Spent q op → (goes_on (plain_answer q b op) ≡ true) × (is_fault (plain_answer q b op) ≡ false)
    by_kind (inl quiet) = quiet_reply (overall q) q b op c on quiet
    by_kind (inr (inl late)) = rw (late_reply q q b op late) (refl, refl)
    by_kind (inr (inr met)) = rw (met_reply q b op met) (refl, refl)

-- only a Wait is parked, or a Wake
pub parks_wait : (w : Verdict) (past : List Entry) (b : ℕ) (op : Op) → is_wake op ≡ false → is_quiet w op ≡ false → plain_answer past b op ≡ Reply.Parked → (k : Bool) × (t : Target) × (op ≡ Op.Wait k t)
parks_wait w past b (Op.Wait k t) wk q h = (k, t, refl)
parks_wait w past b _ wk q h = absurd cc

loud_is_plain : (w : Verdict) (op : Op) → is_wake op ≡ false → is_quiet w op ≡ false → is_plain_call op ≡ true
loud_is_plain w Op.GetVerdict wk q = absurd cc
loud_is_plain w _ wk q = cc

never_fault : (past : List Entry) (b : ℕ) (op : Op) → is_plain_call op ≡ true → is_fault (plain_answer past b op) ≡ false
never_fault past b (Op.Wait k t) h = by_test (holds past (record { killed = k; target = t }))
  where
    by_test : (z : Bool) → is_fault (if z then Reply.Matched else Reply.Parked) ≡ false
    by_test true = refl
    by_test false = refl
never_fault past b _ h = cc

pub loud_sets_no_wake : (op : Op) (r : Reply) → goes_on r ≡ true → wake_if op r ≡ None
loud_sets_no_wake op Reply.Parked h = absurd cc
loud_sets_no_wake op _ h = refl

pub error_is_worst : (w : Verdict) → worse w Verdict.Error ≡ Verdict.Error
error_is_worst Verdict.None = refl
error_is_worst _ = refl

exists_back : {aim : Verdict} → {scripts : List ScriptView} {p q : List Entry} → IsAhead aim scripts p q → (c : ℕ) → exists q c ≡ true → exists p c ≡ true
unfolding exists
exists_back s c there = ap (is_in c) s.comps_same ∙ there

-- ---- one more turn of p

-- p and one more turn, where q represents p and is closed
pub record AtTurn (aim : Verdict) (scripts : List ScriptView) (Seen : List Entry → Type 0) (found : List Witness) (p q : List Entry) (e : Entry) : Type 0 where
  pub some : 1 ≤ length scripts
  pub course : IsCourse scripts (e ∷ p)
  pub within : IsWithin aim (e ∷ p)
  pub closed : IsClosed aim scripts Seen found q
  pub for : IsFor aim scripts q p
  pub going : is_over p ≡ false
  pub seen : SeenIsClosed aim scripts Seen found

-- and its caller continues, on this component
pub record IsGoing (scripts : List ScriptView) (p q : List Entry) (e : Entry) (me : Comp) : Type 0 where
  pub in_p : is_active p e.caller.0 ≡ true
  pub in_q : is_active q e.caller.0 ≡ true
  pub on_p : comp_of p e.caller.0 ≡ Some me
  pub on_q : comp_of q e.caller.0 ≡ Some me
  pub stand_p : (stand p e.caller.0).comp ≡ Some me
  pub stand_q : (stand q e.caller.0).comp ≡ Some me
  pub followed : IsFollowed scripts q e.caller.0 (stand p e.caller.0) (stand q e.caller.0)
  pub stays : (stand q e.caller.0).left ≡ false
  pub in_range : e.caller.0 < length scripts

-- what q would call
turn_in : (scripts : List ScriptView) (p q : List Entry) (e : Entry) (me : Comp) → IsGoing scripts p q e me →
    turn scripts q e.caller.0 ≡ Some (call_at scripts e.caller.0 (stand q e.caller.0) (stand q e.caller.0).comp (stand q e.caller.0).called)
turn_in scripts p q e me g =
    turn_of scripts q e.caller.0 _
    (record { me = me; on = g.stand_q; stays = g.stays; calls = rw (g.followed.no_wake, g.stand_q) refl })

-- a run that an entry starts, or that is not started
fresh_stand : (past : List Entry) (e : Entry) (b : ℕ) → (e.caller.0 == b) ≡ false → stand past b ≡ unstarted → stand (e ∷ past) b ≡ after_other_by None e b unstarted
fresh_stand past e b other un = rw (other, un) refl

number_of : (x y : Comp) → Some x ≡ Some y → x.0 ≡ y.0
number_of x y h = let same : x ≡ y = cc in ap (λ (z : Comp). z.0) same

-- after a turn of p its caller is where q has it or before, or is leaving still
pub record IsPlaced (aim : Verdict) (scripts : List ScriptView) (p q : List Entry) (e : Entry) : Type 0 where
  pub own : (c : ℕ) (n : IsEnding aim scripts p q c) → (e.caller.0 == n.run.0) ≡ true → IsLeaving aim scripts q n.run.0 (stand (e ∷ p) n.run.0)
  pub follows : is_active q e.caller.0 ≡ true → IsFollowed scripts q e.caller.0 (stand (e ∷ p) e.caller.0) (stand q e.caller.0)

-- a call of p that makes nothing, leaves its caller on its component and sets no Wake and no verdict worse than is looked for
pub record IsIdle (aim : Verdict) (p q : List Entry) (e : Entry) : Type 0 where
  pub made : created e.op e.reply ≡ None
  pub plain : is_wake e.op ≡ false
  pub no_wake : wake_if e.op e.reply ≡ None
  pub free : is_barred aim e.op ≡ false
  pub stays_on : is_active q e.caller.0 ≡ true → ends (stand p e.caller.0).comp e ≡ false

-- a run that continues after q is not leaving
placed_by : {aim : Verdict} {scripts : List ScriptView} {p q : List Entry} (e : Entry) → IsFor aim scripts q p → is_active q e.caller.0 ≡ true → IsFollowed scripts q e.caller.0 (after_own e (stand p e.caller.0)) (stand q e.caller.0) →
    IsPlaced aim scripts p q e
placed_by {aim} {scripts} {p} {q} e f act fol = record {
  own = λ c n k. let other : (e.caller.0 == n.run.0) ≡ false = not_ending_run f.ahead e.caller.0 act c n in absurd cc;
  follows = λ on. subst (λ s. IsFollowed scripts q e.caller.0 s (stand q e.caller.0)) (sym (stand_own p e e.caller.0 refl)) fol;
}

module _ {aim : Verdict} {scripts : List ScriptView} {Seen : List Entry → Type 0} {found : List Witness} {p q : List Entry} {e : Entry} where
  legal_next : AtTurn aim scripts Seen found p q e → IsLegal (length scripts) (e ∷ p)
  legal_next h = course_legal scripts (e ∷ p) h.course

  -- the verdict after p is what it was
  still_better : AtTurn aim scripts Seen found p q e → overall (e ∷ p) ≡ overall p → level_of (overall (e ∷ p)) ≤ level_of (overall q)
  still_better h same = let eq = ap level_of same in let l = h.for.ahead.no_better in omega (arith, eq, l)

  told_stay : AtTurn aim scripts Seen found p q e → ends_case e ≡ false → IsFor aim scripts q (e ∷ p) → IsTold aim scripts Seen found (e ∷ p)
  told_stay h none f = grind (arith, common_steps)

  told_stutter : AtTurn aim scripts Seen found p q e → ChangesNothing p e → level_of (overall (e ∷ p)) ≤ level_of (overall q) → IsPlaced aim scripts p q e → IsTold aim scripts Seen found (e ∷ p)
  told_stutter h u better placed = told_stay h (or_parts (ends_case e) _ (or_parts (kills e 0) _ (u.no_halt 0)).0).0 (stutter scripts p q e h.course h.closed.course h.for u better placed.own placed.follows)

  -- a call of p that halts only a component that is killed after q
  told_halt : AtTurn aim scripts Seen found p q e → (c : ℕ) → HaltsOne p e c → phase q c ≡ Phase.Killed → exists p c ≡ true →
      ((d : ℕ) (n : IsEnding aim scripts p q d) → (c == d) ≡ false → (e.caller.0 == n.run.0) ≡ true → IsLeaving aim scripts q n.run.0 (stand (e ∷ p) n.run.0)) →
      (is_active q e.caller.0 ≡ true → IsFollowed scripts q e.caller.0 (stand (e ∷ p) e.caller.0) (stand q e.caller.0)) → IsTold aim scripts Seen found (e ∷ p)
  told_halt h c one dead there own follows =
      told_stay h one.no_case (stay scripts p q e h.course h.closed.course h.for (ahead_late scripts p q e c h.course.1 (legal_next h) h.for.ahead one dead own there) one.made one.no_run follows)

  -- a turn of q that p has too
  told_both : AtTurn aim scripts Seen found p q e → (d : Entry) → IsTurn scripts q d → d.caller.0 < length scripts → goes_on d.reply ≡ true →
      level_of (overall (e ∷ p)) ≤ level_of (overall (d ∷ q)) → IsWithin aim (d ∷ q) → ends_case e ≡ ends_case d → (is_over (e ∷ p) ≡ false → IsFor aim scripts (d ∷ q) (e ∷ p)) → IsTold aim scripts Seen found (e ∷ p)
  told_both h d turn within on better inside ends f =
      let c = h.closed.each d within turn on in
      let over_p : is_over (e ∷ p) ≡ ends_case e = rw h.going (or_no (ends_case e)) in
      let over_q : is_over (d ∷ q) ≡ ends_case d = rw h.closed.going (or_no (ends_case d)) in
      let over_same : is_over (e ∷ p) ≡ is_over (d ∷ q) = over_p ∙ (ends ∙ sym over_q) in
      record {
        over = λ o. (overall (d ∷ q), c.over (sym over_same ∙ o), better, inside);
        going = λ o.
            let r = c.more (sym over_same ∙ o) inside (e ∷ p) h.course (f o) in
            h.seen r.0 (e ∷ p) r.1 h.course r.2;
      }

  -- an error of both
  told_fault : AtTurn aim scripts Seen found p q e → (d : Entry) → IsTurn scripts q d → d.caller.0 ≡ e.caller.0 → e.caller.0 < length scripts → (x y : Fault) → e.reply ≡ Reply.Fault x → d.reply ≡ Reply.Fault y →
      IsTold aim scripts Seen found (e ∷ p)
  told_fault h d turn callers within x y re rd =
      let lq : IsLegal (length scripts) (d ∷ q) = course_legal scripts (d ∷ q) (turn, h.closed.course) in
      let vp : overall (e ∷ p) ≡ Verdict.Error = overall_more (length scripts) p e (legal_next h) ∙ (rw (re, gives_error e.op x) refl ∙ error_is_worst (overall p)) in
      let vq : overall (d ∷ q) ≡ Verdict.Error = overall_more (length scripts) q d lq ∙ (rw (rd, gives_error d.op y) refl ∙ error_is_worst (overall q)) in
      let lp : level_of (overall (e ∷ p)) ≡ level_of Verdict.Error = ap level_of vp in
      let ld : level_of (overall (d ∷ q)) ≡ level_of Verdict.Error = ap level_of vq in
      let within_p : level_of (overall (e ∷ p)) ≤ level_of aim = h.within in
      let ends_e : ends_case e ≡ true = rw re refl in
      let ends_d : ends_case d ≡ true = rw rd refl in
      let over_e : is_over (e ∷ p) ≡ true = rw ends_e refl in
      told_both h d turn (rw callers within) (rw rd refl) (omega (arith, lp, ld)) (omega (arith, lp, ld, within_p)) (ends_e ∙ sym ends_d) (λ o. absurd cc)

  -- a Wait of p that is parked
  told_waits : AtTurn aim scripts Seen found p q e → (k : Bool) (t : Target) → e.op ≡ Op.Wait k t → e.reply ≡ Reply.Parked → (ChangesNothing p e → IsPlaced aim scripts p q e) → IsTold aim scripts Seen found (e ∷ p)
  told_waits h k t is r placed =
      let of : IsWakeOf e.op (Op.Wake k t) = record { killed = k; target = t; waits = is; wakes = refl } in
      let u = unchanged_wait p e (Op.Wake k t) of (rw r refl) in
      told_stutter h u (still_better h (wait_kept (length scripts) p e (Op.Wake k t) (legal_next h) of (rw r refl))) (placed u)

  told_parked : (me : Comp) → AtTurn aim scripts Seen found p q e → IsGoing scripts p q e me → (stand p e.caller.0).wake ≡ None → (k : Bool) (t : Target) → e.op ≡ Op.Wait k t → e.reply ≡ Reply.Parked →
      call_at scripts e.caller.0 (stand q e.caller.0) (stand q e.caller.0).comp (stand p e.caller.0).called ≡ e.op → IsTold aim scripts Seen found (e ∷ p)
  told_parked me h g none k t is r calls = told_waits h k t is r (λ u. placed_by e h.for g.in_q
      (parked scripts q e.caller.0 (stand p e.caller.0) (stand q e.caller.0) e (Op.Wake k t) g.followed none u.made
      (not_ending p e (stand p e.caller.0).comp me u g.stand_p g.on_p (rw r refl)) (rw is refl) (rw (is, r) refl) (record { killed = k; target = t; waits = calls ∙ is; wakes = refl })))

  -- p makes a call that is no error after q
  no_fault_back : AtTurn aim scripts Seen found p q e → fault (length scripts) q e.caller.0 e.op ≡ None → fault (length scripts) p e.caller.0 e.op ≡ None
  no_fault_back h none =
      none_too (fault (length scripts) q e.caller.0 e.op) (fault (length scripts) p e.caller.0 e.op) (sym (fault_ahead h.for.ahead (length scripts) e.caller.0 e.op)) none

  -- a call of p that changes nothing after q, or a Wait that is parked
  told_spent : (me : Comp) → AtTurn aim scripts Seen found p q e → is_active p e.caller.0 ≡ true → comp_of p e.caller.0 ≡ Some me → (stand p e.caller.0).comp ≡ Some me → IsQuietAt (length scripts) q e.caller.0 e.op →
      (IsIdle aim p q e → IsPlaced aim scripts p q e) → ((k : Bool) (t : Target) → e.op ≡ Op.Wait k t → e.reply ≡ Reply.Parked → IsTold aim scripts Seen found (e ∷ p)) → IsTold aim scripts Seen found (e ∷ p)
  told_spent me h act on here spent placed parks = by_kind (how_spent q e.op spent.quiet)
    where
      is : e.reply ≡ plain_answer p e.caller.0 e.op
      is = h.course.0.reply ∙ answer_plain (length scripts) p e.caller.0 e.op act (no_fault_back h spent.no_fault)

      by_kind : Spent q e.op → IsTold aim scripts Seen found (e ∷ p)
      by_kind (inl quiet) =
          let plain : is_fault e.reply ≡ false = ap is_fault is ∙ (quiet_reply (overall q) p e.caller.0 e.op me on quiet).1 in
          let u = unchanged_quiet (overall q) p e quiet plain in
          told_stutter h u (quiet_within (overall q) (length scripts) p e (legal_next h) quiet plain h.for.ahead.no_better) (placed (record {
            made = u.made;
            plain = quiet_no_wake (overall q) e.op quiet;
            no_wake = quiet_sets_no_wake (overall q) e.op e.reply quiet;
            free = quiet_free (overall q) aim e.op h.closed.within quiet;
            stays_on = λ go. not_ending p e (stand p e.caller.0).comp me u here on (ap is_ended is ∙ plain_not_ended p e.caller.0 e.op me on);
          }))
      by_kind (inr (inl late)) =
          let l = late_for q e.op late in
          let one = late_halts q p e late (is ∙ late_reply q p e.caller.0 e.op late) in
          let at : IsPlaced aim scripts p q e = placed (record {
            made = one.made;
            plain = one.plain;
            no_wake = one.no_wake;
            free = late_free aim q e.op late;
            stays_on = λ go. halt_not_ending one (stand p e.caller.0).comp me here on (other_than_gone q e.caller.0 l.0.0 me go (sym (h.for.ahead.comp_same e.caller.0) ∙ on) l.1.gone.dead);
          }) in
          told_halt h l.0.0 one l.1.gone.dead (exists_back h.for.ahead l.0.0 l.1.gone.there) (λ d n other. at.own d n) at.follows
      by_kind (inr (inr met)) =
          let m = met_for q e.op met in
          ⊎_elim (λ (r : plain_answer p e.caller.0 e.op ≡ Reply.Matched).
          let matched : e.reply ≡ Reply.Matched = is ∙ r in
          let u = unchanged_wait p e m.wake m.wake_of (rw matched refl) in
          told_stutter h u (still_better h (wait_kept (length scripts) p e m.wake (legal_next h) m.wake_of (rw matched refl))) (placed (record {
            made = u.made;
            plain = rw m.waits refl;
            no_wake = rw matched refl;
            free = ap (is_barred aim) m.waits;
            stays_on = λ go. not_ending p e (stand p e.caller.0).comp me u here on (rw matched refl);
          }))) (λ (r : plain_answer p e.caller.0 e.op ≡ Reply.Parked). parks m.for_kill (Target.One m.comp) m.waits (is ∙ r)) (met_or_parked q p e.caller.0 e.op met)

  -- a call of p that q has made, and that changes nothing after q
  told_behind : (me : Comp) → AtTurn aim scripts Seen found p q e → IsGoing scripts p q e me → (stand p e.caller.0).wake ≡ None → (stand p e.caller.0).called < (stand q e.caller.0).called →
      call_at scripts e.caller.0 (stand q e.caller.0) (stand q e.caller.0).comp (stand p e.caller.0).called ≡ e.op → IsQuietAt (length scripts) q e.caller.0 e.op → IsTold aim scripts Seen found (e ∷ p)
  told_behind me h g none less call_q spent = told_spent me h g.in_p g.on_p g.stand_p spent
      (λ i. placed_by e h.for g.in_q (behind scripts q e.caller.0 (stand p e.caller.0) (stand q e.caller.0) e g.followed none less i.made (i.stays_on g.in_q) i.plain i.no_wake))
      (λ k t waits r. told_parked me h g none k t waits r call_q)

  told_on : (me : Comp) → AtTurn aim scripts Seen found p q e → IsGoing scripts p q e me → (stand p e.caller.0).called ≡ (stand q e.caller.0).called → is_wake e.op ≡ false →
      IsTurn scripts q e → goes_on e.reply ≡ true → IsTold aim scripts Seen found (e ∷ p)
  told_on me h g same wk turn on =
      let lp = course_legal scripts (e ∷ p) h.course in
      let cq : IsCourse scripts (e ∷ q) = (turn, h.closed.course) in
      let lq = course_legal scripts (e ∷ q) cq in
      let keeps = keeps_quiet (length scripts) q e lq in
      let ahead = ahead_step scripts p q e h.course.1 lp lq h.for.ahead g.in_q keeps in
      let inside : level_of (overall (e ∷ q)) ≤ level_of aim = rw (overall_more (length scripts) q e lq) (next_within (gives e.op e.reply) (overall p) (overall q) (level_of aim) (rw (← overall_more (length scripts) p e lp) h.within) h.closed.within) in
      told_both h e turn g.in_range on ahead.no_better inside refl (λ o.
      both scripts p q e e h.course cq h.for refl ahead keeps
      (λ act.
      subst (λ s. IsFollowed scripts (e ∷ q) e.caller.0 s (stand (e ∷ q) e.caller.0)) (sym (stand_own p e e.caller.0 refl))
      (subst (λ t. IsFollowed scripts (e ∷ q) e.caller.0 (after_own e (stand p e.caller.0)) t) (sym (stand_own q e e.caller.0 refl))
      (together scripts q (e ∷ q) e.caller.0 (stand p e.caller.0) (stand q e.caller.0) e g.followed same wk (loud_sets_no_wake e.op e.reply on))))
      (λ b other none act.
      let up = fresh_stand p e b other (stand_unstarted scripts p b h.course.1 (h.for.ahead.comp_same b ∙ none)) in
      let uq = fresh_stand q e b other (stand_unstarted scripts q b h.closed.course none) in
      subst (λ s. IsFollowed scripts (e ∷ q) b s (stand (e ∷ q) b)) (sym up)
      (subst (λ t. IsFollowed scripts (e ∷ q) b (after_other_by None e b unstarted) t) (sym uq)
      (followed_self scripts (e ∷ q) b (after_other_by None e b unstarted) (wake_after_other None (started_on e b) e b unstarted refl))))
      g.in_q
      (λ c dead. died_before scripts p q e h.course.1 lp lq h.for.ahead g.in_q keeps c dead))

  -- a call of both that is not quiet
  told_loud : (me : Comp) → AtTurn aim scripts Seen found p q e → IsGoing scripts p q e me → (stand p e.caller.0).wake ≡ None → (stand p e.caller.0).called ≡ (stand q e.caller.0).called →
      call_at scripts e.caller.0 (stand q e.caller.0) (stand q e.caller.0).comp (stand q e.caller.0).called ≡ e.op → is_wake e.op ≡ false → is_spent q e.op ≡ false →
      IsTold aim scripts Seen found (e ∷ p)
  told_loud me h g none same calls wk changes = by_reply e.reply refl
    where
      loud : is_quiet (overall q) e.op ≡ false
      loud = loud_not_quiet q e.op changes

      calls_plainly : is_plain_call e.op ≡ true
      calls_plainly = loud_is_plain (overall q) e.op wk loud

      has_turn_q : turn scripts q e.caller.0 ≡ Some e.op
      has_turn_q = turn_in scripts p q e me g ∙ ap Some calls

      by_parked : e.reply ≡ Reply.Parked → (o : Option Fault) → fault (length scripts) p e.caller.0 e.op ≡ o → IsTold aim scripts Seen found (e ∷ p)
      by_parked r (Some x) k =
          let f : e.reply ≡ Reply.Fault x = h.course.0.reply ∙ answer_fault (length scripts) p e.caller.0 e.op x g.in_p k in
          let no : is_fault Reply.Parked ≡ true = ap is_fault (sym r ∙ f) in
          absurd cc
      by_parked r None k =
          let plain : plain_answer p e.caller.0 e.op ≡ Reply.Parked = sym (answer_plain (length scripts) p e.caller.0 e.op g.in_p k) ∙ (sym h.course.0.reply ∙ r) in
          let w = parks_wait (overall q) p e.caller.0 e.op wk loud plain in
          told_parked me h g none w.0 w.1 w.2 r (ap (call_at scripts e.caller.0 (stand q e.caller.0) (stand q e.caller.0).comp) same ∙ calls)

      by_fault : (x : Fault) → e.reply ≡ Reply.Fault x → (o : Option Fault) → fault (length scripts) p e.caller.0 e.op ≡ o → IsTold aim scripts Seen found (e ∷ p)
      by_fault x r (Some y) k =
          let z = some_too (fault (length scripts) p e.caller.0 e.op) (fault (length scripts) q e.caller.0 e.op) y (fault_ahead h.for.ahead (length scripts) e.caller.0 e.op) k in
          let d : Entry = record { caller = e.caller; op = e.op; reply = Reply.Fault z.0 } in
          let turn : IsTurn scripts q d = record { turn = has_turn_q; reply = sym (answer_fault (length scripts) q e.caller.0 e.op z.0 g.in_q z.1); not_idle = refl } in
          told_fault h d turn refl g.in_range x z.0 r refl
      by_fault x r None k =
          let plain : plain_answer p e.caller.0 e.op ≡ Reply.Fault x = sym (answer_plain (length scripts) p e.caller.0 e.op g.in_p k) ∙ (sym h.course.0.reply ∙ r) in
          let no : is_fault (plain_answer p e.caller.0 e.op) ≡ false = never_fault p e.caller.0 e.op calls_plainly in
          let yes : is_fault (plain_answer p e.caller.0 e.op) ≡ true = ap is_fault plain in
          absurd cc

      on_both : goes_on e.reply ≡ true → is_fault e.reply ≡ false → IsTold aim scripts Seen found (e ∷ p)
      on_both on plain =
          let is : answer (length scripts) p e.caller.0 e.op ≡ answer (length scripts) q e.caller.0 e.op =
          answer_ahead h.for.ahead (length scripts) e.caller.0 e.op calls_plainly g.in_q (ap goes_on (sym h.course.0.reply) ∙ on) (ap is_fault (sym h.course.0.reply) ∙ plain) in
          told_on me h g same wk (record { turn = has_turn_q; reply = h.course.0.reply ∙ is; not_idle = h.course.0.not_idle }) on

      by_reply : (r : Reply) → e.reply ≡ r → IsTold aim scripts Seen found (e ∷ p)
      by_reply Reply.Ended r =
          let no : is_ended (answer (length scripts) p e.caller.0 e.op) ≡ false = not_ended (length scripts) p e.caller.0 e.op me g.in_p g.on_p in
          let yes : is_ended (answer (length scripts) p e.caller.0 e.op) ≡ true = ap is_ended (sym h.course.0.reply ∙ r) in
          absurd cc
      by_reply Reply.Parked r = by_parked r (fault (length scripts) p e.caller.0 e.op) refl
      by_reply (Reply.Fault x) r = by_fault x r (fault (length scripts) p e.caller.0 e.op) refl
      by_reply _ r = on_both (ap goes_on r) (ap is_fault r)

  -- a quiet call of both: an error, since q has made all others
  told_quiet : (me : Comp) → AtTurn aim scripts Seen found p q e → IsGoing scripts p q e me →
      call_at scripts e.caller.0 (stand q e.caller.0) (stand q e.caller.0).comp (stand q e.caller.0).called ≡ e.op → is_wake e.op ≡ false → is_spent q e.op ≡ true →
      IsTold aim scripts Seen found (e ∷ p)
  told_quiet me h g calls wk quiet = by_fault (fault (length scripts) q e.caller.0 e.op) refl
    where
      by_fault : (o : Option Fault) → fault (length scripts) q e.caller.0 e.op ≡ o → IsTold aim scripts Seen found (e ∷ p)
      by_fault (Some x) k =
          let d : Entry = record { caller = e.caller; op = e.op; reply = Reply.Fault x } in
          let turn : IsTurn scripts q d = record { turn = turn_in scripts p q e me g ∙ ap Some calls; reply = sym (answer_fault (length scripts) q e.caller.0 e.op x g.in_q k); not_idle = refl } in
          let y = some_too (fault (length scripts) q e.caller.0 e.op) (fault (length scripts) p e.caller.0 e.op) x (sym (fault_ahead h.for.ahead (length scripts) e.caller.0 e.op)) k in
          let re : e.reply ≡ Reply.Fault y.0 = h.course.0.reply ∙ answer_fault (length scripts) p e.caller.0 e.op y.0 g.in_p y.1 in
          told_fault h d turn refl g.in_range y.0 x re refl
      by_fault None k =
          let d : Entry = record { caller = e.caller; op = e.op; reply = plain_answer q e.caller.0 e.op } in
          let r = spent_reply q e.caller.0 e.op me g.on_q quiet in
          let turn : IsTurn scripts q d = record {
            turn = turn_in scripts p q e me g ∙ ap Some calls;
            reply = sym (answer_plain (length scripts) q e.caller.0 e.op g.in_q k);
            not_idle = other_not_idle e.op (plain_answer q e.caller.0 e.op) wk;
          } in
          let no : is_spent q e.op ≡ false = (h.closed.each d g.in_range turn r.0).loud r.1 in
          absurd cc

  -- a step, if no Wake is to come
  told_place : (me : Comp) → AtTurn aim scripts Seen found p q e → IsGoing scripts p q e me → (stand p e.caller.0).wake ≡ None → IsTold aim scripts Seen found (e ∷ p)
  told_place me h g none =
      ⊎_elim (λ less. told_behind me h g none less call_q (subst (λ op. IsQuietAt (length scripts) q e.caller.0 op) call_q (before.between (stand p e.caller.0).called (omega arith) less)))
      (λ far. let fewer = before.fewer in by_quiet (omega (arith, fewer, far)) (is_spent q e.op) refl) (cases_lt (stand p e.caller.0).called (stand q e.caller.0).called)
    where
      before : IsBefore scripts q e.caller.0 (stand p e.caller.0) (stand q e.caller.0)
      before = subst (λ o. MatchOption o (IsBefore scripts q e.caller.0 (stand p e.caller.0) (stand q e.caller.0)) (λ wake. IsParkedAt scripts q e.caller.0 (stand p e.caller.0) (stand q e.caller.0) wake)) none g.followed.place

      call_q : call_at scripts e.caller.0 (stand q e.caller.0) (stand q e.caller.0).comp (stand p e.caller.0).called ≡ e.op
      call_q = sym (calls_as scripts q e.caller.0 (stand p e.caller.0) (stand q e.caller.0) g.followed (stand p e.caller.0).called) ∙ next_of scripts p e.caller.0 e.op none h.course.0.turn

      wk : is_wake e.op ≡ false
      wk = next_plain scripts p e.caller.0 e.op none h.course.0.turn

      by_quiet : (stand p e.caller.0).called ≡ (stand q e.caller.0).called → (t : Bool) → is_spent q e.op ≡ t → IsTold aim scripts Seen found (e ∷ p)
      by_quiet same true k = told_quiet me h g (ap (λ m. call_at scripts e.caller.0 (stand q e.caller.0) (stand q e.caller.0).comp m) (sym same) ∙ call_q) wk k
      by_quiet same false k = told_loud me h g none same (ap (λ m. call_at scripts e.caller.0 (stand q e.caller.0) (stand q e.caller.0).comp m) (sym same) ∙ call_q) wk k

-- ---- a stuck case

in_vain : (past : List Entry) (o : Option Awaited) → waits_in_vain past o ≡ true → (a : Awaited) × (o ≡ Some a) × (holds past a ≡ false)
in_vain past None h = absurd cc
in_vain past (Some a) h = (a, refl, not-true (holds past a) h)

still_run : (past : List Entry) (b : ℕ) (ph : Phase) → is_run_of b ph ≡ true → is_still past ph ≡ true → waits_in_vain past (waiting past b) ≡ true
still_run past b (Phase.Running run) r s = let same : run.0 ≡ b = equal_if run.0 b r in subst (λ x. waits_in_vain past (waiting past x) ≡ true) same s
still_run past b _ r s = absurd cc

all_still : (past : List Entry) (c : ℕ) → is_stuck past ≡ true → exists past c ≡ true → is_still past (phase past c) ≡ true
unfolding is_stuck exists
all_still past c stuck there = true_from_ne_false (is_still past (phase past c)) (λ k. let no = one_false (λ x. is_still past (phase past x)) (comps past) c there k in cc)

-- in a stuck case each run that continues waits in vain
stuck_waits : (n : ℕ) (past : List Entry) (b : ℕ) → IsLegal n past → is_stuck past ≡ true → is_active past b ≡ true → (a : Awaited) × (waiting past b ≡ Some a) × (holds past a ≡ false)
unfolding is_active
stuck_waits n past b legal stuck act =
    let on = some_if past b act in
    let runs : is_run_of b (phase past on.0.0) ≡ true = ap (is_active_on past b) (sym on.1) ∙ act in
    in_vain past (waiting past b) (still_run past b (phase past on.0.0) runs (all_still past on.0.0 stuck (on_existing n past b on.0 legal on.1)))

wait_answer : (n : ℕ) (past : List Entry) (b : ℕ) (k : Bool) (t : Target) (r : Reply) → is_active past b ≡ true → holds past (record { killed = k; target = t }) ≡ false →
    r ≡ answer n past b (Op.Wait k t) → goes_on r ≡ true → is_fault r ≡ true
wait_answer n past b k t r act unmet is on = by_fault (fault n past b (Op.Wait k t)) refl
  where
    by_fault : (o : Option Fault) → fault n past b (Op.Wait k t) ≡ o → is_fault r ≡ true
    by_fault (Some x) j = ap is_fault (is ∙ answer_fault n past b (Op.Wait k t) x act j)
    by_fault None j =
        let parked_is : plain_answer past b (Op.Wait k t) ≡ Reply.Parked = rw unmet refl in
        let off : goes_on r ≡ false = ap goes_on (is ∙ (answer_plain n past b (Op.Wait k t) act j ∙ parked_is)) in
        absurd cc

active_if_on : (n : ℕ) (past : List Entry) (b : ℕ) (op : Op) (r : Reply) → r ≡ answer n past b op → goes_on r ≡ true → is_active past b ≡ true
active_if_on n past b op r is on = true_from_ne_false (is_active past b) (λ k. let off : goes_on r ≡ false = ap goes_on (is ∙ answer_inactive n past b op k) in cc)

same_awaited : (k : Bool) (t : Target) (wake : Op) (a : Awaited) → wake ≡ Op.Wake k t → awaited wake ≡ Some a → record { killed = k; target = t } ≡ a
same_awaited k t wake a w h = let e : awaited (Op.Wake k t) ≡ Some a = ap awaited (sym w) ∙ h in let e2 : Some (record { killed = k; target = t }) ≡ Some a = e in cc

wait_parks : (op : Op) (r : Reply) (k : Bool) (t : Target) → op ≡ Op.Wait k t → r ≡ Reply.Parked → wake_if op r ≡ Some (Op.Wake k t)
wait_parks op r k t is parks = rw (is, parks) refl

-- the Wait at a place is met
met_at : (n : ℕ) (q : List Entry) (b : ℕ) (op wake : Op) → IsQuietAt n q b op → IsWakeOf op wake → IsMetFor q op
met_at n q b op wake quiet of = met_for q op (ap (is_met q) of.waits ∙ (ap (is_spent q) (sym of.waits) ∙ quiet.quiet))

-- and what is awaited then
met_awaited : (q : List Entry) (op wake : Op) (a : Awaited) → (of : IsWakeOf op wake) → (m : IsMetFor q op) → awaited wake ≡ Some a → record { killed = m.for_kill; target = Target.One m.comp } ≡ a
met_awaited q op wake a of m h = grind (arith, common_steps)

place_if_parked : (s : CourseState) (wake : Op) (place : ℕ) → s.wake ≡ Some wake → s.called ≡ suc place → place_of s ≤ place
place_if_parked s wake place h more = rw h (omega (arith, more))

module _ {aim : Verdict} {scripts : List ScriptView} {p q : List Entry} where
  -- if p is stuck no run is leaving: the one whose component comes first by rank would continue
  none_ending : IsCourse scripts p → (f : IsFor aim scripts q p) (o : AreOrdered scripts p q) → is_stuck p ≡ true → (m c : ℕ) → IsEnding aim scripts p q c → o.rank c < m → ⊥
  none_ending cp f o stuck zero c n l = absurd (omega (arith, l))
  none_ending cp f o stuck (suc m) c n l = by_phase (none_ending cp f o stuck m) (f.ahead.phases met.comp.0)
    where
      w : (a : Awaited) × (waiting p n.run.0 ≡ Some a) × (holds p a ≡ false)
      w = stuck_waits (length scripts) p n.run.0 (course_legal scripts p cp) stuck (ending_active c n)

      by : IsAwaitedBy (stand p n.run.0) w.0
      by = waiting_wake p n.run.0 w.0 w.1

      was : WasParked scripts q n.run.0 (stand p n.run.0) by.wake
      was = subst (λ o. MatchOption o (Unit {0}) (λ wake. WasParked scripts q n.run.0 (stand p n.run.0) wake)) by.to_come n.leaving.parked

      met : IsMetFor q (call_at scripts n.run.0 (stand p n.run.0) (stand p n.run.0).comp was.place)
      met = met_at (length scripts) q n.run.0 (call_at scripts n.run.0 (stand p n.run.0) (stand p n.run.0).comp was.place) by.wake was.quiet was.wake_of

      a_is : record { killed = met.for_kill; target = Target.One met.comp } ≡ w.0
      a_is = met_awaited q (call_at scripts n.run.0 (stand p n.run.0) (stand p n.run.0).comp was.place) by.wake w.0 was.wake_of met by.for_it

      lower : o.rank met.comp.0 < o.rank c
      lower = (o.each c n.run.0 (ending_active c n) n.on n.ended was.place met.for_kill met.comp (place_if_parked (stand p n.run.0) by.wake was.place by.to_come was.one_more) met.waits).0

      by_phase : ((d : ℕ) → IsEnding aim scripts p q d → o.rank d < m → ⊥) → (phase p met.comp.0 ≡ phase q met.comp.0) ⊎ IsEnding aim scripts p q met.comp.0 → ⊥
      by_phase again (inl same) =
          let there : exists p met.comp.0 ≡ true = exists_back f.ahead met.comp.0 met.gone.there in
          let yes : holds p (record { killed = met.for_kill; target = Target.One met.comp }) ≡ true = met_holds p met.for_kill met.comp (record { there = there; dead = same ∙ met.gone.dead }) in
          let no : holds p (record { killed = met.for_kill; target = Target.One met.comp }) ≡ false = ap (holds p) a_is ∙ w.2 in
          both_ways _ no yes
      by_phase again (inr k) = let less = lower in again met.comp.0 k (omega (arith, less, l))

  stuck_alike : IsCourse scripts p → IsFor aim scripts q p → AreOrdered scripts p q → is_stuck p ≡ true → IsAlike p q
  stuck_alike cp f o stuck = record {
    comps_same = f.ahead.comps_same;
    phase_same = λ c. ⊎_elim (λ h. h) (λ (n : IsEnding aim scripts p q c). absurd (none_ending cp f o stuck (suc (o.rank c)) c n (omega arith))) (f.ahead.phases c);
    kind_same = f.ahead.kind_same;
    comp_same = f.ahead.comp_same;
  }

  -- and none can continue in q
  none_goes_on : IsCourse scripts p → IsFor aim scripts q p → IsAlike p q → is_stuck p ≡ true → GoesOn scripts q → ⊥
  none_goes_on cp f alike stuck go = ⊎_elim waited_before (λ far. let fewer = at.fewer in waits_here (omega (arith, fewer, far))) (cases_lt at.place (stand q d.caller.0).called)
    where
      d : Entry
      d = go.entry

      act_q : is_active q d.caller.0 ≡ true
      act_q = active_if_on (length scripts) q d.caller.0 d.op d.reply go.turn.reply go.on

      w : (a : Awaited) × (waiting p d.caller.0 ≡ Some a) × (holds p a ≡ false)
      w = stuck_waits (length scripts) p d.caller.0 (course_legal scripts p cp) stuck (active_alike alike d.caller.0 ∙ act_q)

      by : IsAwaitedBy (stand p d.caller.0) w.0
      by = waiting_wake p d.caller.0 w.0 w.1

      fol : IsFollowed scripts q d.caller.0 (stand p d.caller.0) (stand q d.caller.0)
      fol = f.runs d.caller.0 act_q

      at : IsParkedAt scripts q d.caller.0 (stand p d.caller.0) (stand q d.caller.0) by.wake
      at = subst (λ o. MatchOption o (IsBefore scripts q d.caller.0 (stand p d.caller.0) (stand q d.caller.0)) (λ wake. IsParkedAt scripts q d.caller.0 (stand p d.caller.0) (stand q d.caller.0) wake)) by.to_come fol.place

      waits_here : at.place ≡ (stand q d.caller.0).called → ⊥
      waits_here same =
          let of = at.wake_of in
          let call = next_of scripts q d.caller.0 d.op fol.no_wake go.turn.turn in
          let op_is : d.op ≡ Op.Wait of.killed of.target = sym call ∙ (ap (call_at scripts d.caller.0 (stand q d.caller.0) (stand q d.caller.0).comp) (sym same) ∙ of.waits) in
          let a_is : record { killed = of.killed; target = of.target } ≡ w.0 = same_awaited of.killed of.target by.wake w.0 of.wakes by.for_it in
          let no : holds q (record { killed = of.killed; target = of.target }) ≡ false = sym (holds_alike alike (record { killed = of.killed; target = of.target })) ∙ (ap (holds p) a_is ∙ w.2) in
          let bad : is_fault d.reply ≡ true = wait_answer (length scripts) q d.caller.0 of.killed of.target d.reply act_q no (go.turn.reply ∙ ap (answer (length scripts) q d.caller.0) op_is) go.on in
          let good = go.no_fault in
          absurd cc

      waited_before : at.place < (stand q d.caller.0).called → ⊥
      waited_before less =
          let op : Op = call_at scripts d.caller.0 (stand q d.caller.0) (stand q d.caller.0).comp at.place in
          let met = met_at (length scripts) q d.caller.0 op by.wake (at.between at.place (omega arith) less) at.wake_of in
          let a_is = met_awaited q op by.wake w.0 at.wake_of met by.for_it in
          let there : holds q (record { killed = met.for_kill; target = Target.One met.comp }) ≡ true = met_holds q met.for_kill met.comp met.gone in
          let yes : holds p w.0 ≡ true = ap (holds p) (sym a_is) ∙ (holds_alike alike (record { killed = met.for_kill; target = Target.One met.comp }) ∙ there) in
          both_ways (holds p w.0) w.2 yes

finish_reply : (n : ℕ) (past : List Entry) (b : ℕ) → is_active past b ≡ true → answer n past b Op.Finish ≡ Reply.Ok
unfolding answer fault all_exist
finish_reply n past b act = rw act refl

fault_of_set : (n : ℕ) (past : List Entry) (b : ℕ) (v : UserVerdict) → fault n past b (Op.SetVerdict v) ≡ None
unfolding fault all_exist
fault_of_set n past b v = refl

pub fault_of_wait : (n : ℕ) (past : List Entry) (b : ℕ) (k : Bool) (t : Target) → fault n past b (Op.Wait k t) ≡ fault n past b (Op.Wake k t)
unfolding fault
fault_of_wait n past b k t = refl

module _ {aim : Verdict} {scripts : List ScriptView} {Seen : List Entry → Type 0} {found : List Witness} {p q : List Entry} {e : Entry} where
  told_stuck : AtTurn aim scripts Seen found p q e → is_stuck p ≡ true → e.reply ≡ Reply.Fault Fault.Stuck → IsTold aim scripts Seen found (e ∷ p)
  told_stuck h stuck r =
      let v : overall (e ∷ p) ≡ Verdict.Error = overall_more (length scripts) p e (course_legal scripts (e ∷ p) h.course) ∙ (rw (r, gives_error e.op Fault.Stuck) refl ∙ error_is_worst (overall p)) in
      let ends : ends_case e ≡ true = rw r refl in
      let over_e : is_over (e ∷ p) ≡ true = rw ends refl in
      let worst : level_of (overall (e ∷ p)) ≡ level_of Verdict.Error = ap level_of v in
      let within : level_of (overall (e ∷ p)) ≤ level_of aim = h.within in
      let found_error : is_found found Verdict.Error ≡ true = ⊎_elim (λ x. x)
      (λ other. ⊎_elim (λ go. ⊎_elim (λ better. absurd (omega (arith, worst, within, better)))
      (λ o. absurd (none_goes_on h.course.1 h.for (stuck_alike h.course.1 h.for o stuck) stuck go)) h.for.order) (λ better. absurd (omega (arith, worst, within, better))) other) h.closed.stuck in
      record { over = λ o. (Verdict.Error, found_error, omega (arith, worst), omega (arith, worst, within)); going = λ o. absurd cc }

  -- a Wake that is answered Matched
  told_woken : (me : Comp) → AtTurn aim scripts Seen found p q e → IsGoing scripts p q e me → (k : Bool) (t : Target) → e.op ≡ Op.Wake k t → e.reply ≡ Reply.Matched → (stand p e.caller.0).called ≡ suc (stand q e.caller.0).called →
      IsTurn scripts q (record { caller = e.caller; op = Op.Wait k t; reply = Reply.Matched }) → IsTold aim scripts Seen found (e ∷ p)
  told_woken me h g k t is r one_more turn =
      let d : Entry = record { caller = e.caller; op = Op.Wait k t; reply = Reply.Matched } in
      let of : IsWakeOf (Op.Wait k t) e.op = record { killed = k; target = t; waits = refl; wakes = is } in
      let to : IsWakeOf d.op (Op.Wake k t) = record { killed = k; target = t; waits = refl; wakes = refl } in
      let ue = unchanged_wake p e (Op.Wait k t) of (rw r refl) in
      let ud = unchanged_wait q d (Op.Wake k t) to refl in
      let cq : IsCourse scripts (d ∷ q) = (turn, h.closed.course) in
      let lq = course_legal scripts (d ∷ q) cq in
      let ae = alike_unchanged (length scripts) p e (course_legal scripts (e ∷ p) h.course) ue in
      let ad = alike_unchanged (length scripts) q d lq ud in
      let keeps = keeps_quiet (length scripts) q d lq in
      let later : IsAhead aim scripts p (d ∷ q) = ahead_after scripts p q (d ∷ q) h.for.ahead (alike_sym (d ∷ q) q ad) keeps (overall_grows (length scripts) q d lq) in
      let goes : is_active (d ∷ q) e.caller.0 ≡ true = active_alike ad e.caller.0 ∙ g.in_q in
      let ahead : IsAhead aim scripts (e ∷ p) (d ∷ q) =
      ahead_turn scripts p (d ∷ q) e h.course.1 ae later (λ c n k. let other = not_ending_run later e.caller.0 goes c n in absurd cc)
      (let was = still_better h (wake_kept (length scripts) p e (Op.Wait k t) (legal_next h) of (rw r refl)) in let grows = overall_grows (length scripts) q d lq in omega (arith, was, grows)) in
      let inside : level_of (overall (d ∷ q)) ≤ level_of aim =
      let same = ap level_of (wait_kept (length scripts) q d (Op.Wake k t) lq to refl) in let was = h.closed.within in omega (arith, same, was) in
      let ends_e : ends_case e ≡ false = (or_parts (ends_case e) _ (or_parts (kills e 0) _ (ue.no_halt 0)).0).0 in
      let ends_d : ends_case d ≡ false = (or_parts (ends_case d) _ (or_parts (kills d 0) _ (ud.no_halt 0)).0).0 in
      told_both h d turn g.in_range refl ahead.no_better inside (ends_e ∙ sym ends_d) (λ o.
      both scripts p q e d h.course cq h.for refl ahead keeps
      (λ act.
      subst (λ s. IsFollowed scripts (d ∷ q) e.caller.0 s (stand (d ∷ q) e.caller.0)) (sym (stand_own p e e.caller.0 refl))
      (subst (λ x. IsFollowed scripts (d ∷ q) e.caller.0 (after_own e (stand p e.caller.0)) x) (sym (stand_own q d e.caller.0 refl))
      (woken scripts q (d ∷ q) e.caller.0 (stand p e.caller.0) (stand q e.caller.0) e d g.followed one_more ue.made ud.made
      (not_ending p e (stand p e.caller.0).comp me ue g.stand_p g.on_p (rw r refl))
      (not_ending q d (stand q e.caller.0).comp me ud g.stand_q g.on_q refl)
      (rw is refl) refl (loud_sets_no_wake e.op e.reply (rw r refl)) refl)))
      (λ b other none act.
      let off : is_active (d ∷ q) b ≡ false = started_by_entry (length scripts) q d b lq none ∙ ap is_some (ud.no_run b) in
      absurd cc)
      g.in_q
      (λ c dead. inl (sym (ad.phase_same c) ∙ dead)))

  -- a Wake of what has not come
  told_unmet : AtTurn aim scripts Seen found p q e → (k : Bool) (t : Target) → e.op ≡ Op.Wake k t → e.reply ≡ plain_answer p e.caller.0 (Op.Wake k t) →
      holds p (record { killed = k; target = t }) ≡ false → IsTold aim scripts Seen found (e ∷ p)
  told_unmet h k t op_is r unmet = by_stuck ((e.caller.0 == 0) && is_stuck p) refl
    where
      by_stuck : (s : Bool) → ((e.caller.0 == 0) && is_stuck p) ≡ s → IsTold aim scripts Seen found (e ∷ p)
      by_stuck true j =
          let is : e.reply ≡ Reply.Fault Fault.Stuck = r ∙ rw (unmet, j) refl in
          told_stuck h (and_right (e.caller.0 == 0) (is_stuck p) j) is
      by_stuck false j =
          let is : e.reply ≡ Reply.Parked = r ∙ rw (unmet, j) refl in
          let idle : is_idle e.op e.reply ≡ true = rw (op_is, is) refl in
          let not_idle : is_idle e.op e.reply ≡ false = h.course.0.not_idle in
          absurd cc

  -- the errors of a Wake are those of its Wait
  wake_fault : AtTurn aim scripts Seen found p q e → (k : Bool) (t : Target) → is_some (fault (length scripts) p e.caller.0 (Op.Wake k t)) ≡ is_some (fault (length scripts) q e.caller.0 (Op.Wait k t))
  wake_fault h k t = fault_ahead h.for.ahead (length scripts) e.caller.0 (Op.Wake k t) ∙ ap is_some (sym (fault_of_wait (length scripts) q e.caller.0 k t))

  -- a Wake of a Wait that q calls next
  told_wake_here : (me : Comp) → AtTurn aim scripts Seen found p q e → IsGoing scripts p q e me → (k : Bool) (t : Target) → e.op ≡ Op.Wake k t →
      call_at scripts e.caller.0 (stand q e.caller.0) (stand q e.caller.0).comp (stand q e.caller.0).called ≡ Op.Wait k t → (stand p e.caller.0).called ≡ suc (stand q e.caller.0).called → IsTold aim scripts Seen found (e ∷ p)
  told_wake_here me h g wk t op_is calls one_more = by_fault (fault (length scripts) p e.caller.0 (Op.Wake wk t)) refl
    where
      turn_q : turn scripts q e.caller.0 ≡ Some (Op.Wait wk t)
      turn_q = turn_in scripts p q e me g ∙ ap Some calls

      reply_p : e.reply ≡ answer (length scripts) p e.caller.0 (Op.Wake wk t)
      reply_p = h.course.0.reply ∙ ap (answer (length scripts) p e.caller.0) op_is

      by_holds : fault (length scripts) p e.caller.0 (Op.Wake wk t) ≡ None → (s : Bool) → holds p (record { killed = wk; target = t }) ≡ s → IsTold aim scripts Seen found (e ∷ p)
      by_holds none true k =
          let r : e.reply ≡ Reply.Matched = reply_p ∙ (answer_plain (length scripts) p e.caller.0 (Op.Wake wk t) g.in_p none ∙ rw k refl) in
          let there : holds q (record { killed = wk; target = t }) ≡ true = holds_ahead h.for.ahead (record { killed = wk; target = t }) k in
          let rq : answer (length scripts) q e.caller.0 (Op.Wait wk t) ≡ Reply.Matched =
          answer_plain (length scripts) q e.caller.0 (Op.Wait wk t) g.in_q
          (none_too (fault (length scripts) p e.caller.0 (Op.Wake wk t)) (fault (length scripts) q e.caller.0 (Op.Wait wk t)) (wake_fault h wk t) none) ∙ rw there refl in
          told_woken me h g wk t op_is r one_more (record { turn = turn_q; reply = sym rq; not_idle = refl })
      by_holds none false k = told_unmet h wk t op_is (reply_p ∙ answer_plain (length scripts) p e.caller.0 (Op.Wake wk t) g.in_p none) k

      by_fault : (o : Option Fault) → fault (length scripts) p e.caller.0 (Op.Wake wk t) ≡ o → IsTold aim scripts Seen found (e ∷ p)
      by_fault None k = by_holds k (holds p (record { killed = wk; target = t })) refl
      by_fault (Some x) k =
          let y = some_too (fault (length scripts) p e.caller.0 (Op.Wake wk t)) (fault (length scripts) q e.caller.0 (Op.Wait wk t)) x (wake_fault h wk t) k in
          let d : Entry = record { caller = e.caller; op = Op.Wait wk t; reply = Reply.Fault y.0 } in
          let turn : IsTurn scripts q d = record {
            turn = turn_q;
            reply = sym (answer_fault (length scripts) q e.caller.0 (Op.Wait wk t) y.0 g.in_q y.1);
            not_idle = refl;
          } in
          told_fault h d turn refl g.in_range x y.0 (reply_p ∙ answer_fault (length scripts) p e.caller.0 (Op.Wake wk t) x g.in_p k) refl

  -- the answer to a Wake of a Wait that is no error after q
  wake_answer : AtTurn aim scripts Seen found p q e → (k : Bool) (t : Target) → is_active p e.caller.0 ≡ true → e.op ≡ Op.Wake k t → fault (length scripts) q e.caller.0 (Op.Wait k t) ≡ None →
      e.reply ≡ plain_answer p e.caller.0 (Op.Wake k t)
  wake_answer h k t act op_is none =
      let none_p : fault (length scripts) p e.caller.0 (Op.Wake k t) ≡ None =
      none_too (fault (length scripts) q e.caller.0 (Op.Wait k t)) (fault (length scripts) p e.caller.0 (Op.Wake k t)) (sym (wake_fault h k t)) none in
      h.course.0.reply ∙ (ap (answer (length scripts) p e.caller.0) op_is ∙ answer_plain (length scripts) p e.caller.0 (Op.Wake k t) act none_p)

  -- a Wake of a Wait that changes nothing after q
  told_awoken : AtTurn aim scripts Seen found p q e → (k : Bool) (t : Target) → is_active p e.caller.0 ≡ true → e.op ≡ Op.Wake k t → IsQuietAt (length scripts) q e.caller.0 (Op.Wait k t) →
      (ChangesNothing p e → e.reply ≡ Reply.Matched → IsPlaced aim scripts p q e) → IsTold aim scripts Seen found (e ∷ p)
  told_awoken h k t act op_is quiet placed = by_holds (holds p (record { killed = k; target = t })) refl
    where
      reply : e.reply ≡ plain_answer p e.caller.0 (Op.Wake k t)
      reply = wake_answer h k t act op_is quiet.no_fault

      by_holds : (s : Bool) → holds p (record { killed = k; target = t }) ≡ s → IsTold aim scripts Seen found (e ∷ p)
      by_holds false j = told_unmet h k t op_is reply j
      by_holds true j =
          let r : e.reply ≡ Reply.Matched = reply ∙ rw j refl in
          let of : IsWakeOf (Op.Wait k t) e.op = record { killed = k; target = t; waits = refl; wakes = op_is } in
          let u = unchanged_wake p e (Op.Wait k t) of (rw r refl) in
          told_stutter h u (still_better h (wake_kept (length scripts) p e (Op.Wait k t) (legal_next h) of (rw r refl))) (placed u r)

  -- a Wake of a Wait that q has made
  told_wake_behind : (me : Comp) → AtTurn aim scripts Seen found p q e → IsGoing scripts p q e me → (wake : Op) → wake ≡ e.op → (at : IsParkedAt scripts q e.caller.0 (stand p e.caller.0) (stand q e.caller.0) wake) →
      at.place < (stand q e.caller.0).called → IsTold aim scripts Seen found (e ∷ p)
  told_wake_behind me h g wake calls at less =
      let op_is : e.op ≡ Op.Wake at.wake_of.killed at.wake_of.target = sym calls ∙ at.wake_of.wakes in
      told_awoken h at.wake_of.killed at.wake_of.target g.in_p op_is (subst (λ op. IsQuietAt (length scripts) q e.caller.0 op) at.wake_of.waits (at.between at.place (omega arith) less)) (λ u r. placed_by e h.for g.in_q
      (woken_behind scripts q e.caller.0 (stand p e.caller.0) (stand q e.caller.0) e wake g.followed at less u.made
      (not_ending p e (stand p e.caller.0).comp me u g.stand_p g.on_p (rw r refl)) (rw op_is refl) (loud_sets_no_wake e.op e.reply (rw r refl))))

  -- a Wake
  told_wake : (me : Comp) → AtTurn aim scripts Seen found p q e → IsGoing scripts p q e me → (wake : Op) → (stand p e.caller.0).wake ≡ Some wake → wake ≡ e.op → IsTold aim scripts Seen found (e ∷ p)
  told_wake me h g wake some calls =
      ⊎_elim (told_wake_behind me h g wake calls at) (λ far.
      let fewer = at.fewer in
      let same : at.place ≡ (stand q e.caller.0).called = omega (arith, fewer, far) in
      told_wake_here me h g at.wake_of.killed at.wake_of.target (sym calls ∙ at.wake_of.wakes)
      (ap (call_at scripts e.caller.0 (stand q e.caller.0) (stand q e.caller.0).comp) (sym same) ∙ at.wake_of.waits) (at.one_more ∙ ap suc same)) (cases_lt at.place (stand q e.caller.0).called)
    where
      at : IsParkedAt scripts q e.caller.0 (stand p e.caller.0) (stand q e.caller.0) wake
      at = subst (λ o. MatchOption o (IsBefore scripts q e.caller.0 (stand p e.caller.0) (stand q e.caller.0)) (λ w. IsParkedAt scripts q e.caller.0 (stand p e.caller.0) (stand q e.caller.0) w)) some g.followed.place

  -- a turn of a run that is leaving, and has ended after q
  told_leaving : AtTurn aim scripts Seen found p q e → (c : ℕ) (n : IsEnding aim scripts p q c) → n.run.0 ≡ e.caller.0 → IsTold aim scripts Seen found (e ∷ p)
  told_leaving h c n own = by_wake (stand p e.caller.0).wake refl leaving.parked
    where
      leaving : IsLeaving aim scripts q e.caller.0 (stand p e.caller.0)
      leaving = subst (λ b. IsLeaving aim scripts q b (stand p b)) own n.leaving

      active : is_active p e.caller.0 ≡ true
      active = subst (λ b. is_active p b ≡ true) own (ending_active c n)

      off : is_active q e.caller.0 ≡ false
      off = subst (λ b. is_active q b ≡ false) own (ended_inactive h.for.ahead c n)

      on : comp_of p e.caller.0 ≡ Some (record { 0 = c })
      on = subst (λ b. comp_of p b ≡ Some (record { 0 = c })) own n.on

      here : (stand p e.caller.0).comp ≡ Some (record { 0 = c })
      here = stand_comp scripts p e.caller.0 h.course.1 ∙ on

      call : (stand p e.caller.0).wake ≡ None → call_at scripts e.caller.0 (stand p e.caller.0) (stand p e.caller.0).comp (stand p e.caller.0).called ≡ e.op
      call none = next_of scripts p e.caller.0 e.op none h.course.0.turn

      goes_not : is_active q e.caller.0 ≡ true → IsFollowed scripts q e.caller.0 (stand (e ∷ p) e.caller.0) (stand q e.caller.0)
      goes_not act = absurd (both_ways (is_active q e.caller.0) off act)

      placed : IsLeaving aim scripts q e.caller.0 (after_own e (stand p e.caller.0)) → IsPlaced aim scripts p q e
      placed l = record {
        own = λ d m k.
            let later : IsLeaving aim scripts q e.caller.0 (stand (e ∷ p) e.caller.0) = subst (λ s. IsLeaving aim scripts q e.caller.0 s) (sym (stand_own p e e.caller.0 refl)) l in
            subst (λ b. IsLeaving aim scripts q b (stand (e ∷ p) b)) (equal_if e.caller.0 m.run.0 k) later;
        follows = goes_not;
      }

      parked_turn : (stand p e.caller.0).wake ≡ None → IsQuietAt (length scripts) q e.caller.0 e.op → (k : Bool) (t : Target) → e.op ≡ Op.Wait k t → e.reply ≡ Reply.Parked → IsTold aim scripts Seen found (e ∷ p)
      parked_turn none quiet k t is r =
          let of : IsWakeOf e.op (Op.Wake k t) = record { killed = k; target = t; waits = is; wakes = refl } in
          told_waits h k t is r (λ u. placed
          (leaving_parked scripts q e.caller.0 (stand p e.caller.0) e (Op.Wake k t) leaving u.made (rw is refl) (rw (is, r) refl)
          (subst (λ op. IsWakeOf op (Op.Wake k t)) (sym (call none)) of) (subst (λ op. IsQuietAt (length scripts) q e.caller.0 op) (sym (call none)) quiet)))

      woken_turn : (wake : Op) → (stand p e.caller.0).wake ≡ Some wake → WasParked scripts q e.caller.0 (stand p e.caller.0) wake → IsTold aim scripts Seen found (e ∷ p)
      woken_turn wake some was =
          let op_is : e.op ≡ Op.Wake was.wake_of.killed was.wake_of.target = sym (wake_of_turn scripts p e.caller.0 wake e.op some h.course.0.turn) ∙ was.wake_of.wakes in
          told_awoken h was.wake_of.killed was.wake_of.target active op_is (subst (λ op. IsQuietAt (length scripts) q e.caller.0 op) was.wake_of.waits was.quiet)
          (λ u r. placed (leaving_woken scripts q e.caller.0 (stand p e.caller.0) e leaving u.made (rw op_is refl) (loud_sets_no_wake e.op e.reply (rw r refl))))

      -- a run that has the component which ends is the one that ends
      other_run : (d : ℕ) (m : IsEnding aim scripts p q d) → (c == d) ≡ false → (e.caller.0 == m.run.0) ≡ true → IsLeaving aim scripts q m.run.0 (stand (e ∷ p) m.run.0)
      other_run d m other k =
          let same : c ≡ d = number_of (record { 0 = c }) (record { 0 = d }) (sym on ∙ (ap (comp_of p) (equal_if e.caller.0 m.run.0 k) ∙ m.on)) in
          let yes : (c == d) ≡ true = subst (λ x. (c == x) ≡ true) same (self_equal c) in
          absurd cc

      end_turn : e.op ≡ Op.Finish → IsTold aim scripts Seen found (e ∷ p)
      end_turn op =
          let ends : Ends p e (record { 0 = c }) = record {
            op = op;
            reply = h.course.0.reply ∙ (ap (answer (length scripts) p e.caller.0) op ∙ finish_reply (length scripts) p e.caller.0 active);
            not_main = subst (λ b. (b == 0) ≡ false) own n.not_main;
            on = on;
            runs = running_on p e (record { 0 = c }) active on;
            ordinary = n.ordinary;
          } in
          told_halt h c (end_halts ends) n.ended (on_existing (length scripts) p e.caller.0 (record { 0 = c }) (course_legal scripts p h.course.1) on) other_run goes_not

      by_call : (stand p e.caller.0).wake ≡ None → IsLastAt (length scripts) q e.caller.0 e.op → IsTold aim scripts Seen found (e ∷ p)
      by_call none (inl spent) = told_spent (record { 0 = c }) h active on here spent
          (λ i. placed (leaving_on scripts q e.caller.0 (stand p e.caller.0) e leaving i.made i.plain i.no_wake (ap (is_barred aim) (call none) ∙ i.free))) (parked_turn none spent)
      by_call none (inr op) = end_turn op

      -- it sets no verdict worse than is looked for
      no_setting : (v : UserVerdict) → e.op ≡ Op.SetVerdict v → level_of aim < level_of (given v) → IsTold aim scripts Seen found (e ∷ p)
      no_setting v sets more =
          let reply : e.reply ≡ Reply.Ok = h.course.0.reply ∙ (ap (answer (length scripts) p e.caller.0) sets ∙ answer_plain (length scripts) p e.caller.0 (Op.SetVerdict v) active (fault_of_set (length scripts) p e.caller.0 v)) in
          let is : overall (e ∷ p) ≡ worse (overall p) (given v) = overall_more (length scripts) p e (legal_next h) ∙ rw (reply, sets) refl in
          let level = ap level_of is in
          let right = worse_right (overall p) (given v) in
          let within = h.within in
          absurd (omega (arith, level, right, within, more))

      barred_turn : is_barred aim e.op ≡ true → IsTold aim scripts Seen found (e ∷ p)
      barred_turn bars = let b = barred_sets aim e.op bars in no_setting b.verdict b.sets b.worse

      by_bar : (stand p e.caller.0).wake ≡ None → IsLastAt (length scripts) q e.caller.0 (call_at scripts e.caller.0 (stand p e.caller.0) (stand p e.caller.0).comp (stand p e.caller.0).called) ⊎ IsBarredBefore aim scripts e.caller.0 (stand p e.caller.0) (stand p e.caller.0).called →
          IsTold aim scripts Seen found (e ∷ p)
      by_bar k (inl last) = by_call k (subst (λ op. IsLastAt (length scripts) q e.caller.0 op) (call k) last)
      by_bar k (inr bar) =
          let l = bar.later in
          let m = bar.before in
          let here : bar.place ≡ (stand p e.caller.0).called = omega (arith, l, m) in
          barred_turn (sym (ap (λ x. is_barred aim (call_at scripts e.caller.0 (stand p e.caller.0) (stand p e.caller.0).comp x)) here ∙ ap (is_barred aim) (call k)) ∙ bar.bars)

      by_wake : (o : Option Op) → (stand p e.caller.0).wake ≡ o → MatchOption o (Unit {0}) (λ wake. WasParked scripts q e.caller.0 (stand p e.caller.0) wake) → IsTold aim scripts Seen found (e ∷ p)
      by_wake None k was = by_bar k (leaving.calls (stand p e.caller.0).called (omega arith))
      by_wake (Some wake) k was = woken_turn wake k was

  -- one more turn
  told_step : AtTurn aim scripts Seen found p q e → IsTold aim scripts Seen found (e ∷ p)
  told_step h = by_active (is_active p e.caller.0) refl
    where
      going : is_active p e.caller.0 ≡ true → is_active q e.caller.0 ≡ true → (t : HasTurn (steps_of scripts e.caller.0) (stand p e.caller.0) e.op) → IsGoing scripts p q e t.me
      going act act_q t =
          let on_p : comp_of p e.caller.0 ≡ Some t.me = sym (stand_comp scripts p e.caller.0 h.course.1) ∙ t.on in
          let on_q : comp_of q e.caller.0 ≡ Some t.me = sym (h.for.ahead.comp_same e.caller.0) ∙ on_p in
          let fol = h.for.runs e.caller.0 act_q in
          record {
            in_p = act;
            in_q = act_q;
            on_p = on_p;
            on_q = on_q;
            stand_p = t.on;
            stand_q = stand_comp scripts q e.caller.0 h.closed.course ∙ on_q;
            followed = fol;
            stays = sym fol.left ∙ t.stays;
            in_range = run_in_range (length scripts) p e.caller.0 t.me h.some (course_legal scripts p h.course.1) on_p;
          }

      by_wake : (t : HasTurn (steps_of scripts e.caller.0) (stand p e.caller.0) e.op) → IsGoing scripts p q e t.me → (o : Option Op) → (stand p e.caller.0).wake ≡ o → IsTold aim scripts Seen found (e ∷ p)
      by_wake t g None k =
          told_place t.me h g k
      by_wake t g (Some wake) k =
          told_wake t.me h g wake k (wake_of_turn scripts p e.caller.0 wake e.op k h.course.0.turn)

      by_active : (t : Bool) → is_active p e.caller.0 ≡ t → IsTold aim scripts Seen found (e ∷ p)
      by_active true k = by_q (active_forth h.for.ahead e.caller.0 k)
        where
          by_q : (is_active q e.caller.0 ≡ true) ⊎ ((c : ℕ) × (n : IsEnding aim scripts p q c) × (n.run.0 ≡ e.caller.0)) → IsTold aim scripts Seen found (e ∷ p)
          by_q (inl act) = let t = has_turn scripts p e.caller.0 e.op h.course.0.turn in by_wake t (going k act t) (stand p e.caller.0).wake refl
          by_q (inr n) = told_leaving h n.0 n.1 n.2
      by_active false k =
          let r : e.reply ≡ Reply.Ended = h.course.0.reply ∙ answer_inactive (length scripts) p e.caller.0 e.op k in
          let u = unchanged_ended p e r in
          told_stutter h u (still_better h (ended_kept (length scripts) p e (legal_next h) r)) (record {
            own = λ c n same.
                let one : is_active p e.caller.0 ≡ is_active p n.run.0 = ap (is_active p) (equal_if e.caller.0 n.run.0 same) in
                let on : is_active p n.run.0 ≡ true = ending_active c n in
                absurd cc;
            follows = λ act. let on : is_active p e.caller.0 ≡ true = active_back h.for.ahead e.caller.0 act in absurd cc;
          })

-- ---- all courses

module _ (aim : Verdict) (scripts : List ScriptView) (Seen : List Entry → Type 0) (found : List Witness) (some : 1 ≤ length scripts) (seen : SeenIsClosed aim scripts Seen found) (start : IsCovered aim scripts Seen []) where
  for_opening : IsFor aim scripts [] []
  for_opening = record { ahead = ahead_self scripts []; runs = λ b act. followed_self scripts [] b (stand [] b) refl; order = inr (order_opening scripts []) }

  told_opening : IsTold aim scripts Seen found []
  told_opening = record {
    over = λ o. absurd cc;
    going = λ o. let r = start [] tt for_opening in seen r.0 [] r.1 tt r.2;
  }

  told_over : (p : List Entry) (e : Entry) → IsCourse scripts (e ∷ p) → IsTold aim scripts Seen found p → is_over p ≡ true → IsTold aim scripts Seen found (e ∷ p)
  told_over p e c t over =
      let r : e.reply ≡ Reply.Ended = c.0.reply ∙ (all_over (length scripts) p (course_legal scripts p c.1) over).ended e.caller.0 e.op in
      let same = ap level_of (ended_kept (length scripts) p e (course_legal scripts (e ∷ p) c) r) in
      let told = t.over over in
      let ends : ends_case e ≡ false = rw r refl in
      let over_e : is_over (e ∷ p) ≡ true = rw (ends, over) refl in
      record { over = λ o. let better = told.2 in (told.0, told.1, omega (arith, same, better), told.3); going = λ o. absurd cc }

  told_going : (p : List Entry) (e : Entry) → IsCourse scripts (e ∷ p) → IsWithin aim (e ∷ p) → IsTold aim scripts Seen found p → is_over p ≡ false → IsTold aim scripts Seen found (e ∷ p)
  told_going p e c within t on =
      let q = t.going on in
      told_step (record { some = some; course = c; within = within; closed = q.1; for = q.2; going = on; seen = seen })

  by_over : (p : List Entry) (e : Entry) → IsCourse scripts (e ∷ p) → IsWithin aim (e ∷ p) → IsTold aim scripts Seen found p → (t : Bool) → is_over p ≡ t → IsTold aim scripts Seen found (e ∷ p)
  by_over p e c within t true k = told_over p e c t k
  by_over p e c within t false k = told_going p e c within t k

  told_course : (p : List Entry) → IsCourse scripts p → IsWithin aim p → IsTold aim scripts Seen found p
  told_course [] c within = told_opening
  told_course (e ∷ p) c within =
      let grows = overall_grows (length scripts) p e (course_legal scripts (e ∷ p) c) in
      by_over p e c within (told_course p c.1 (omega (arith, grows, within))) (is_over p) refl

  -- a course in which no run has a call left is over
  complete_over : (p q : List Entry) → IsCourse scripts p → IsComplete scripts p → IsClosed aim scripts Seen found q → IsFor aim scripts q p → ⊥
  complete_over p q c done closed f =
      let on = some_if q 0 closed.main in
      let fol = f.runs 0 closed.main in
      let here : (stand p 0).comp ≡ Some on.0 = stand_comp scripts p 0 c ∙ (f.ahead.comp_same 0 ∙ on.1) in
      let stays : (stand p 0).left ≡ false = fol.left ∙ closed.main_stays in
      let t : turn scripts p 0 ≡ Some (unwrap_or (stand p 0).wake (call_of on.0 (stand p 0).bound (slice_get (steps_of scripts 0) (stand p 0).called))) =
      turn_of scripts p 0 _ (record { me = on.0; on = here; stays = stays; calls = refl }) in
      let none : turn scripts p 0 ≡ None = done 0 some in
      absurd cc

  pub complete_is_told : (p : List Entry) → IsCourse scripts p → IsComplete scripts p → IsWithin aim p → IsToldBy aim found (overall p)
  complete_is_told p c done within = by_end (told_course p c within) (is_over p) refl
    where
      by_end : IsTold aim scripts Seen found p → (t : Bool) → is_over p ≡ t → IsToldBy aim found (overall p)
      by_end t true k = t.over k
      by_end t false k = let q = t.going k in absurd (complete_over p q.0 c done q.1 q.2)
