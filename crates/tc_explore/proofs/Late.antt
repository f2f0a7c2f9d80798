-- What a stop or a kill of a component does that is killed already, and a wait for it.
use Rattle.std.proofs.lemmas.Grind.{common_steps}
use Rattle.std.proofs.{lemmas.Bool.{and_parts, not-true, or_from}, Common.{ℕ, ◌≡◌, ◌==◌, ◌⊎◌, inl, inr, not, if◌then◌else◌, Bool, true, false, Option, Some, None, List, ◌∷◌, length, refl, ap, sym, subst, ◌∙◌, arith, ⊎_elim}}
use Rattle.tc_rules.{specs.{Prelude.{Run, Comp, Entry, Op, Phase, is_ended, is_ok, is_wake, comps, comp_of, exists, is_alive_type, created, started_on, starts_on, first_some, add_new, halts, kills, ends_case, ends_pass, phase, phase_if_any, start_in, is_killed, done, killed, holds, overall, gives, special_fault, answer, plain_answer, is_active, IsLegal, level_of, Verdict, Group, Target, Reply}, Inside.Step.{next_local, next_phase}, declared.component_state.ComponentState.ComponentState}, proofs.Lemmas.{Deciding.{equal_if, ok_is, test_by, first_alone}, Over.{stays, on_existing}, Sound.{IsPlain, no_special, plain_if, startable}, Decided.overall_more}}
use Rattle.tc_step.specs.Prelude.{ScriptView}
use Rattle.tc_course.specs.{Prelude.{stand, IsCourse}, Inside.{ends, wake_if}}
use Rattle.tc_explore.{specs.Inside.Simulation.{IsAlike, is_gone, is_late, is_met, IsLeaving, IsEnding, IsAhead, is_barred, IsWakeOf}, proofs.{Alike.{fresh, kept_by, kind_kept, phase_next, none_unless}, Ahead.{ending_later, leaving_by, KeepsQuiet, leaving_later, phase_later}}}

-- ---- the component of the call

-- a component is there, and is killed
pub record IsGone (past : List Entry) (c : ℕ) : Type 0 where
  pub there : exists past c ≡ true
  pub dead : phase past c ≡ Phase.Killed

pub gone_is : (past : List Entry) (c : ℕ) → is_gone (phase_if_any past c) ≡ true → IsGone past c
unfolding phase_if_any
gone_is past c h = grind (arith, common_steps)

pub gone_if : (past : List Entry) (c : ℕ) → IsGone past c → is_gone (phase_if_any past c) ≡ true
unfolding phase_if_any
gone_if past c h = rw (h.there, h.dead) refl

-- ---- killed for ever

unkilled_of : (n : ℕ) (past : List Entry) (b : ℕ) (op : Op) (c : ℕ) (r : Run) → IsPlain n past b op Reply.Ok → starts_on op c ≡ Some r → is_killed (phase past c) ≡ false
unkilled_of n past b (Op.Start d run args) c r plain h =
    let same : d.0 ≡ c = equal_if d.0 c (test_by (d.0 == c) run r h).0 in
    rw (← same) (startable n past d.0 run.0 (no_special n past b (Op.Start d run args) plain.no_fault))
unkilled_of n past b _ c r plain h = absurd cc

-- nothing is started on a killed component
none_on_killed : (n : ℕ) (past : List Entry) (e : Entry) (c : ℕ) → IsLegal n (e ∷ past) → phase past c ≡ Phase.Killed → start_in e c ≡ None
none_on_killed n past e c legal dead = none_unless (start_in e c) (λ r k. by_ok (is_ok e.reply) refl r k)
  where
    by_ok : (t : Bool) → is_ok e.reply ≡ t → (r : Run) → (if t then starts_on e.op c else None) ≡ Some r → ⊥
    by_ok true ok r k =
        let q : Reply.Ok ≡ answer n past e.caller.0 e.op = sym (ok_is e.reply ok) ∙ legal.0 in
        let off : is_killed (phase past c) ≡ false = unkilled_of n past e.caller.0 e.op c r (plain_if n past e.caller.0 e.op Reply.Ok refl refl q) k in
        let on : is_killed (phase past c) ≡ true = ap is_killed dead in
        cc
    by_ok false ok r k = cc

stays_killed : (k h a : Bool) → next_phase k None h a Phase.Killed ≡ Phase.Killed
stays_killed false true a = refl
stays_killed _ _ a = refl

pub gone_next : (n : ℕ) (past : List Entry) (e : Entry) (c : ℕ) → IsLegal n (e ∷ past) → IsGone past c → IsGone (e ∷ past) c
gone_next n past e c legal h = record {
  there = stays past e c h.there;
  dead =
      phase_next n past e c legal
      ∙ (rw (h.there, none_on_killed n past e c legal h.dead, h.dead) (stays_killed (kills e c) (halts (comp_of past e.caller.0) e c) (is_alive_type past c)));
}

-- ---- the entry

-- the entry halts only component c, and nothing else changes by it
pub record HaltsOne (past : List Entry) (e : Entry) (c : ℕ) : Type 0 where
  pub no_case : ends_case e ≡ false
  pub made : created e.op e.reply ≡ None
  pub no_run : (b : ℕ) → started_on e b ≡ None
  pub no_start : (d : ℕ) → start_in e d ≡ None
  pub no_gain : next_local (gives e.op e.reply) (overall past) ≡ overall past
  pub here : halts (comp_of past e.caller.0) e c ≡ true
  pub no_kill : (d : ℕ) → (c == d) ≡ false → kills e d ≡ false
  pub elsewhere : (d : ℕ) → (c == d) ≡ false → halts (comp_of past e.caller.0) e d ≡ false
  pub plain : is_wake e.op ≡ false
  pub no_wake : wake_if e.op e.reply ≡ None
  pub goes : is_ended e.reply ≡ false

-- what holds of both calls that halt one component
pub halting : (P : Op → Type 0) (op : Op) (c : Comp) → (op ≡ Op.Stop (Group.One c)) ⊎ (op ≡ Op.Kill (Group.One c)) → P (Op.Stop (Group.One c)) → P (Op.Kill (Group.One c)) → P op
halting P op c (inl is) stop kill = subst P (sym is) stop
halting P op c (inr is) stop kill = subst P (sym is) kill

pub stop_halts : (past : List Entry) (e : Entry) (c : Comp) → (e.op ≡ Op.Stop (Group.One c)) ⊎ (e.op ≡ Op.Kill (Group.One c)) → e.reply ≡ Reply.Ok → (c.0 == 0) ≡ false → HaltsOne past e c.0
stop_halts past e c op reply other = grind (arith, common_steps)

-- the component that a late call is about
pub record IsLateFor (past : List Entry) (op : Op) (c : Comp) : Type 0 where
  pub halts_it : (op ≡ Op.Stop (Group.One c)) ⊎ (op ≡ Op.Kill (Group.One c))
  pub other : (c.0 == 0) ≡ false
  pub gone : IsGone past c.0

pub late_for : (past : List Entry) (op : Op) → is_late past op ≡ true → (c : Comp) × IsLateFor past op c
late_for past (Op.Stop (Group.One c)) h =
    let p = and_parts (not (c.0 == 0)) (is_gone (phase_if_any past c.0)) h in
    (c, record { halts_it = inl refl; other = not-true (c.0 == 0) p.0; gone = gone_is past c.0 p.1 })
late_for past (Op.Kill (Group.One c)) h =
    let p = and_parts (not (c.0 == 0)) (is_gone (phase_if_any past c.0)) h in
    (c, record { halts_it = inr refl; other = not-true (c.0 == 0) p.0; gone = gone_is past c.0 p.1 })
late_for past _ h = absurd cc

pub late_if : (past : List Entry) (op : Op) (c : Comp) → IsLateFor past op c → is_late past op ≡ true
late_if past op c h = let gone = gone_if past c.0 h.gone in halting (λ o. is_late past o ≡ true) op c h.halts_it (rw h.other gone) (rw h.other gone)

pub late_next : (n : ℕ) (past : List Entry) (e : Entry) (op : Op) → IsLegal n (e ∷ past) → is_late past op ≡ true → is_late (e ∷ past) op ≡ true
late_next n past e op legal h =
    let l = late_for past op h in
    late_if (e ∷ past) op l.0 (record { halts_it = l.1.halts_it; other = l.1.other; gone = gone_next n past e l.0.0 legal l.1.gone })

pub late_special : (n : ℕ) (past : List Entry) (q : List Entry) (op : Op) → is_late q op ≡ true → special_fault n past op ≡ None
late_special n past q op h = let l = late_for q op h in halting (λ o. special_fault n past o ≡ None) op l.0 l.1.halts_it refl refl

-- a late call that is no error is answered at once
pub late_reply : (q past : List Entry) (b : ℕ) (op : Op) → is_late q op ≡ true → plain_answer past b op ≡ Reply.Ok
late_reply q past b op h = let l = late_for q op h in halting (λ o. plain_answer past b o ≡ Reply.Ok) op l.0 l.1.halts_it refl refl

pub late_halts : (q past : List Entry) (e : Entry) (h : is_late q e.op ≡ true) → e.reply ≡ Reply.Ok → HaltsOne past e (late_for q e.op h).0.0
late_halts q past e h reply = let l = late_for q e.op h in stop_halts past e l.0 l.1.halts_it reply l.1.other

pub late_free : (aim : Verdict) (q : List Entry) (op : Op) → is_late q op ≡ true → is_barred aim op ≡ false
late_free aim q op late = let l = late_for q op late in halting (λ o. is_barred aim o ≡ false) op l.0 l.1.halts_it refl refl

module _ {past : List Entry} {e : Entry} {c : ℕ} where
  pub halt_elsewhere : (n : ℕ) → IsLegal n (e ∷ past) → HaltsOne past e c → (d : ℕ) → (c == d) ≡ false → phase (e ∷ past) d ≡ phase past d
  halt_elsewhere n legal h d other =
      phase_next n past e d legal
      ∙ (rw (h.elsewhere d other, h.no_kill d other, h.no_start d) refl
      ∙ kept_by (exists past d) (phase past d) (λ k. ap (λ (s : ComponentState). s.phase) (fresh n past d legal.1 k)))

  -- one that was running a run, and is not alive-type, is killed then
  pub halt_here : (n : ℕ) → IsLegal n (e ∷ past) → HaltsOne past e c → exists past c ≡ true → is_alive_type past c ≡ false → (run : Run) → phase past c ≡ Phase.Running run → phase (e ∷ past) c ≡ Phase.Killed
  halt_here n legal h there ordinary run runs = phase_next n past e c legal ∙ rw (there, h.no_start c, h.here, ordinary, runs) (halted_now (kills e c))
    where
      halted_now : (k : Bool) → next_phase k None true false (Phase.Running run) ≡ Phase.Killed
      halted_now true = refl
      halted_now false = refl

  pub halt_comps : HaltsOne past e c → comps (e ∷ past) ≡ comps past
  halt_comps h = ap (λ o. add_new o (comps past)) h.made

  pub halt_kinds : (n : ℕ) → IsLegal n (e ∷ past) → HaltsOne past e c → (d : ℕ) → is_alive_type (e ∷ past) d ≡ is_alive_type past d
  halt_kinds n legal h d = rw h.made (kind_kept (exists past d) (is_alive_type past d) (λ k. ap (λ (s : ComponentState). s.alive_type) (fresh n past d legal.1 k)))

  pub halt_runs : HaltsOne past e c → (b : ℕ) → comp_of (e ∷ past) b ≡ comp_of past b
  halt_runs h b = ap (first_some (comp_of past b)) (h.no_run b) ∙ first_alone (comp_of past b)

  pub halt_overall : (n : ℕ) → IsLegal n (e ∷ past) → HaltsOne past e c → overall (e ∷ past) ≡ overall past
  halt_overall n legal h = overall_more n past e legal ∙ h.no_gain

  -- a killed component is as it was
  pub alike_late : (n : ℕ) → IsLegal n (e ∷ past) → HaltsOne past e c → IsGone past c → IsAlike (e ∷ past) past
  alike_late n legal h gone = record {
    comps_same = halt_comps h;
    phase_same = λ d. by_test d (c == d) refl;
    kind_same = halt_kinds n legal h;
    comp_same = halt_runs h;
  }
    where
      by_test : (d : ℕ) (t : Bool) → (c == d) ≡ t → phase (e ∷ past) d ≡ phase past d
      by_test d true k = subst (λ x. phase (e ∷ past) x ≡ phase past x) (equal_if c d k) ((gone_next n past e c legal gone).dead ∙ sym gone.dead)
      by_test d false k = halt_elsewhere n legal h d k

  -- a run that continues is on another component
  pub halt_not_ending : HaltsOne past e c → (o : Option Comp) (me : Comp) → o ≡ Some me → comp_of past e.caller.0 ≡ Some me → (c == me.0) ≡ false → ends o e ≡ false
  unfolding ends_pass
  halt_not_ending h o me same on other =
      subst (λ x. ends x e ≡ false) (sym same) (or_from (is_ended e.reply) (halts (Some me) e me.0) h.goes (subst (λ x. halts x e me.0 ≡ false) on (h.elsewhere me.0 other)))

-- ---- waits

-- the component that a met wait is for
pub record IsMetFor (past : List Entry) (op : Op) : Type 0 where
  pub for_kill : Bool
  pub comp : Comp
  pub waits : op ≡ Op.Wait for_kill (Target.One comp)
  pub wake : Op
  pub wake_of : IsWakeOf op wake
  pub gone : IsGone past comp.0

pub met_for : (past : List Entry) (op : Op) → is_met past op ≡ true → IsMetFor past op
met_for past (Op.Wait k (Target.One c)) h = record { for_kill = k; comp = c; waits = refl; wake = Op.Wake k (Target.One c); wake_of = record { killed = k; target = Target.One c; waits = refl; wakes = refl }; gone = gone_is past c.0 h }
met_for past _ h = absurd cc

pub met_next : (n : ℕ) (past : List Entry) (e : Entry) (op : Op) → IsLegal n (e ∷ past) → is_met past op ≡ true → is_met (e ∷ past) op ≡ true
met_next n past e op legal h = let m = met_for past op h in rw m.waits (gone_if (e ∷ past) m.comp.0 (gone_next n past e m.comp.0 legal m.gone))

pub met_special : (n : ℕ) (past : List Entry) (q : List Entry) (op : Op) → is_met q op ≡ true → special_fault n past op ≡ None
met_special n past q op h = rw (met_for q op h).waits refl

pub met_holds : (past : List Entry) (k : Bool) (c : Comp) → IsGone past c.0 → holds past (record { killed = k; target = Target.One c }) ≡ true
unfolding holds done killed
met_holds past true c gone = rw gone.dead refl
met_holds past false c gone = rw gone.dead refl

pub met_reply : (q : List Entry) (b : ℕ) (op : Op) → is_met q op ≡ true → plain_answer q b op ≡ Reply.Matched
met_reply q b op h = let m = met_for q op h in rw (m.waits, met_holds q m.for_kill m.comp m.gone) refl

-- a wait that is no error is matched or parked
pub met_or_parked : (q past : List Entry) (b : ℕ) (op : Op) → is_met q op ≡ true → (plain_answer past b op ≡ Reply.Matched) ⊎ (plain_answer past b op ≡ Reply.Parked)
met_or_parked q past b op h = grind (arith, common_steps)

-- a run that continues is on no killed component
pub other_than_gone : (past : List Entry) (b c : ℕ) (me : Comp) → is_active past b ≡ true → comp_of past b ≡ Some me → phase past c ≡ Phase.Killed → (c == me.0) ≡ false
unfolding is_active
other_than_gone past b c me act on dead = grind (arith, common_steps)

-- ---- p halts what q has seen end

module _ {aim : Verdict} (scripts : List ScriptView) (p q : List Entry) (e : Entry) (c : ℕ) (cp : IsCourse scripts p) (lp : IsLegal (length scripts) (e ∷ p)) (s : IsAhead aim scripts p q) (h : HaltsOne p e c) (dead : phase q c ≡ Phase.Killed)
    (own : (d : ℕ) (n : IsEnding aim scripts p q d) → (c == d) ≡ false → (e.caller.0 == n.run.0) ≡ true → IsLeaving aim scripts q n.run.0 (stand (e ∷ p) n.run.0)) where
  phase_here : exists p c ≡ true → phase (e ∷ p) c ≡ phase q c
  phase_here there =
      ⊎_elim (λ (same : phase p c ≡ phase q c). (gone_next (length scripts) p e c lp (record { there = there; dead = same ∙ dead })).dead)
      (λ (n : IsEnding aim scripts p q c). halt_here (length scripts) lp h there n.ordinary n.run n.running) (s.phases c)
      ∙ sym dead

  phase_there : (d : ℕ) → (c == d) ≡ false → (phase (e ∷ p) d ≡ phase q d) ⊎ IsEnding aim scripts (e ∷ p) q d
  phase_there d other =
      ⊎_elim (λ (same : phase p d ≡ phase q d). inl (halt_elsewhere (length scripts) lp h d other ∙ same))
      (λ (n : IsEnding aim scripts p q d).
      inr (ending_later n (halt_elsewhere (length scripts) lp h d other ∙ n.running) n.ended (halt_runs h n.run.0) (halt_kinds (length scripts) lp h d) (leaving_by scripts p q e d n cp (own d n other)))) (s.phases d)

  pub ahead_late : exists p c ≡ true → IsAhead aim scripts (e ∷ p) q
  ahead_late there = record {
    comps_same = halt_comps h ∙ s.comps_same;
    phases = λ d. by_test d (c == d) refl;
    kind_same = λ d. halt_kinds (length scripts) lp h d ∙ s.kind_same d;
    comp_same = λ b. halt_runs h b ∙ s.comp_same b;
    no_better = let same = ap level_of (halt_overall (length scripts) lp h) in let l = s.no_better in omega (arith, same, l);
  }
    where
      by_test : (d : ℕ) (t : Bool) → (c == d) ≡ t → (phase (e ∷ p) d ≡ phase q d) ⊎ IsEnding aim scripts (e ∷ p) q d
      by_test d true k = subst (λ x. (phase (e ∷ p) x ≡ phase q x) ⊎ IsEnding aim scripts (e ∷ p) q x) (equal_if c d k) (inl (phase_here there))
      by_test d false k = phase_there d k

-- ---- q halts a component, whose run of p is leaving then

module _ {aim : Verdict} (scripts : List ScriptView) (p q : List Entry) (e : Entry) (c : ℕ) (run : Run) (lq : IsLegal (length scripts) (e ∷ q)) (keeps : KeepsQuiet (length scripts) q (e ∷ q)) (s : IsAhead aim scripts p q) (h : HaltsOne q e c)
    (runs : phase q c ≡ Phase.Running run) (on : comp_of q run.0 ≡ Some (record { 0 = c })) (not_main : (run.0 == 0) ≡ false) (ordinary : is_alive_type q c ≡ false) where
  pub halted : phase (e ∷ q) c ≡ Phase.Killed
  halted = halt_here (length scripts) lq h (on_existing (length scripts) q run.0 (record { 0 = c }) lq.1 on) ordinary run runs

  pub still_running : phase p c ≡ Phase.Running run
  still_running = grind (arith, common_steps)

  pub ahead_halted : IsLeaving aim scripts q run.0 (stand p run.0) → IsAhead aim scripts p (e ∷ q)
  ahead_halted leaving = record {
    comps_same = s.comps_same ∙ sym (halt_comps h);
    phases = λ d. by_place d (c == d) refl;
    kind_same = λ d. s.kind_same d ∙ sym (halt_kinds (length scripts) lq h d);
    comp_same = λ b. s.comp_same b ∙ sym (halt_runs h b);
    no_better = let same = ap level_of (halt_overall (length scripts) lq h) in let l = s.no_better in omega (arith, same, l);
  }
    where
      here : IsEnding aim scripts p (e ∷ q) c
      here = record {
        run = run;
        running = still_running;
        ended = halted;
        not_main = not_main;
        on = s.comp_same run.0 ∙ on;
        ordinary = s.kind_same c ∙ ordinary;
        leaving = leaving_later scripts q (e ∷ q) run.0 (stand p run.0) keeps leaving;
      }

      by_place : (d : ℕ) (t : Bool) → (c == d) ≡ t → (phase p d ≡ phase (e ∷ q) d) ⊎ IsEnding aim scripts p (e ∷ q) d
      by_place d true k = subst (λ x. (phase p x ≡ phase (e ∷ q) x) ⊎ IsEnding aim scripts p (e ∷ q) x) (equal_if c d k) (inr here)
      by_place d false k = phase_later scripts p q (e ∷ q) d (halt_elsewhere (length scripts) lq h d k) keeps (s.phases d)
