-- A case in which no run can continue: each that is running is parked, and the main component's Wake is an error.
use Rattle.std.proofs.lemmas.Grind.{common_steps}
use Rattle.std.proofs.{Common.{ℕ, ◌≡◌, ◌<◌, ◌≤◌, ◌+◌, ◌==◌, ◌⊎◌, inl, inr, if◌then◌else◌, Bool, true, false, Option, Some, None, List, ◌∷◌, length, slice_get, slice_index_or, refl, ap, sym, subst, ◌∙◌, arith, get_or}, lemmas.{Bool.false_from_ne_true, List.Sums.list_all-from_AllPass}}
use Rattle.tc_rules.{specs.Prelude.{Run, Comp, Entry, Op, Target, Phase, Reply, Fault, is_ended, is_fault, is_wake, Case, past_of, comps, comp_of, is_alive_type, is_over, phase, last_run, was_killed, was_halted, overall, holds, waiting, waits_in_vain, is_still, is_stuck, fault, answer, plain_answer, is_active, is_run_of, IsLegal, Verdict}, proofs.Lemmas.{Deciding.{equal_if, self_equal}, Going.last_on_it, Steps.phase_by, Decided.overall_more}}
use Rattle.tc_step.specs.Prelude.{ScriptView}
use Rattle.tc_course.{specs.{Inside.{call_of, one_more_if}, Prelude.{CourseState, stand, goes_on, carried_on, turn, steps_of, IsTurn, IsCourse, is_found, IsOn}}, proofs.Lemmas.{course_legal, other_not_idle, has_turn, turn_of, never_wake, stand_own, stand_comp, run_in_range, below_more}}
use Rattle.tc_explore.{specs.{Found.Covers, Inside.{Seen.{AreHeld, AreStill, HasNoWake, IsOpen, IsRunClosed, IsStepped, IsSteppedIfActive}, Simulation.{GoesOn, IsAlike, is_quiet}}, declared.search.Search.Search}, proofs.{Alike.{ChangesNothing, active_alike, alike_unchanged, fault_alike, gives_error, holds_alike}, Closing.{answer_fault, error_is_worst, fault_of_wait, not_ended, parks_wait, quiet_reply}, Keeping.{active_stays, comp_main, main_goes}, LastCalls.turn_by, Places.{not_ending, stand_still}, Simulation.{some_if, unchanged_wait}, Ahead.{answer_plain, active_if}}}

-- ---- who is held

parked_if : (r : Reply) → goes_on r ≡ false → is_ended r ≡ false → r ≡ Reply.Parked
parked_if Reply.Parked h k = refl
parked_if _ h k = absurd cc

-- the next call of run b is a Wait for what has not come
pub record IsWaitAt (scripts : List ScriptView) (q : List Entry) (b : ℕ) : Type 0 where
  pub killed : Bool
  pub target : Target
  pub turn : turn scripts q b ≡ Some (Op.Wait killed target)
  pub no_fault : fault (length scripts) q b (Op.Wait killed target) ≡ None
  pub unmet : holds q (record { killed = killed; target = target }) ≡ false

wait_if : (scripts : List ScriptView) (q : List Entry) (b : ℕ) → 1 ≤ length scripts → IsCourse scripts q → HasNoWake q → AreHeld scripts q → is_active q b ≡ true → IsWaitAt scripts q b
wait_if scripts q b some course no_wake held act = by_fault (fault (length scripts) q b op) refl
  where
    on : (c : Comp) × (comp_of q b ≡ Some c)
    on = some_if q b act

    op : Op
    op = call_of on.0 (stand q b).bound (slice_get (steps_of scripts b) (stand q b).called)

    calls : turn scripts q b ≡ Some op
    calls = turn_of scripts q b op (record { me = on.0; on = stand_comp scripts q b course ∙ on.1; stays = active_stays scripts q b course act; calls = rw (no_wake b) refl })

    plain : is_wake op ≡ false
    plain = never_wake on.0 (stand q b).bound (slice_get (steps_of scripts b) (stand q b).called)

    near : b < length scripts
    near = run_in_range (length scripts) q b on.0 some (course_legal scripts q course) on.1

    stays : goes_on (answer (length scripts) q b op) ≡ false
    stays = held b near (record { caller = record { 0 = b }; op = op; reply = answer (length scripts) q b op }) refl
        (record { turn = calls; reply = refl; not_idle = other_not_idle op (answer (length scripts) q b op) plain })

    parks : answer (length scripts) q b op ≡ Reply.Parked
    parks = parked_if (answer (length scripts) q b op) stays (not_ended (length scripts) q b op on.0 act on.1)

    by_wait : fault (length scripts) q b op ≡ None → (k : Bool) (t : Target) → op ≡ Op.Wait k t → plain_answer q b op ≡ Reply.Parked → IsWaitAt scripts q b
    by_wait none k t is waits = record {
      killed = k;
      target = t;
      turn = calls ∙ ap Some is;
      no_fault = ap (fault (length scripts) q b) (sym is) ∙ none;
      unmet = by_holds (holds q (record { killed = k; target = t })) (ap (plain_answer q b) (sym is) ∙ waits);
    }
      where
        by_holds : (s : Bool) → (if s then Reply.Matched else Reply.Parked) ≡ Reply.Parked → s ≡ false
        by_holds true h = absurd cc
        by_holds false h = refl

    by_quiet : fault (length scripts) q b op ≡ None → plain_answer q b op ≡ Reply.Parked → (s : Bool) → is_quiet (overall q) op ≡ s → IsWaitAt scripts q b
    by_quiet none waits true k =
        let goes : goes_on (plain_answer q b op) ≡ true = (quiet_reply (overall q) q b op on.0 on.1 k).0 in
        let off : goes_on (plain_answer q b op) ≡ false = ap goes_on waits in
        absurd cc
    by_quiet none waits false k =
        let w = parks_wait (overall q) q b op plain k waits in
        by_wait none w.0 w.1 w.2 waits

    by_fault : (o : Option Fault) → fault (length scripts) q b op ≡ o → IsWaitAt scripts q b
    by_fault None k = by_quiet k (sym (answer_plain (length scripts) q b op act k) ∙ parks) (is_quiet (overall q) op) refl
    by_fault (Some f) k = let no : Reply.Fault f ≡ Reply.Parked = sym (answer_fault (length scripts) q b op f act k) ∙ parks in absurd cc

-- ---- who is parked

-- in r, which is like q, run b waits for what has not come
pub record IsParkedIn (scripts : List ScriptView) (q r : List Entry) (b : ℕ) : Type 0 where
  pub killed : Bool
  pub target : Target
  pub wake : (stand r b).wake ≡ Some (Op.Wake killed target)
  pub stays : (stand r b).left ≡ false
  pub waits : waiting r b ≡ Some (record { killed = killed; target = target })
  pub no_fault : fault (length scripts) q b (Op.Wait killed target) ≡ None
  pub unmet : holds q (record { killed = killed; target = target }) ≡ false

-- k runs of t are parked in u, if they continue, and the others are as they did
pub record AreParked (scripts : List ScriptView) (t u : Case) (k : ℕ) : Type 0 where
  pub alike : IsAlike (past_of u) (past_of t)
  pub parked : (b : ℕ) → b < k → is_active (past_of t) b ≡ true → IsParkedIn scripts (past_of t) (past_of u) b
  pub later : (b : ℕ) → k ≤ b → stand (past_of u) b ≡ stand (past_of t) b
  pub main : carried_on (past_of u) 0 ≡ carried_on (past_of t) 0

pub parked_none : (scripts : List ScriptView) (t : Case) → AreParked scripts t t 0
parked_none scripts t = grind (arith, common_steps)

pub parked_skip : (scripts : List ScriptView) (t u : Case) (k : ℕ) → is_active (past_of u) k ≡ false → AreParked scripts t u k → AreParked scripts t u (k + 1)
parked_skip scripts t u k off h = record {
  alike = h.alike;
  parked = below_more (λ b. is_active (past_of t) b ≡ true → IsParkedIn scripts (past_of t) (past_of u) b) k h.parked (λ act. let on : is_active (past_of u) k ≡ true = active_alike h.alike k ∙ act in absurd cc);
  later = λ b less. h.later b (omega arith);
  main = h.main;
}

pub alike_then : (p q r : List Entry) → IsAlike p q → IsAlike q r → IsAlike p r
alike_then p q r a b = grind (arith, common_steps)

-- a call that does not continue is not carried out
not_carried : (own : Bool) (e : Entry) (k : ℕ) → goes_on e.reply ≡ false → one_more_if own e k ≡ k
not_carried true e k h = rw h refl
not_carried false e k h = refl

-- one run more makes its Wait
module _ (scripts : List ScriptView) (q r : List Entry) (e : Entry) (b : ℕ) (own : e.caller.0 ≡ b) (mine : IsTurn scripts r e) (cq : IsCourse scripts q) (cr : IsCourse scripts r)
    (act : is_active q b ≡ true) (a : IsAlike r q) (same : stand r b ≡ stand q b) (w : IsWaitAt scripts q b) where
  op_is : e.op ≡ Op.Wait w.killed w.target
  op_is =
      let was : turn scripts r e.caller.0 ≡ Some e.op = mine.turn in
      let is : turn scripts r e.caller.0 ≡ Some (Op.Wait w.killed w.target) = ap (turn scripts r) own ∙ (turn_by scripts r q b same ∙ w.turn) in
      let some : Some e.op ≡ Some (Op.Wait w.killed w.target) = sym was ∙ is in
      cc

  act_r : is_active r b ≡ true
  act_r = active_alike a b ∙ act

  parks : answer (length scripts) r b (Op.Wait w.killed w.target) ≡ Reply.Parked
  parks =
      answer_plain (length scripts) r b (Op.Wait w.killed w.target) act_r (fault_alike a (length scripts) b (Op.Wait w.killed w.target) ∙ w.no_fault)
      ∙ rw (holds_alike a (record { killed = w.killed; target = w.target }), w.unmet) refl

  reply_is : e.reply ≡ Reply.Parked
  reply_is = mine.reply ∙ (ap (λ x. answer (length scripts) r x e.op) own ∙ (ap (answer (length scripts) r b) op_is ∙ parks))

  uncounted : carried_on (e ∷ r) 0 ≡ carried_on r 0
  uncounted = not_carried (e.caller.0 == 0) e (carried_on r 0) (rw reply_is refl)

  unchanged : ChangesNothing r e
  unchanged =
      unchanged_wait r e (Op.Wake w.killed w.target) (record { killed = w.killed; target = w.target; waits = op_is; wakes = refl }) (rw reply_is refl)

  after : IsAlike (e ∷ r) q
  after = alike_then (e ∷ r) r q (alike_unchanged (length scripts) r e (course_legal scripts (e ∷ r) (mine, cr)) unchanged) a

  on : (c : Comp) × (comp_of r b ≡ Some c)
  on = some_if r b act_r

  here : comp_of r e.caller.0 ≡ Some on.0
  here = ap (comp_of r) own ∙ on.1

  now_parked : IsParkedIn scripts q (e ∷ r) b
  now_parked = record {
    killed = w.killed;
    target = w.target;
    wake = ap (λ (s : CourseState). s.wake) (stand_own r e b own) ∙ rw (op_is, reply_is) refl;
    stays =
        ap (λ (s : CourseState). s.left) (stand_own r e b own)
        ∙ rw (ap (λ (s : CourseState). s.left) same ∙ active_stays scripts q b cq act, not_ending r e (stand r b).comp on.0 unchanged (stand_comp scripts r b cr ∙ on.1) here (rw reply_is refl)) refl;
    waits = rw (own, self_equal b, op_is, reply_is) refl;
    no_fault = w.no_fault;
    unmet = w.unmet;
  }

  still_parked : (c : ℕ) → (e.caller.0 == c) ≡ false → is_active q c ≡ true → IsParkedIn scripts q r c → IsParkedIn scripts q (e ∷ r) c
  still_parked c other act_c p = grind (arith, common_steps)

unequal : (x y z : ℕ) → x ≡ y → (y ≡ z → ⊥) → (x == z) ≡ false
unequal x y z h k = false_from_ne_true (x == z) (λ j. k (sym h ∙ equal_if x z j))

parked_entry : (scripts : List ScriptView) (t u v : Case) (e : Entry) (k : ℕ) → past_of v ≡ e ∷ past_of u → e.caller.0 ≡ k → IsTurn scripts (past_of u) e → IsOpen scripts t → IsOn scripts u → is_active (past_of t) k ≡ true →
    AreParked scripts t u k → IsWaitAt scripts (past_of t) k → AreParked scripts t v (k + 1)
parked_entry scripts t u v e k is own mine o on act h w = record {
  alike = subst (λ x. IsAlike x q) (sym is) (after scripts q r e k own mine o.on.course on.course act h.alike same w);
  parked = subst (λ x. (b : ℕ) → b < k + 1 → is_active q b ≡ true → IsParkedIn scripts q x b) (sym is) (below_more (λ b. is_active q b ≡ true → IsParkedIn scripts q (e ∷ r) b) k
      (λ b near act_b. still_parked scripts q r e k own mine o.on.course on.course act h.alike same w b (unequal e.caller.0 k b own (λ x. omega (arith, x, near))) act_b (h.parked b near act_b))
      (λ act_k. now_parked scripts q r e k own mine o.on.course on.course act h.alike same w));
  later = λ b far. subst (λ x. stand x b ≡ stand q b) (sym is)
      (stand_still r e b (unequal e.caller.0 k b own (λ x. omega (arith, x, far))) ((unchanged scripts q r e k own mine o.on.course on.course act h.alike same w).no_run b) ∙ h.later b (omega (arith, far)));
  main = ap (λ x. carried_on x 0) is ∙ (uncounted scripts q r e k own mine o.on.course on.course act h.alike same w ∙ h.main);
}
  where
    q : List Entry
    q = past_of t

    r : List Entry
    r = past_of u

    same : stand r k ≡ stand q k
    same = h.later k (omega arith)

pub parked_more : (scripts : List ScriptView) (t u v : Case) (k : ℕ) → 1 ≤ length scripts → IsOpen scripts t → AreHeld scripts (past_of t) → IsOn scripts u → is_active (past_of u) k ≡ true → AreParked scripts t u k →
    IsStepped scripts (past_of u) (past_of v) k → AreParked scripts t v (k + 1)
parked_more scripts t u v k some o held on act h step = by_step step
  where
    q : List Entry
    q = past_of t

    r : List Entry
    r = past_of u

    act_q : is_active q k ≡ true
    act_q = sym (active_alike h.alike k) ∙ act

    w : IsWaitAt scripts q k
    w = wait_if scripts q k some o.on.course o.no_wake held act_q

    same : stand r k ≡ stand q k
    same = h.later k (omega arith)

    by_step : ((past_of v ≡ r) × ((e : Entry) → e.caller.0 ≡ k → IsTurn scripts r e → ⊥)) ⊎ ((e : Entry) × (past_of v ≡ e ∷ r) × (e.caller.0 ≡ k) × IsTurn scripts r e) → AreParked scripts t v (k + 1)
    by_step (inl s) =
        let reply = answer (length scripts) r k (Op.Wait w.killed w.target) in
        let waits : reply ≡ Reply.Parked =
        answer_plain (length scripts) r k (Op.Wait w.killed w.target) act (fault_alike h.alike (length scripts) k (Op.Wait w.killed w.target) ∙ w.no_fault)
        ∙ rw (holds_alike h.alike (record { killed = w.killed; target = w.target }), w.unmet) refl in
        absurd (s.1 (record { caller = record { 0 = k }; op = Op.Wait w.killed w.target; reply = reply }) refl (record { turn = turn_by scripts r q k same ∙ w.turn; reply = refl; not_idle = rw waits refl }))
    by_step (inr s) = parked_entry scripts t u v s.0 k s.1 s.2 s.3 o on act_q h w

-- one run more, whether it continues or not
pub parked_next : (scripts : List ScriptView) (t u v : Case) (k : ℕ) → 1 ≤ length scripts → IsOpen scripts t → AreHeld scripts (past_of t) → IsOn scripts u → AreParked scripts t u k →
    IsSteppedIfActive scripts (past_of u) (past_of v) k → AreParked scripts t v (k + 1)
parked_next scripts t u v k some o held is_on h (inl s) =
    let p = parked_skip scripts t u k s.1 h in
    record {
      alike = subst (λ x. IsAlike x (past_of t)) (sym s.0) p.alike;
      parked = λ b less act. subst (λ x. IsParkedIn scripts (past_of t) x b) (sym s.0) (p.parked b less act);
      later = λ b far. subst (λ x. stand x b ≡ stand (past_of t) b) (sym s.0) (p.later b far);
      main = ap (λ x. carried_on x 0) s.0 ∙ p.main;
    }
parked_next scripts t u v k some o held is_on h (inr s) = parked_more scripts t u v k some o held is_on s.0 h s.1

pub active_none : (scripts : List ScriptView) (t : Case) (b : ℕ) → is_active (past_of t) b ≡ false → IsSteppedIfActive scripts (past_of t) (past_of t) b
active_none scripts t b off = inl (refl, off)

pub active_one : (scripts : List ScriptView) (t u : Case) (b : ℕ) → is_active (past_of t) b ≡ true → IsStepped scripts (past_of t) (past_of u) b → IsSteppedIfActive scripts (past_of t) (past_of u) b
active_one scripts t u b on step = inr (on, step)

pub ruleset active_rules = (active_none, active_one)

-- ---- the end

running_by : (k : Bool) (last : Option Run) (h a : Bool) (r : Run) → phase_by k last h a ≡ Phase.Running r → last ≡ Some r
running_by false (Some b) false a r e = cc
running_by false (Some b) true true r e = absurd cc
running_by _ _ _ _ r e = absurd cc

pub phase_running : (past : List Entry) (c : ℕ) (r : Run) → phase past c ≡ Phase.Running r → last_run past c ≡ Some r
unfolding phase
phase_running past c r h = running_by (was_killed past c) (last_run past c) (was_halted past c) (is_alive_type past c) r h

stuck_if : (n : ℕ) (past : List Entry) → 1 ≤ n → IsLegal n past → ((b : ℕ) → b < n → is_active past b ≡ true → waits_in_vain past (waiting past b) ≡ true) → is_stuck past ≡ true
unfolding is_stuck
stuck_if n past some legal all = list_all-from_AllPass (λ c. is_still past (phase past c)) (comps past) (λ k d near. still_at (get_or (comps past) k d) (phase past (get_or (comps past) k d)) refl)
  where
    still_at : (c : ℕ) (p : Phase) → phase past c ≡ p → is_still past p ≡ true
    still_at c (Phase.Running r) k =
        let on = last_on_it n past c r (omega arith) legal (phase_running past c r k) in
        all r.0 on.1 (active_if past r.0 (record { 0 = c }) on.0 (ap (is_run_of r.0) k ∙ self_equal r.0))
    still_at c _ k = refl

-- after a Fault the case is over, with error
fault_ends : (n : ℕ) (q : List Entry) (e : Entry) (f : Fault) → IsLegal n (e ∷ q) → e.reply ≡ Reply.Fault f → (is_over (e ∷ q) ≡ true) × (overall (e ∷ q) ≡ Verdict.Error)
fault_ends n q e f legal is = (rw is refl, overall_more n q e legal ∙ rw (is, gives_error e.op f) (error_is_worst (overall q)))

-- the case is over, with error, and its main run has carried out one call more
pub record IsStuckEnd (t v : Case) : Type 0 where
  pub over : is_over (past_of v) ≡ true
  pub error : overall (past_of v) ≡ Verdict.Error
  pub main : carried_on (past_of v) 0 ≡ carried_on (past_of t) 0 + 1

pub stuck_end : (scripts : List ScriptView) (t u v : Case) (n : ℕ) → 1 ≤ length scripts → length scripts ≤ n → IsOpen scripts t → IsOn scripts u → AreParked scripts t u n → IsStepped scripts (past_of u) (past_of v) 0 →
    IsStuckEnd t v
stuck_end scripts t u v n some whole o on h step = by_step step
  where
    q : List Entry
    q = past_of t

    r : List Entry
    r = past_of u

    main_q : is_active q 0 ≡ true
    main_q = main_goes scripts q o.on.course o.going

    main : is_active r 0 ≡ true
    main = active_alike h.alike 0 ∙ main_q

    p : IsParkedIn scripts q r 0
    p = h.parked 0 (omega (arith, some, whole)) main_q

    calls : turn scripts r 0 ≡ Some (Op.Wake p.killed p.target)
    calls = turn_of scripts r 0 (Op.Wake p.killed p.target) (record { me = record { 0 = 0 }; on = stand_comp scripts r 0 on.course ∙ comp_main r; stays = p.stays; calls = rw p.wake refl })

    stuck : is_stuck r ≡ true
    stuck = stuck_if (length scripts) r some (course_legal scripts r on.course) (λ b near act.
        let w = h.parked b (omega arith) (sym (active_alike h.alike b) ∙ act) in
        rw (w.waits, holds_alike h.alike (record { killed = w.killed; target = w.target }), w.unmet) refl)

    no_fault : fault (length scripts) r 0 (Op.Wake p.killed p.target) ≡ None
    no_fault = fault_alike h.alike (length scripts) 0 (Op.Wake p.killed p.target) ∙ (sym (fault_of_wait (length scripts) q 0 p.killed p.target) ∙ p.no_fault)

    error : answer (length scripts) r 0 (Op.Wake p.killed p.target) ≡ Reply.Fault Fault.Stuck
    error =
        answer_plain (length scripts) r 0 (Op.Wake p.killed p.target) main no_fault
        ∙ rw (holds_alike h.alike (record { killed = p.killed; target = p.target }), p.unmet, stuck) refl

    stuck_entry : (e : Entry) → past_of v ≡ e ∷ r → e.caller.0 ≡ 0 → IsTurn scripts r e → IsStuckEnd t v
    stuck_entry e is own mine =
        let was : turn scripts r e.caller.0 ≡ Some e.op = mine.turn in
        let now : turn scripts r e.caller.0 ≡ Some (Op.Wake p.killed p.target) = ap (turn scripts r) own ∙ calls in
        let some_op : Some e.op ≡ Some (Op.Wake p.killed p.target) = sym was ∙ now in
        let op_is : e.op ≡ Op.Wake p.killed p.target = cc in
        let reply_is : e.reply ≡ Reply.Fault Fault.Stuck = mine.reply ∙ (ap (λ x. answer (length scripts) r x e.op) own ∙ (ap (answer (length scripts) r 0) op_is ∙ error)) in
        let ends = fault_ends (length scripts) r e Fault.Stuck (course_legal scripts (e ∷ r) (mine, on.course)) reply_is in
        record { over = ap is_over is ∙ ends.0; error = ap overall is ∙ ends.1; main = ap (λ x. carried_on x 0) is ∙ (rw (own, reply_is) refl ∙ ap (λ k. k + 1) h.main) }

    by_step : ((past_of v ≡ r) × ((e : Entry) → e.caller.0 ≡ 0 → IsTurn scripts r e → ⊥)) ⊎ ((e : Entry) × (past_of v ≡ e ∷ r) × (e.caller.0 ≡ 0) × IsTurn scripts r e) → IsStuckEnd t v
    by_step (inl s) =
        let reply = answer (length scripts) r 0 (Op.Wake p.killed p.target) in
        absurd (s.1 (record { caller = record { 0 = 0 }; op = Op.Wake p.killed p.target; reply = reply }) refl (record { turn = calls; reply = refl; not_idle = rw error refl }))
    by_step (inr s) = stuck_entry s.0 s.1 s.2 s.3

-- ---- if none continues, and no error is found

pub held_if : (s : Search) (q : List Entry) → IsCourse s.met.scripts.now q → AreStill s.met.scripts.now q (length s.met.scripts.now) →
    ((b : ℕ) → b < length s.met.scripts.now → IsRunClosed s q b) → is_found s.found.witnesses.items Verdict.Error ≡ false → AreHeld s.met.scripts.now q
held_if s q course still closed none b near e own mine = false_from_ne_true (goes_on e.reply) (λ k. by_reply k e.reply refl (still b near e own mine k))
  where
    by_reply : goes_on e.reply ≡ true → (r : Reply) → e.reply ≡ r → is_fault r ≡ true → ⊥
    by_reply k (Reply.Fault f) is h =
        let ends = fault_ends (length s.met.scripts.now) q e f (course_legal s.met.scripts.now (e ∷ q) (mine, course)) is in
        let told : is_found s.found.witnesses.items Verdict.Error ≡ true = ap (is_found s.found.witnesses.items) (sym ends.1) ∙ (closed b near e own mine k).over ends.0 in
        absurd cc
    by_reply k _ is h = absurd cc

-- a run that continues is not held
pub never_held : (scripts : List ScriptView) (q : List Entry) → 1 ≤ length scripts → IsCourse scripts q → GoesOn scripts q → AreHeld scripts q → ⊥
never_held scripts q some course goes held =
    let e = goes.entry in
    let t = has_turn scripts q e.caller.0 e.op goes.turn.turn in
    let near : e.caller.0 < length scripts = run_in_range (length scripts) q e.caller.0 t.me some (course_legal scripts q course) (sym (stand_comp scripts q e.caller.0 course) ∙ t.on) in
    let off : goes_on e.reply ≡ false = held e.caller.0 near e refl goes.turn in
    let on : goes_on e.reply ≡ true = goes.on in
    absurd cc

-- more calls of the main run are counted than it carries out in a course that one more continues
pub reached_main : (scripts : List ScriptView) (reached : List ℕ) (q r : List Entry) → 1 ≤ length scripts → length reached ≡ length scripts → carried_on r 0 ≡ carried_on q 0 + 1 → Covers reached r → carried_on q 0 < slice_index_or reached 0 0
reached_main scripts reached q r some as_many one covers = grind (arith, common_steps)
