-- Courses of which the same is known, local verdicts and waits included, are so after the next call of either.
use Rattle.std.proofs.lemmas.Grind.{common_steps}
use Rattle.std.{proofs.Common.{ℕ, ◌≡◌, ◌==◌, ◌≤◌, ◌⊎◌, inl, inr, not, if◌then◌else◌, Bool, true, false, Option, Some, None, List, [], ◌∷◌, length, refl, ap, sym, subst, ◌∙◌, arith}, specs.List.list_all}
use Rattle.tc_rules.{specs.{Prelude.{Run, Verdict, Comp, Entry, Op, Phase, Fault, Reply, comps, comp_of, created, started_on, first_some, add_new, ends_case, ends_pass, is_over, phase, local_if_any, overall, gives, awaited, parks, waiting, waits_in_vain, is_still, is_stuck, fault, answer, plain_answer, local_reply, is_active, is_run_of, IsLegal}, declared.awaited.Awaited.Awaited}, proofs.Lemmas.{Deciding.{and_left, equal_if, gives_nothing, self_equal}, Going.{halted_by_entry, last_on_it}}}
use Rattle.tc_step.specs.Prelude.{ScriptView}
use Rattle.tc_course.{specs.{Prelude.{CourseState, stand, next, after_own, turn, IsTurn, IsCourse}, Inside.{ends, wake_if}}, proofs.Lemmas.{course_legal, stand_own, stand_other, stand_comp, stand_unstarted}}
use Rattle.tc_explore.{specs.Inside.{Simulation.{IsAlike, is_quiet}, Twins.IsTwin}, proofs.{Alike.{active_alike, alike_sym, alike_unchanged, components_same, exists_same, fault_alike, holds_alike, local_next, phase_next, all_same}, Closing.{answer_fault, answer_inactive}, LastCalls.{local_kept, turn_by}, Parking.{alike_then, phase_running}, Simulation.{some_if, unchanged_ended, unchanged_quiet}, Ahead.{answer_plain, active_if}, Places.wake_after}}

-- ---- the relation

pub twin_then : (p q r : List Entry) → IsTwin p q → IsTwin q r → IsTwin p r
twin_then p q r s t = record {
  alike = alike_then p q r s.alike t.alike;
  locals = λ c. s.locals c ∙ t.locals c;
  stands = λ b act. s.stands b act ∙ t.stands b (sym (active_alike s.alike b) ∙ act);
}

pub locals_twin : (p q : List Entry) → IsTwin p q → (c : ℕ) → local_if_any p c ≡ local_if_any q c
unfolding local_if_any
locals_twin p q t c = rw (exists_same t.alike c, t.locals c) refl

-- ---- waits

abbrev awaited_by : Option Op → Option Awaited
awaited_by None = None
awaited_by (Some op) = awaited op

parks_by : (r : Reply) (op : Op) → parks op r ≡ awaited_by (wake_if op r)
parks_by Reply.Parked (Op.Wait k t) = refl
parks_by Reply.Parked _ = refl
parks_by _ op = refl

-- what a run waits for is the Wake to come
waiting_is : (past : List Entry) (b : ℕ) → waiting past b ≡ awaited_by (stand past b).wake
waiting_is [] b = refl
waiting_is (e ∷ past) b = by_test (e.caller.0 == b) (waiting_is past b) ∙ ap awaited_by (sym (wake_after past e b))
  where
    by_test : (t : Bool) → waiting past b ≡ awaited_by (stand past b).wake → (if t then parks e.op e.reply else waiting past b) ≡ awaited_by (if t then wake_if e.op e.reply else (stand past b).wake)
    by_test true before = parks_by e.reply e.op
    by_test false before = before

module _ (scripts : List ScriptView) (q p : List Entry) (some : 1 ≤ length scripts) (cq : IsCourse scripts q) (t : IsTwin q p) where
  vain_twin : (b : ℕ) → is_active q b ≡ true → waits_in_vain q (waiting q b) ≡ waits_in_vain p (waiting p b)
  vain_twin b act = by_wait (waiting q b) (waiting p b) (waiting_is q b ∙ (ap (λ (s : CourseState). awaited_by s.wake) (t.stands b act) ∙ sym (waiting_is p b)))
    where
      by_wait : (v w : Option Awaited) → v ≡ w → waits_in_vain q v ≡ waits_in_vain p w
      by_wait None w h = ap (waits_in_vain p) h
      by_wait (Some a) w h = ap not (holds_alike t.alike a) ∙ ap (waits_in_vain p) h

  still_twin : (c : ℕ) (ph : Phase) → phase q c ≡ ph → is_still q ph ≡ is_still p ph
  still_twin c (Phase.Running r) k =
      let on = last_on_it (length scripts) q c r (omega arith) (course_legal scripts q cq) (phase_running q c r k) in
      vain_twin r.0 (active_if q r.0 (record { 0 = c }) on.0 (ap (is_run_of r.0) k ∙ self_equal r.0))
  still_twin c _ k = refl

  stuck_twin : is_stuck q ≡ is_stuck p
  unfolding is_stuck
  stuck_twin =
      all_same (λ c. is_still q (phase q c)) (λ c. is_still p (phase p c)) (comps q) (λ c. still_twin c (phase q c) refl ∙ ap (is_still p) (t.alike.phase_same c))
      ∙ ap (list_all (λ c. is_still p (phase p c))) t.alike.comps_same

-- ---- replies

-- the call asks for the status of components
abbrev is_question : Op → Bool
is_question (Op.Running t) = true
is_question (Op.Alive t) = true
is_question (Op.Done t) = true
is_question (Op.Killed t) = true
is_question op = false

-- the replies are the same, or both answer a question
abbrev AreReplies : Op → Reply → Reply → Type 0
AreReplies op r s = (r ≡ s) ⊎ ((is_question op ≡ true) × (x : Bool) × (y : Bool) × (r ≡ Reply.Answer x) × (s ≡ Reply.Answer y))

module _ (scripts : List ScriptView) (q p : List Entry) (some : 1 ≤ length scripts) (cq : IsCourse scripts q) (t : IsTwin q p) where
  local_reply_twin : (b : ℕ) → local_reply q (comp_of q b) ≡ local_reply p (comp_of p b)
  local_reply_twin b = grind (arith, common_steps)

  plain_twin : (b : ℕ) (op : Op) → AreReplies op (plain_answer q b op) (plain_answer p b op)
  plain_twin b (Op.Create alive name) = inl (rw (components_same t.alike) refl)
  plain_twin b (Op.Running x) = inr (refl, _, _, refl, refl)
  plain_twin b (Op.Alive x) = inr (refl, _, _, refl, refl)
  plain_twin b (Op.Done x) = inr (refl, _, _, refl, refl)
  plain_twin b (Op.Killed x) = inr (refl, _, _, refl, refl)
  plain_twin b (Op.Wait k x) = inl (rw (holds_alike t.alike (record { killed = k; target = x })) refl)
  plain_twin b (Op.Wake k x) = inl (rw (holds_alike t.alike (record { killed = k; target = x }), stuck_twin scripts q p some cq t) refl)
  plain_twin b Op.GetVerdict = inl (local_reply_twin b)
  plain_twin b _ = inl refl

  reply_twin : (b : ℕ) (op : Op) → is_active q b ≡ true → AreReplies op (answer (length scripts) q b op) (answer (length scripts) p b op)
  reply_twin b op act = by_fault (fault (length scripts) q b op) refl
    where
      on : is_active p b ≡ true
      on = sym (active_alike t.alike b) ∙ act

      by_fault : (o : Option Fault) → fault (length scripts) q b op ≡ o → AreReplies op (answer (length scripts) q b op) (answer (length scripts) p b op)
      by_fault (Some f) k =
          inl (answer_fault (length scripts) q b op f act k ∙ sym (answer_fault (length scripts) p b op f on (sym (fault_alike t.alike (length scripts) b op) ∙ k)))
      by_fault None k =
          let one = answer_plain (length scripts) q b op act k in
          let other = answer_plain (length scripts) p b op on (sym (fault_alike t.alike (length scripts) b op) ∙ k) in
          rw (one, other) (plain_twin b op)

-- ---- the same entry after both

module _ (n : ℕ) (q p : List Entry) (e : Entry) (lq : IsLegal n (e ∷ q)) (lp : IsLegal n (e ∷ p)) (a : IsAlike q p) where
  alike_both : IsAlike (e ∷ q) (e ∷ p)
  alike_both = record {
    comps_same = ap (add_new (created e.op e.reply)) a.comps_same;
    phase_same = λ c. phase_next n q e c lq ∙ (rw (exists_same a c, a.comp_same e.caller.0, a.kind_same c, a.phase_same c) refl ∙ sym (phase_next n p e c lp));
    kind_same = λ c. rw (exists_same a c, a.kind_same c) refl;
    comp_same = λ b. ap (λ o. first_some o (started_on e b)) (a.comp_same b);
  }

-- of a run that continues after one more entry the same was known, or it was not started
known_before : (scripts : List ScriptView) (q p : List Entry) (e : Entry) (b : ℕ) → IsCourse scripts (e ∷ q) → IsCourse scripts p → IsTwin q p → is_active (e ∷ q) b ≡ true → stand q b ≡ stand p b
known_before scripts q p e b cq cp t act = by_comp (comp_of q b) refl
  where
    by_comp : (o : Option Comp) → comp_of q b ≡ o → stand q b ≡ stand p b
    by_comp None none = stand_unstarted scripts q b cq.1 none ∙ sym (stand_unstarted scripts p b cp (sym (t.alike.comp_same b) ∙ none))
    by_comp (Some c) on = t.stands b (and_left (is_active q b) _ (sym (halted_by_entry (length scripts) q e b c (course_legal scripts (e ∷ q) cq) on) ∙ act))

pub twin_both : (scripts : List ScriptView) (q p : List Entry) (e : Entry) → IsCourse scripts (e ∷ q) → IsCourse scripts (e ∷ p) → IsTwin q p → IsTwin (e ∷ q) (e ∷ p)
twin_both scripts q p e cq cp t = record {
  alike = alike_both (length scripts) q p e (course_legal scripts (e ∷ q) cq) (course_legal scripts (e ∷ p) cp) t.alike;
  locals = λ c. local_next q e c ∙ (rw (t.alike.comp_same e.caller.0, t.locals c) refl ∙ sym (local_next p e c));
  stands = λ b act. ap (next e b) (known_before scripts q p e b cq cp.1 t act);
}

-- ---- an entry that changes nothing but its caller's place

-- a call that is replied Ended
pub twin_ended : (scripts : List ScriptView) (q p : List Entry) (e : Entry) → IsCourse scripts (e ∷ p) → is_active p e.caller.0 ≡ false → IsTwin q p → IsTwin q (e ∷ p)
twin_ended scripts q p e cp off t = record {
  alike = alike_then q p (e ∷ p) t.alike (alike_sym (e ∷ p) p after);
  locals = λ c. t.locals c ∙ sym (local_kept p e c (ap (gives e.op) r ∙ gives_nothing e.op Reply.Ended refl refl));
  stands = λ b act. by_caller b act (e.caller.0 == b) refl;
}
  where
    r : e.reply ≡ Reply.Ended
    r = cp.0.reply ∙ answer_inactive (length scripts) p e.caller.0 e.op off

    after : IsAlike (e ∷ p) p
    after = alike_unchanged (length scripts) p e (course_legal scripts (e ∷ p) cp) (unchanged_ended p e r)

    by_caller : (b : ℕ) → is_active q b ≡ true → (s : Bool) → (e.caller.0 == b) ≡ s → stand q b ≡ stand (e ∷ p) b
    by_caller b act true k =
        let on : is_active p e.caller.0 ≡ true = ap (is_active p) (equal_if e.caller.0 b k) ∙ (sym (active_alike t.alike b) ∙ act) in
        absurd cc
    by_caller b act false k =
        let on = some_if p b (sym (active_alike t.alike b) ∙ act) in
        t.stands b act ∙ sym (stand_other p e b on.0 k (stand_comp scripts p b cp.1 ∙ on.1))

question_quiet : (w : Verdict) (op : Op) → is_question op ≡ true → is_quiet w op ≡ true
question_quiet w (Op.Running t) h = refl
question_quiet w _ h = cc

gives_answer : (op : Op) (x : Bool) → gives op (Reply.Answer x) ≡ []
gives_answer op x = gives_nothing op (Reply.Answer x) refl refl

abbrev entry_of : Run → Op → Reply → Entry
entry_of caller op reply = record { caller = caller; op = op; reply = reply }

-- what an answered question leaves of its caller
asked_ends : (caller : Run) (op : Op) (x y : Bool) (o : Option Comp) → is_question op ≡ true → ends o (entry_of caller op (Reply.Answer x)) ≡ ends o (entry_of caller op (Reply.Answer y))
unfolding ends_pass
asked_ends caller op x y None h = refl
asked_ends caller op x y (Some own) h = refl

asked_own : (caller : Run) (op : Op) (x y : Bool) (s : CourseState) → is_question op ≡ true → after_own (entry_of caller op (Reply.Answer x)) s ≡ after_own (entry_of caller op (Reply.Answer y)) s
asked_own caller (Op.Running t) x y s h = rw (asked_ends caller (Op.Running t) x y s.comp h) refl
asked_own caller op x y s h = rw (asked_ends caller op x y s.comp h) refl

asked_no_case : (caller : Run) (op : Op) (x : Bool) → is_question op ≡ true → ends_case (entry_of caller op (Reply.Answer x)) ≡ false
asked_no_case caller (Op.Running t) x h = refl
asked_no_case caller _ x h = cc

asked : (scripts : List ScriptView) (q p : List Entry) (caller : Run) (op : Op) (x y : Bool) → IsCourse scripts (entry_of caller op (Reply.Answer x) ∷ q) → IsCourse scripts (entry_of caller op (Reply.Answer y) ∷ p) → is_question op ≡ true →
    IsTwin q p → IsTwin (entry_of caller op (Reply.Answer x) ∷ q) (entry_of caller op (Reply.Answer y) ∷ p)
asked scripts q p caller op x y cq cp question t = record {
  alike = alike_then (d ∷ q) q (e ∷ p) after_q (alike_then q p (e ∷ p) t.alike (alike_sym (e ∷ p) p after_p));
  locals = λ c. local_kept q d c (gives_answer op x) ∙ (t.locals c ∙ sym (local_kept p e c (gives_answer op y)));
  stands = λ b act. by_caller b (sym (active_alike after_q b) ∙ act) (caller.0 == b) refl;
}
  where
    d : Entry
    d = entry_of caller op (Reply.Answer x)

    e : Entry
    e = entry_of caller op (Reply.Answer y)

    after_q : IsAlike (d ∷ q) q
    after_q = alike_unchanged (length scripts) q d (course_legal scripts (d ∷ q) cq) (unchanged_quiet (overall q) q d (question_quiet (overall q) op question) refl)

    after_p : IsAlike (e ∷ p) p
    after_p = alike_unchanged (length scripts) p e (course_legal scripts (e ∷ p) cp) (unchanged_quiet (overall p) p e (question_quiet (overall p) op question) refl)

    by_caller : (b : ℕ) → is_active q b ≡ true → (s : Bool) → (caller.0 == b) ≡ s → stand (d ∷ q) b ≡ stand (e ∷ p) b
    by_caller b act true k =
        stand_own q d b (equal_if caller.0 b k)
        ∙ (asked_own caller op x y (stand q b) question
        ∙ (ap (after_own e) (t.stands b act) ∙ sym (stand_own p e b (equal_if caller.0 b k))))
    by_caller b act false k =
        let on = some_if q b act in
        let in_p = some_if p b (sym (active_alike t.alike b) ∙ act) in
        stand_other q d b on.0 k (stand_comp scripts q b cq.1 ∙ on.1)
        ∙ (t.stands b act ∙ sym (stand_other p e b in_p.0 k (stand_comp scripts p b cp.1 ∙ in_p.1)))

-- ---- the next call of both

-- what q calls next if p makes this call
pub record IsMatched (scripts : List ScriptView) (q p : List Entry) (e : Entry) : Type 0 where
  pub entry : Entry
  pub own : entry.caller.0 ≡ e.caller.0
  pub turn : IsTurn scripts q entry
  pub over : is_over (entry ∷ q) ≡ is_over (e ∷ p)
  pub twin : IsTwin (entry ∷ q) (e ∷ p)

pub matched : (scripts : List ScriptView) (q p : List Entry) (e : Entry) → 1 ≤ length scripts → IsCourse scripts q → IsCourse scripts (e ∷ p) → IsTwin q p → is_over q ≡ is_over p → is_active q e.caller.0 ≡ true →
    IsMatched scripts q p e
matched scripts q p e some cq cp t over act = by_reply (reply_twin scripts q p some cq t e.caller.0 e.op act)
  where
    turns : turn scripts q e.caller.0 ≡ Some e.op
    turns = turn_by scripts q p e.caller.0 (t.stands e.caller.0 act) ∙ cp.0.turn

    by_reply : AreReplies e.op (answer (length scripts) q e.caller.0 e.op) (answer (length scripts) p e.caller.0 e.op) → IsMatched scripts q p e
    by_reply (inl same) =
        let mine : IsTurn scripts q e = record { turn = turns; reply = cp.0.reply ∙ sym same; not_idle = cp.0.not_idle } in
        record { entry = e; own = refl; turn = mine; over = rw over refl; twin = twin_both scripts q p e (mine, cq) cp t }
    by_reply (inr h) =
        let d : Entry = entry_of e.caller e.op (Reply.Answer h.1) in
        let mine : IsTurn scripts q d = record { turn = turns; reply = sym h.3; not_idle = refl } in
        let is : entry_of e.caller e.op (Reply.Answer h.2) ≡ e = ap (entry_of e.caller e.op) (sym (cp.0.reply ∙ h.4)) in
        let other : IsCourse scripts (entry_of e.caller e.op (Reply.Answer h.2) ∷ p) = subst (λ x. IsCourse scripts (x ∷ p)) (sym is) cp in
        let ends_d : ends_case d ≡ false = asked_no_case e.caller e.op h.1 h.0 in
        let ends_e : ends_case e ≡ false = ap ends_case (sym is) ∙ asked_no_case e.caller e.op h.2 h.0 in
        record {
          entry = d;
          own = refl;
          turn = mine;
          over = rw (ends_d, ends_e) over;
          twin = subst (λ x. IsTwin (d ∷ q) (x ∷ p)) is (asked scripts q p e.caller e.op h.1 h.2 (mine, cq) other h.0 t);
        }
