-- A history that represents another still does after one more turn of either.
use Rattle.std.proofs.lemmas.Grind.{common_steps}
use Rattle.std.proofs.{Common.{ℕ, ◌≡◌, ◌==◌, ◌⊎◌, not, Bool, true, false, Option, Some, None, List, ◌∷◌, length, refl, ap, sym, subst, ◌∙◌, arith, ◌≤◌, ⊎_elim, inl, inr, ◌<◌}, lemmas.Bool.Decides.nat_tests}
use Rattle.tc_rules.{specs.{Prelude.{Verdict, worse, level_of, given, Comp, Entry, Op, Reply, is_fault, is_ok, comp_of, created, starts_run, started_on, phase, start_in, overall, gives, is_active, plain_answer, halting_op, IsLegal, Phase}, Inside.Step.next_local}, proofs.Lemmas.{Deciding.{and_left, equal_if, gives_if, gives_nothing, if_same, ok_is}, Going.{halted_by_entry}, Kept.inactive, Decided.overall_more}}
use Rattle.tc_step.specs.Prelude.{ScriptView}
use Rattle.tc_course.{specs.Prelude.{CourseState, stand, IsCourse}, proofs.Lemmas.{course_legal, stand_other, stand_comp}}
use Rattle.tc_verdict.proofs.Lemmas.Order.{worse_right}
use Rattle.tc_explore.{specs.Inside.Simulation.{IsAlike, is_quiet, IsWakeOf, IsFollowed, IsLeaving, IsEnding, IsAhead, IsFor, AreOrdered}, proofs.{Ahead.{KeepsQuiet, ahead_after, ahead_turn}, Alike.{ChangesNothing, active_alike, alike_sym, alike_unchanged, fault_alike, late_alike, met_alike, overall_grows, worse_most}, Ordered.{order_alike, order_both, order_stays}, Places.keeps_quiet}}

-- ---- entries that change nothing

-- the operation makes, starts, halts and kills nothing
abbrev pub is_passive : Op → Bool
is_passive (Op.Create alive name) = false
is_passive (Op.Start c run args) = false
is_passive op = not (halting_op op)

made_never : (op : Op) (r : Reply) → is_passive op ≡ true → created op r ≡ None
made_never (Op.Create alive name) r h = absurd cc
made_never _ r h = refl

made_by_ended : (op : Op) → created op Reply.Ended ≡ None
made_by_ended (Op.Create alive name) = refl
made_by_ended _ = refl

passive_never_halts : (op : Op) → is_passive op ≡ true → halting_op op ≡ false
passive_never_halts (Op.Stop g) h = absurd cc
passive_never_halts _ h = cc

starts_none : (op : Op) (b : ℕ) → is_passive op ≡ true → starts_run op b ≡ None
starts_none (Op.Start c run args) b h = absurd cc
starts_none _ b h = refl

starts_in_none : (e : Entry) (op : Op) (c : ℕ) → is_passive op ≡ true → start_in (record e { op = op }) c ≡ None
starts_in_none e (Op.Start d run args) c h = absurd cc
starts_in_none e _ c h = if_same (is_ok e.reply) None

pub unchanged_passive : (past : List Entry) (e : Entry) → is_passive e.op ≡ true → is_fault e.reply ≡ false → ChangesNothing past e
unchanged_passive past e passive plain = grind (arith, common_steps)

pub unchanged_ended : (past : List Entry) (e : Entry) → e.reply ≡ Reply.Ended → ChangesNothing past e
unchanged_ended past e r = grind (arith, common_steps)

pub ended_kept : (n : ℕ) (past : List Entry) (e : Entry) → IsLegal n (e ∷ past) → e.reply ≡ Reply.Ended → overall (e ∷ past) ≡ overall past
ended_kept n past e legal r = overall_more n past e legal ∙ rw (r, gives_nothing e.op Reply.Ended refl refl) refl

-- a quiet call makes the verdict no worse than this one
set_within : (w : Verdict) (op : Op) (x : Verdict) → is_quiet w op ≡ true → level_of x ≤ level_of w → level_of (next_local (gives op Reply.Ok) x) ≤ level_of w
set_within w (Op.SetVerdict v) x h l = let m : level_of (given v) ≤ level_of w = grind (arith, nat_tests) in worse_most x (given v) (level_of w) l m
set_within w Op.StopCase x h l = absurd cc
set_within w _ x h l = l

gift_within : (w : Verdict) (op : Op) (r : Reply) (x : Verdict) → is_fault r ≡ false → is_quiet w op ≡ true → level_of x ≤ level_of w → level_of (next_local (gives op r) x) ≤ level_of w
gift_within w op r x f h l = by_test (is_ok r) refl
  where
    by_test : (t : Bool) → is_ok r ≡ t → level_of (next_local (gives op r) x) ≤ level_of w
    by_test true o = rw (ok_is r o) (set_within w op x h l)
    by_test false o = rw (gives_nothing op r o f) l

pub quiet_within : (w : Verdict) (n : ℕ) (past : List Entry) (e : Entry) → IsLegal n (e ∷ past) → is_quiet w e.op ≡ true → is_fault e.reply ≡ false → level_of (overall past) ≤ level_of w →
    level_of (overall (e ∷ past)) ≤ level_of w
quiet_within w n past e legal quiet plain l = rw (overall_more n past e legal) (gift_within w e.op e.reply (overall past) plain quiet l)

made_by : (w x y : Verdict) (past : List Entry) (b : ℕ) (op : Op) (r : Reply) → is_quiet w op ≡ true → r ≡ plain_answer past b op → y ≡ next_local (gives op r) x → is_quiet y op ≡ true
made_by w x y past b (Op.SetVerdict v) r h is k =
    let m : y ≡ worse x (given v) = k ∙ rw is refl in
    let l : level_of (given v) ≤ level_of y = subst (λ z. level_of (given v) ≤ level_of z) (sym m) (worse_right x (given v)) in
    grind (arith, nat_tests)
made_by w x y past b _ r h is k = h

-- once it is made it sets no worse verdict
pub quiet_made : (w : Verdict) (n : ℕ) (past : List Entry) (b : ℕ) (e : Entry) → IsLegal n (e ∷ past) → is_quiet w e.op ≡ true → e.reply ≡ plain_answer past b e.op → is_quiet (overall (e ∷ past)) e.op ≡ true
quiet_made w n past b e legal quiet is = made_by w (overall past) (overall (e ∷ past)) past b e.op e.reply quiet is (overall_more n past e legal)

quiet_passive : (w : Verdict) (op : Op) → is_quiet w op ≡ true → is_passive op ≡ true
quiet_passive w (Op.SetVerdict v) h = refl
quiet_passive w _ h = cc

pub unchanged_quiet : (w : Verdict) (past : List Entry) (e : Entry) → is_quiet w e.op ≡ true → is_fault e.reply ≡ false → ChangesNothing past e
unchanged_quiet w past e quiet plain = unchanged_passive past e (quiet_passive w e.op quiet) plain

waits_gain : (w : Verdict) (op wake : Op) (r : Reply) → IsWakeOf op wake → is_fault r ≡ false → (next_local (gives op r) w ≡ w) × (next_local (gives wake r) w ≡ w)
waits_gain w op wake r h f = rw (gives_if op r f (rw h.waits refl), gives_if wake r f (rw h.wakes refl)) (refl, refl)

waits_passive : (op wake : Op) → IsWakeOf op wake → (is_passive op ≡ true) × (is_passive wake ≡ true)
waits_passive op wake h = rw (h.waits, h.wakes) (refl, refl)

pub unchanged_wait : (past : List Entry) (e : Entry) (wake : Op) → IsWakeOf e.op wake → is_fault e.reply ≡ false → ChangesNothing past e
unchanged_wait past e wake h plain = unchanged_passive past e (waits_passive e.op wake h).0 plain

pub wait_kept : (n : ℕ) (past : List Entry) (e : Entry) (wake : Op) → IsLegal n (e ∷ past) → IsWakeOf e.op wake → is_fault e.reply ≡ false → overall (e ∷ past) ≡ overall past
wait_kept n past e wake legal h plain = overall_more n past e legal ∙ (waits_gain (overall past) e.op wake e.reply h plain).0

pub unchanged_wake : (past : List Entry) (e : Entry) (wait : Op) → IsWakeOf wait e.op → is_fault e.reply ≡ false → ChangesNothing past e
unchanged_wake past e wait h plain = unchanged_passive past e (waits_passive wait e.op h).1 plain

pub wake_kept : (n : ℕ) (past : List Entry) (e : Entry) (wait : Op) → IsLegal n (e ∷ past) → IsWakeOf wait e.op → is_fault e.reply ≡ false → overall (e ∷ past) ≡ overall past
wake_kept n past e wait legal h plain = overall_more n past e legal ∙ (waits_gain (overall past) wait e.op e.reply h plain).1

-- ---- the other runs

pub some_if : (past : List Entry) (b : ℕ) → is_active past b ≡ true → (c : Comp) × (comp_of past b ≡ Some c)
some_if past b act = by_comp (comp_of past b) refl
  where
    by_comp : (o : Option Comp) → comp_of past b ≡ o → (c : Comp) × (comp_of past b ≡ Some c)
    by_comp (Some c) k = (c, k)
    by_comp None k = let off = inactive past b k in absurd cc

pub followed_later : (scripts : List ScriptView) (q r : List Entry) (b : ℕ) (s t : CourseState) → KeepsQuiet (length scripts) q r → IsFollowed scripts q b s t → IsFollowed scripts r b s t
followed_later scripts q r b s t keeps f = grind (arith, common_steps)

pub quiet_alike : (n : ℕ) (q r : List Entry) → overall r ≡ overall q → IsAlike r q → KeepsQuiet n q r
quiet_alike n q r same a b op h = record { quiet = rw (same, late_alike a op, met_alike a op) h.quiet; no_fault = fault_alike a n b op ∙ h.no_fault }

-- one that q does not call is where it was
pub followed_other : (scripts : List ScriptView) (p q : List Entry) (e : Entry) (b : ℕ) → IsCourse scripts (e ∷ q) → IsFollowed scripts q b (stand p b) (stand q b) → is_active q b ≡ true → (e.caller.0 == b) ≡ false →
    IsFollowed scripts (e ∷ q) b (stand p b) (stand (e ∷ q) b)
followed_other scripts p q e b cq fol act other =
    let on = some_if q b act in
    subst (λ t. IsFollowed scripts (e ∷ q) b (stand p b) t) (sym (stand_other q e b on.0 other (stand_comp scripts q b cq.1 ∙ on.1)))
    (followed_later scripts q (e ∷ q) b (stand p b) (stand q b) (keeps_quiet (length scripts) q e (course_legal scripts (e ∷ q) cq)) fol)

-- ---- a turn of one, or of both

-- a turn of p, after which q is ahead, if its caller still is where q has it or before
pub stay : {aim : Verdict} (scripts : List ScriptView) (p q : List Entry) (e : Entry) → IsCourse scripts (e ∷ p) → IsCourse scripts q → IsFor aim scripts q p → IsAhead aim scripts (e ∷ p) q →
    created e.op e.reply ≡ None → ((b : ℕ) → started_on e b ≡ None) →
    (is_active q e.caller.0 ≡ true → IsFollowed scripts q e.caller.0 (stand (e ∷ p) e.caller.0) (stand q e.caller.0)) → IsFor aim scripts q (e ∷ p)
stay scripts p q e cp cq f ahead made no_run own = record {
  ahead = ahead;
  runs = λ b act. by_test b act (e.caller.0 == b) refl;
  order = ⊎_elim inl (λ o. inr (order_stays scripts p q e cp o made no_run)) f.order;
}
  where
    by_test : (b : ℕ) → is_active q b ≡ true → (t : Bool) → (e.caller.0 == b) ≡ t → IsFollowed scripts q b (stand (e ∷ p) b) (stand q b)
    by_test b act true k = subst (λ x. is_active q x ≡ true → IsFollowed scripts q x (stand (e ∷ p) x) (stand q x)) (equal_if e.caller.0 b k) own act
    by_test b act false k =
        let on = some_if q b act in
        let fol = f.runs b act in
        let here : (stand p b).comp ≡ Some on.0 = fol.comp ∙ (stand_comp scripts q b cq ∙ on.1) in
        subst (λ s. IsFollowed scripts q b s (stand q b)) (sym (stand_other p e b on.0 k here)) fol

-- a turn of p that changes nothing, if its caller still is where q has it or before
pub stutter : {aim : Verdict} (scripts : List ScriptView) (p q : List Entry) (e : Entry) → IsCourse scripts (e ∷ p) → IsCourse scripts q → IsFor aim scripts q p → ChangesNothing p e → level_of (overall (e ∷ p)) ≤ level_of (overall q) →
    ((c : ℕ) (n : IsEnding aim scripts p q c) → (e.caller.0 == n.run.0) ≡ true → IsLeaving aim scripts q n.run.0 (stand (e ∷ p) n.run.0)) →
    (is_active q e.caller.0 ≡ true → IsFollowed scripts q e.caller.0 (stand (e ∷ p) e.caller.0) (stand q e.caller.0)) → IsFor aim scripts q (e ∷ p)
stutter scripts p q e cp cq f u better leaves own =
    stay scripts p q e cp cq f (ahead_turn scripts p q e cp.1 (alike_unchanged (length scripts) p e (course_legal scripts (e ∷ p) cp) u) f.ahead leaves better) u.made u.no_run own

-- a turn of q that starts nothing
pub lead_by : {aim : Verdict} (scripts : List ScriptView) (p q : List Entry) (e : Entry) → IsCourse scripts (e ∷ q) → IsFor aim scripts q p → IsAhead aim scripts p (e ∷ q) → (level_of aim < level_of Verdict.Error) ⊎ AreOrdered scripts p (e ∷ q) →
    ((b : ℕ) → is_active (e ∷ q) b ≡ true → is_active q b ≡ true) → (is_active (e ∷ q) e.caller.0 ≡ true → IsFollowed scripts (e ∷ q) e.caller.0 (stand p e.caller.0) (stand (e ∷ q) e.caller.0)) → IsFor aim scripts (e ∷ q) p
lead_by scripts p q e cq f ahead order was own = record { ahead = ahead; runs = λ b act. by_test b act (e.caller.0 == b) refl; order = order }
  where
    by_test : (b : ℕ) → is_active (e ∷ q) b ≡ true → (t : Bool) → (e.caller.0 == b) ≡ t → IsFollowed scripts (e ∷ q) b (stand p b) (stand (e ∷ q) b)
    by_test b act true k = subst (λ x. is_active (e ∷ q) x ≡ true → IsFollowed scripts (e ∷ q) x (stand p x) (stand (e ∷ q) x)) (equal_if e.caller.0 b k) own act
    by_test b act false k = followed_other scripts p q e b cq (f.runs b (was b act)) (was b act) k

-- one that changes nothing
pub lead : {aim : Verdict} (scripts : List ScriptView) (p q : List Entry) (e : Entry) → IsCourse scripts (e ∷ q) → IsFor aim scripts q p → IsAlike (e ∷ q) q →
    IsFollowed scripts (e ∷ q) e.caller.0 (stand p e.caller.0) (stand (e ∷ q) e.caller.0) → IsFor aim scripts (e ∷ q) p
lead scripts p q e cq f after own =
    let lq = course_legal scripts (e ∷ q) cq in
    lead_by scripts p q e cq f (ahead_after scripts p q (e ∷ q) f.ahead (alike_sym (e ∷ q) q after) (keeps_quiet (length scripts) q e lq) (overall_grows (length scripts) q e lq))
    (⊎_elim inl (λ o. inr (order_alike scripts p q (e ∷ q) after o)) f.order) (λ b act. sym (active_alike after b) ∙ act) (λ act. own)

-- a turn of both
pub both : {aim : Verdict} (scripts : List ScriptView) (p q : List Entry) (d e : Entry) → IsCourse scripts (d ∷ p) → IsCourse scripts (e ∷ q) → IsFor aim scripts q p → d.caller.0 ≡ e.caller.0 →
    IsAhead aim scripts (d ∷ p) (e ∷ q) → KeepsQuiet (length scripts) q (e ∷ q) →
    (is_active q e.caller.0 ≡ true → IsFollowed scripts (e ∷ q) e.caller.0 (stand (d ∷ p) e.caller.0) (stand (e ∷ q) e.caller.0)) →
    ((b : ℕ) → (e.caller.0 == b) ≡ false → comp_of q b ≡ None → is_active (e ∷ q) b ≡ true → IsFollowed scripts (e ∷ q) b (stand (d ∷ p) b) (stand (e ∷ q) b)) →
    is_active q e.caller.0 ≡ true → ((c : ℕ) → phase (e ∷ q) c ≡ Phase.Killed → (phase q c ≡ Phase.Killed) ⊎ (phase (d ∷ p) c ≡ Phase.Killed)) → IsFor aim scripts (e ∷ q) (d ∷ p)
both scripts p q d e cp cq f callers ahead keeps own fresh acts dies = record {
  ahead = ahead;
  runs = λ b act. by_test b act (e.caller.0 == b) refl;
  order = ⊎_elim inl (λ o. inr (order_both scripts p q d e cp cq f.ahead o callers ahead dies acts)) f.order;
}
  where
    by_comp : (b : ℕ) → is_active (e ∷ q) b ≡ true → (e.caller.0 == b) ≡ false → (o : Option Comp) → comp_of q b ≡ o → IsFollowed scripts (e ∷ q) b (stand (d ∷ p) b) (stand (e ∷ q) b)
    by_comp b act k None on = fresh b k on act
    by_comp b act k (Some c) on =
        let was : is_active q b ≡ true = and_left (is_active q b) _ (sym (halted_by_entry (length scripts) q e b c (course_legal scripts (e ∷ q) cq) on) ∙ act) in
        let fol = f.runs b was in
        let there : (stand p b).comp ≡ Some c = fol.comp ∙ (stand_comp scripts q b cq.1 ∙ on) in
        let l : (d.caller.0 == b) ≡ false = ap (λ x. x == b) callers ∙ k in
        subst (λ s. IsFollowed scripts (e ∷ q) b s (stand (e ∷ q) b)) (sym (stand_other p d b c l there)) (followed_other scripts p q e b cq fol was k)

    by_test : (b : ℕ) → is_active (e ∷ q) b ≡ true → (t : Bool) → (e.caller.0 == b) ≡ t → IsFollowed scripts (e ∷ q) b (stand (d ∷ p) b) (stand (e ∷ q) b)
    by_test b act true k =
        let same : e.caller.0 ≡ b = equal_if e.caller.0 b k in
        subst (λ x. is_active q x ≡ true → IsFollowed scripts (e ∷ q) x (stand (d ∷ p) x) (stand (e ∷ q) x)) same own (subst (λ x. is_active q x ≡ true) same acts)
    by_test b act false k = by_comp b act k (comp_of q b) refl
