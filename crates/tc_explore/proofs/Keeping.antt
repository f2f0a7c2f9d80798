-- The states that a search keeps: no such case is over, no run has a Wake to come, and each call that continues changes
-- something.
use Rattle.std.proofs.lemmas.Grind.{common_steps}
use Rattle.std.proofs.{lemmas.Bool.{and_parts, not-true, or_from, or_parts, true_from_ne_false}, Common.{ℕ, ◌≡◌, ◌==◌, ◌&&◌, ◌||◌, inl, inr, not, Bool, true, false, Option, Some, None, List, [], ◌∷◌, length, reverse, refl, ap, sym, subst, ◌∙◌, arith}}
use Rattle.tc_rules.{specs.Prelude.{Run, Comp, Entry, Op, Reply, is_ended, is_fault, Case, past_of, comp_of, started_on, first_some, is_comp, is_finish, kills, is_stop_of, is_kill_of, is_stop_case, halts, ends_case, ends_pass, is_over, phase, answer, is_active, is_active_on, is_run_of, IsLegal, Verdict, overall, gives, local, level_of, Phase, entry_made}, proofs.Lemmas.{Deciding.{equal_if, gives_if, if_same}, Going.halted_by_entry, Sound.plain_if, Decided.overall_more}}
use Rattle.tc_step.specs.Prelude.{ScriptView}
use Rattle.tc_course.{specs.{Prelude.{CourseState, stand, goes_on, after_other_by, IsTurn, IsCourse, IsOn}, Inside.ends}, proofs.Lemmas.{course_legal, has_turn, stand_own, stand_other, stand_comp, stand_unstarted}}
use Rattle.tc_explore.{specs.Inside.{Seen.{HasNoWake, IsCalm, IsOpen, IsState}, Simulation.{IsSilent, IsWithin}}, proofs.{Alike.ChangesNothing, Closing.{answer_inactive, loud_sets_no_wake, not_ended}, Felling.felling_halts, Late.{halt_overall, late_halts, late_reply, met_for, HaltsOne, late_for}, Leaving.running_on, Places.{Spent, how_spent, kept_left, wake_after}, Simulation.{quiet_within, unchanged_quiet, unchanged_wait, wait_kept}, Ahead.on_not_ended}}

-- ---- one more entry

no_wake_next : (past : List Entry) (e : Entry) → goes_on e.reply ≡ true → HasNoWake past → HasNoWake (e ∷ past)
no_wake_next past e on h b = wake_after past e b ∙ rw (loud_sets_no_wake e.op e.reply on, h b) (if_same (e.caller.0 == b) None)

finish_gives : (op : Op) (r : Reply) → op ≡ Op.Finish → is_fault r ≡ false → gives op r ≡ []
finish_gives op r is plain = gives_if op r plain (rw is refl)

-- a call of which nobody can see that it was made ends no case, and makes the verdict no worse than is looked for
silent_keeps : {aim : Verdict} (scripts : List ScriptView) (q : List Entry) (e : Entry) → IsCourse scripts (e ∷ q) → is_fault e.reply ≡ false → is_ended e.reply ≡ false → IsSilent aim scripts q e.caller.0 e.op →
    (ends_case e ≡ false) × (IsWithin aim q → IsWithin aim (e ∷ q))
silent_keeps {aim} scripts q e cq plain goes silent = by_call silent
  where
    legal : IsLegal (length scripts) (e ∷ q)
    legal = course_legal scripts (e ∷ q) cq

    by_halt : (c : ℕ) → HaltsOne q e c → (ends_case e ≡ false) × (IsWithin aim q → IsWithin aim (e ∷ q))
    by_halt c one = (one.no_case, λ within. let same = ap level_of (halt_overall (length scripts) legal one) in omega (arith, same, within))

    no_case : ChangesNothing q e → ends_case e ≡ false
    no_case u = (or_parts (ends_case e) _ (or_parts (kills e 0) _ (u.no_halt 0)).0).0

    by_kind : Spent q e.op → (ends_case e ≡ false) × (IsWithin aim q → IsWithin aim (e ∷ q))
    by_kind (inl quiet) = (no_case (unchanged_quiet (overall q) q e quiet plain), λ within. let l = quiet_within (overall q) (length scripts) q e legal quiet plain (omega arith) in omega (arith, l, within))
    by_kind (inr (inl late)) =
        let is = plain_if (length scripts) q e.caller.0 e.op e.reply goes plain cq.0.reply in
        by_halt (late_for q e.op late).0.0 (late_halts q q e late (is.is ∙ late_reply q q e.caller.0 e.op late))
    by_kind (inr (inr met)) =
        let m = met_for q e.op met in
        (no_case (unchanged_wait q e m.wake m.wake_of plain), λ within. let same = ap level_of (wait_kept (length scripts) q e m.wake legal m.wake_of plain) in omega (arith, same, within))

    by_call : IsSilent aim scripts q e.caller.0 e.op → (ends_case e ≡ false) × (IsWithin aim q → IsWithin aim (e ∷ q))
    by_call (inl spent) = by_kind (how_spent q e.op spent)
    by_call (inr (inr (inr felling))) = by_halt felling.comp.0 (felling_halts scripts q e cq plain goes felling)
    by_call (inr (inr (inl quiet))) = (no_case (unchanged_quiet aim q e quiet plain), quiet_within aim (length scripts) q e legal quiet plain)
    by_call (inr (inl end)) =
        let gift : gives e.op e.reply ≡ [] = finish_gives e.op e.reply end.finish plain in
        let same : overall (e ∷ q) ≡ overall q = overall_more (length scripts) q e legal ∙ rw gift refl in
        let level = ap level_of same in
        (rw (end.finish, end.not_main, plain, goes) refl, λ within. omega (arith, level, within))

module _ (scripts : List ScriptView) (t u : Case) (run : Run) (op : Op) where
  pub open_silent : {aim : Verdict} → IsOpen scripts t → IsOn scripts u → IsTurn scripts (past_of t) (entry_made t.behaviours (past_of t) run op) → is_fault (answer t.behaviours (past_of t) run.0 op) ≡ false →
      goes_on (answer t.behaviours (past_of t) run.0 op) ≡ true → IsSilent aim scripts (past_of t) run.0 op → past_of u ≡ entry_made t.behaviours (past_of t) run op ∷ past_of t → IsOpen scripts u × (IsWithin aim (past_of t) → IsWithin aim (past_of u))
  open_silent {aim} o on turn plain goes silent is =
      let keeps = silent_keeps scripts (past_of t) (entry_made t.behaviours (past_of t) run op) (turn, o.on.course) plain (on_not_ended (answer t.behaviours (past_of t) run.0 op) goes) silent in
      let none : ends_case (entry_made t.behaviours (past_of t) run op) ≡ false = keeps.0 in (
        record {
          on = on;
          going = ap is_over is ∙ rw (none, o.going) refl;
          no_wake = λ b. ap (λ x. (stand x b).wake) is ∙ no_wake_next (past_of t) (entry_made t.behaviours (past_of t) run op) goes o.no_wake b;
        },
        λ within. subst (IsWithin aim) (sym is) (keeps.1 within),
      )

  -- a call that continues, after which the case is not over
  pub open_next : IsOpen scripts t → IsOn scripts u → goes_on (answer t.behaviours (past_of t) run.0 op) ≡ true → past_of u ≡ entry_made t.behaviours (past_of t) run op ∷ past_of t → is_over (past_of u) ≡ false →
      IsOpen scripts u
  open_next o on goes is going = record {
    on = on;
    going = going;
    no_wake = λ b. ap (λ x. (stand x b).wake) is ∙ no_wake_next (past_of t) (entry_made t.behaviours (past_of t) run op) goes o.no_wake b;
  }

pub open_opening : (scripts : List ScriptView) (t : Case) → IsOn scripts t → past_of t ≡ [] → IsOpen scripts t
open_opening scripts t on is = record { on = on; going = ap is_over is; no_wake = λ b. ap (λ x. (stand x b).wake) is }

pub on_open : (scripts : List ScriptView) (t : Case) → IsOpen scripts t → IsOn scripts t
on_open scripts t o = o.on

pub open_state : {aim : Verdict} (scripts : List ScriptView) (t : Case) → IsState aim scripts t → IsOpen scripts t
open_state scripts t s = s.opened

pub on_state : {aim : Verdict} (scripts : List ScriptView) (t : Case) → IsState aim scripts t → IsOn scripts t
on_state scripts t s = s.opened.on

pub open_same : (scripts : List ScriptView) (t u : Case) → u.behaviours ≡ t.behaviours → u.history ≡ t.history → IsOpen scripts t → IsOpen scripts u
open_same scripts t u n h o = grind (arith, common_steps)

-- a copy of a state is one
pub state_same : {aim : Verdict} (scripts : List ScriptView) (t u : Case) → u.behaviours ≡ t.behaviours → u.history ≡ t.history → IsState aim scripts t → IsState aim scripts u
state_same {aim} scripts t u n h s = grind (arith, common_steps)

pub within_state : {aim : Verdict} (scripts : List ScriptView) (t : Case) → IsState aim scripts t → IsWithin aim (past_of t)
within_state scripts t s = s.within

pub within_same : (aim : Verdict) (t u : Case) → u.history ≡ t.history → IsWithin aim (past_of t) → IsWithin aim (past_of u)
within_same aim t u h l = let past : past_of u ≡ past_of t = ap reverse h in subst (IsWithin aim) (sym past) l

pub within_opening : (aim : Verdict) (t : Case) → past_of t ≡ [] → IsWithin aim (past_of t)
unfolding overall local
within_opening aim t none = rw none (omega arith)

pub ruleset keeping_rules = (on_open, open_state, on_state, open_same, state_same, within_state, within_same, within_opening)

-- ---- no call is left of which nobody can see that it was made

pub state_of : {aim : Verdict} (scripts : List ScriptView) (t : Case) → IsOpen scripts t → IsCalm scripts (past_of t) → IsWithin aim (past_of t) → IsState aim scripts t
state_of scripts t o calm within = record { opened = o; calm = calm; within = within }

-- ---- runs that continue

ends_none : (o : Option Comp) (e : Entry) (c : Comp) → o ≡ Some c → is_ended e.reply ≡ false → halts (Some c) e c.0 ≡ false → ends o e ≡ false
unfolding ends_pass
ends_none o e c same goes none = subst (λ x. ends x e ≡ false) (sym same) (or_from (is_ended e.reply) (halts (Some c) e c.0) goes none)

-- the pass of a run that continues has not ended
pub active_stays : (scripts : List ScriptView) (past : List Entry) (b : ℕ) → IsCourse scripts past → is_active past b ≡ true → (stand past b).left ≡ false
active_stays scripts [] b course act = refl
active_stays scripts (e ∷ past) b course act = by_comp (active_stays scripts past b course.1) (comp_of past b) refl
  where
    legal : IsLegal (length scripts) (e ∷ past)
    legal = course_legal scripts (e ∷ past) course

    never_left : (o w : Option Comp) (s : CourseState) → started_on e b ≡ w → (after_other_by o e b s).left ≡ s.left
    never_left (Some c) w s k = refl
    never_left None (Some c) s k = rw k refl
    never_left None None s k = rw k refl

    by_comp : (is_active past b ≡ true → (stand past b).left ≡ false) → (o : Option Comp) → comp_of past b ≡ o → (stand (e ∷ past) b).left ≡ false
    by_comp ih None none = by_caller (e.caller.0 == b) refl
      where
        by_caller : (t : Bool) → (e.caller.0 == b) ≡ t → (stand (e ∷ past) b).left ≡ false
        by_caller true k =
            let t = has_turn scripts past e.caller.0 e.op course.0.turn in
            let some : comp_of past e.caller.0 ≡ Some t.me = sym (stand_comp scripts past e.caller.0 course.1) ∙ t.on in
            let here : comp_of past b ≡ Some t.me = ap (comp_of past) (sym (equal_if e.caller.0 b k)) ∙ some in
            absurd cc
        by_caller false k =
            let other : stand (e ∷ past) b ≡ after_other_by (stand past b).comp e b (stand past b) = rw k refl in
            ap (λ (s : CourseState). s.left) other
            ∙ (never_left (stand past b).comp (started_on e b) (stand past b) refl
            ∙ ap (λ (s : CourseState). s.left) (stand_unstarted scripts past b course.1 none))
    by_comp ih (Some c) some = by_caller (e.caller.0 == b) refl
      where
        were : (is_active past b ≡ true) × (halts (comp_of past e.caller.0) e c.0 ≡ false)
        were =
            let both = and_parts (is_active past b) (not (halts (comp_of past e.caller.0) e c.0)) (sym (halted_by_entry (length scripts) past e b c legal some) ∙ act) in
            (both.0, not-true _ both.1)

        before : (stand past b).left ≡ false
        before = ih were.0

        on : (stand past b).comp ≡ Some c
        on = stand_comp scripts past b course.1 ∙ some

        by_caller : (t : Bool) → (e.caller.0 == b) ≡ t → (stand (e ∷ past) b).left ≡ false
        by_caller true k =
            let own : e.caller.0 ≡ b = equal_if e.caller.0 b k in
            let mine : comp_of past e.caller.0 ≡ Some c = ap (comp_of past) own ∙ some in
            let act_e : is_active past e.caller.0 ≡ true = ap (is_active past) own ∙ were.0 in
            let goes : is_ended e.reply ≡ false = ap is_ended course.0.reply ∙ not_ended (length scripts) past e.caller.0 e.op c act_e mine in
            let none : halts (Some c) e c.0 ≡ false = subst (λ o. halts o e c.0 ≡ false) mine were.1 in
            ap (λ (s : CourseState). s.left) (stand_own past e b own) ∙ (kept_left e (stand past b) (ends_none (stand past b).comp e c on goes none) ∙ before)
        by_caller false k = ap (λ (s : CourseState). s.left) (stand_other past e b c k on) ∙ before

pub comp_main : (past : List Entry) → comp_of past 0 ≡ Some (record { 0 = 0 })
comp_main [] = refl
comp_main (e ∷ past) = ap (λ o. first_some o (started_on e 0)) (comp_main past)

main_only : (past : List Entry) (e : Entry) → is_active past 0 ≡ true → is_active past e.caller.0 ≡ true → is_comp (comp_of past e.caller.0) 0 ≡ true → (e.caller.0 == 0) ≡ true
unfolding is_active
main_only past e main act here = by_comp (comp_of past e.caller.0) refl here
  where
    main_runs : is_run_of 0 (phase past 0) ≡ true
    main_runs = ap (is_active_on past 0) (sym (comp_main past)) ∙ main

    by_comp : (o : Option Comp) → comp_of past e.caller.0 ≡ o → is_comp o 0 ≡ true → (e.caller.0 == 0) ≡ true
    by_comp None k h = absurd cc
    by_comp (Some c) k h =
        let runs : phase past c.0 ≡ Phase.Running e.caller = running_on past e c act k in
        let main_too : phase past 0 ≡ Phase.Running e.caller = ap (phase past) (sym (equal_if c.0 0 h)) ∙ runs in
        ap (is_run_of 0) (sym main_too) ∙ main_runs

halts_by : (r f w n s k m c : Bool) → (r ≡ false → c ≡ true → m ≡ true) → (not r && (f || w || (n && m) || s || k)) ≡ false →
    (((not r && (f || w || (n && m) || s || k)) || (not r && k)) || (not r && ((n && c) || s))) ≡ false
halts_by true f w n s k m c only h = refl
halts_by false false false true s k true c only h = absurd cc
halts_by false false false true false false false true only h = let no = only refl refl in absurd cc
halts_by false false false true false false false false only h = refl
halts_by false false false false false false m c only h = refl
halts_by false _ _ _ _ _ _ _ only h = absurd cc

-- an entry that ends no case does not halt the main component
no_main_halt : (n : ℕ) (past : List Entry) (e : Entry) → IsLegal n (e ∷ past) → is_active past 0 ≡ true → ends_case e ≡ false → halts (comp_of past e.caller.0) e 0 ≡ false
no_main_halt n past e legal main none =
    halts_by (is_ended e.reply) (is_fault e.reply) (is_stop_case e.op) (is_finish e.op) (is_stop_of e.op 0) (is_kill_of e.op 0) (e.caller.0 == 0) (is_comp (comp_of past e.caller.0) 0) only none
  where
    only : is_ended e.reply ≡ false → is_comp (comp_of past e.caller.0) 0 ≡ true → (e.caller.0 == 0) ≡ true
    only goes here =
        let act = true_from_ne_false (is_active past e.caller.0) (λ k. let off : is_ended e.reply ≡ true = ap is_ended (legal.0 ∙ answer_inactive n past e.caller.0 e.op k) in cc) in
        main_only past e main act here

main_begins : is_active [] 0 ≡ true
unfolding is_active phase
main_begins = refl

-- while a case is not over its main run continues
pub main_goes : (scripts : List ScriptView) (past : List Entry) → IsCourse scripts past → is_over past ≡ false → is_active past 0 ≡ true
main_goes scripts [] course going = main_begins
main_goes scripts (e ∷ past) course going =
    let both = or_parts (ends_case e) (is_over past) going in
    let before = main_goes scripts past course.1 both.1 in
    let legal = course_legal scripts (e ∷ past) course in
    halted_by_entry (length scripts) past e 0 (record { 0 = 0 }) legal (comp_main past)
    ∙ rw (before, no_main_halt (length scripts) past e legal before both.0) refl
