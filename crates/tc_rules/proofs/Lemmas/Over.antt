-- After an entry that ends the case every component is killed, and every call is replied Ended.
use Rattle.std.{proofs.Common.{ℕ, ◌≡◌, ◌&&◌, ◌||◌, ◌==◌, not, if◌then◌else◌, Bool, true, false, Option, Some, None, List, [], ◌∷◌, ◌++◌, refl, ap, sym, ◌∙◌}, specs.{Bool.OnTrue, List.list_all}}
use Rattle.tc_entry.specs.{Prelude.{Run, is_ended, is_ok}, declared.comp.Comp.Comp, declared.entry.Entry.Entry, declared.op.Op.Op, declared.phase.Phase.Phase, declared.reply.Reply.Reply}
use Rattle.tc_rules.{specs.{Answers.{answer, is_active}, Faults.all_exist, History.{add_new, comp_of, comps, created, ends_case, exists, is_in, is_kill_of, is_over, kills}, Inside.Words.{first_some, starts_run}, Inside.Kept.IsKept, Legal.{IsAllOver, IsLegal}, Phases.{phase, was_killed}, Standing.{Kept, StandsFor}, declared.component_state.ComponentState.ComponentState, declared.run_state.RunState.RunState}, proofs.Lemmas.{Deciding.{and_left, and_right}, Sound.runs_on}}

opening_exists : (b : ℕ) (c : Comp) → comp_of [] b ≡ Some c → exists [] c.0 ≡ true
unfolding exists
opening_exists b c h = by_test (b == 0) h
  where
    by_test : (t : Bool) → (if t then Some (let z : Comp = record { 0 = 0 } in z) else None) ≡ Some c → is_in c.0 (0 ∷ []) ≡ true
    by_test true e = let q : record { 0 = 0 } ≡ c = cc in rw (← q) refl
    by_test false e = absurd cc

in_more : (c : ℕ) (ns ms : List ℕ) → is_in c ns ≡ true → is_in c (ns ++ ms) ≡ true
in_more c [] ms h = absurd cc
in_more c (n ∷ ns) ms h = either (c == n) (is_in c ns) (is_in c (ns ++ ms)) (in_more c ns ms) h
  where
    either : (a b b' : Bool) → (b ≡ true → b' ≡ true) → (a || b) ≡ true → (a || b') ≡ true
    either true b b' f h = refl
    either false b b' f h = f h

in_added : (o : Option Comp) (c : ℕ) (ns : List ℕ) → is_in c ns ≡ true → is_in c (add_new o ns) ≡ true
in_added None c ns h = h
in_added (Some d) c ns h = by_test (is_in d.0 ns)
  where
    by_test : (t : Bool) → is_in c (if t then ns else ns ++ d.0 ∷ []) ≡ true
    by_test true = h
    by_test false = in_more c ns (d.0 ∷ []) h

pub stays : (past : List Entry) (e : Entry) (c : ℕ) → exists past c ≡ true → exists (e ∷ past) c ≡ true
unfolding exists
stays past e c h = in_added (created e.op e.reply) c (comps past) h

pub still_exist : (past : List Entry) (e : Entry) (cs : List Comp) → all_exist past cs ≡ true → all_exist (e ∷ past) cs ≡ true
unfolding all_exist
still_exist past e [] h = refl
still_exist past e (c ∷ cs) h =
    rw (stays past e c.0 (and_left (exists past c.0) (list_all (λ d. exists past d.0) cs) h))
    (still_exist past e cs (and_right (exists past c.0) (list_all (λ d. exists past d.0) cs) h))

first_either : {A : Type 0} (o p : Option A) (x : A) (P : Type 0) → (o ≡ Some x → P) → (p ≡ Some x → P) → first_some o p ≡ Some x → P
first_either (Some y) p x P f g h = f h
first_either None p x P f g h = g h

-- a run is on a component that exists
pub on_existing : (n : ℕ) (past : List Entry) (b : ℕ) (c : Comp) → IsLegal n past → comp_of past b ≡ Some c → exists past c.0 ≡ true
on_existing n [] b c legal h = opening_exists b c h
on_existing n (e ∷ past) b c legal h =
    stays past e c.0
    (first_either (comp_of past b) (if is_ok e.reply then starts_run e.op b else None) c (exists past c.0 ≡ true)
    (λ o. on_existing n past b c legal.1 o)
    (λ s. (runs_on n past e b c legal.0 s).known) h)

ends_makes_none : (op : Op) (reply : Reply) (caller : Run) → ends_case (record { caller = caller; op = op; reply = reply }) ≡ true → created op reply ≡ None
ends_makes_none (Op.Create alive name) (Reply.Made d) caller h = absurd cc
ends_makes_none (Op.Create alive name) _ caller h = refl
ends_makes_none _ reply caller h = refl

same_exist : (past : List Entry) (e : Entry) (c : ℕ) → created e.op e.reply ≡ None → exists (e ∷ past) c ≡ exists past c
unfolding exists
same_exist past e c h = ap (λ o. is_in c (add_new o (comps past))) h

killed_phase : (past : List Entry) (c : ℕ) → was_killed past c ≡ true → phase past c ≡ Phase.Killed
unfolding phase
killed_phase past c h = rw h

not_active : (past : List Entry) (b : ℕ) → ((c : Comp) → comp_of past b ≡ Some c → phase past c.0 ≡ Phase.Killed) → (o : Option Comp) → comp_of past b ≡ o → is_active past b ≡ false
unfolding is_active
not_active past b killed (Some c) e = rw (e, killed c e)
not_active past b killed None e = rw e

all_ended : (n : ℕ) (past : List Entry) (b : ℕ) (op : Op) → is_active past b ≡ false → answer n past b op ≡ Reply.Ended
unfolding answer
all_ended n past b op h = rw h

ended_makes_none : (op : Op) (reply : Reply) → reply ≡ Reply.Ended → created op reply ≡ None
ended_makes_none (Op.Create alive name) reply h = rw h
ended_makes_none _ reply h = refl

now_killed : (ends x w : Bool) → ends ≡ true → ((true && (ends || x)) || w) ≡ true
now_killed true x w h = refl
now_killed false x w h = absurd cc

still_killed : (x w : Bool) → w ≡ true → (x || w) ≡ true
still_killed true w h = refl
still_killed false w h = h

over_answers : (n : ℕ) (past : List Entry) (b : ℕ) (op : Op) → IsLegal n past → ((c : ℕ) → exists past c ≡ true → was_killed past c ≡ true) → answer n past b op ≡ Reply.Ended
over_answers n past b op legal all =
    all_ended n past b op (not_active past b (λ c h. killed_phase past c.0 (all c.0 (on_existing n past b c legal h))) (comp_of past b) refl)

all_killed : (n : ℕ) (past : List Entry) → IsLegal n past → is_over past ≡ true → (c : ℕ) → exists past c ≡ true → was_killed past c ≡ true
all_killed n [] legal over c h = absurd cc
all_killed n (e ∷ past) legal over c h = by_test (ends_case e) (all_killed n past legal.1) refl over
  where
    by_test : (t : Bool) → (is_over past ≡ true → (d : ℕ) → exists past d ≡ true → was_killed past d ≡ true) → ends_case e ≡ t → (t || is_over past) ≡ true →
        was_killed (e ∷ past) c ≡ true
    by_test true before k o =
        let x : exists past c ≡ true = sym (same_exist past e c (ends_makes_none e.op e.reply e.caller k)) ∙ h in
        rw x (now_killed (ends_case e) (not (is_ended e.reply) && is_kill_of e.op c) (was_killed past c) k)
    by_test false before k o =
        let r : e.reply ≡ Reply.Ended = legal.0 ∙ over_answers n past e.caller.0 e.op legal.1 (before o) in
        let x : exists past c ≡ true = sym (same_exist past e c (ended_makes_none e.op e.reply r)) ∙ h in
        still_killed (exists past c && kills e c) (was_killed past c) (before o c x)

pub all_over : (n : ℕ) (past : List Entry) → IsLegal n past → is_over past ≡ true → IsAllOver n past
all_over n past legal over = record {
  killed = λ c h. killed_phase past c (all_killed n past legal over c h);
  ended = λ b op. over_answers n past b op legal (all_killed n past legal over);
}

module _ {n : ℕ} {past : List Entry} {states : List ComponentState} {runs : List RunState} {over : Bool} where
  pub over_kept : IsKept n past states runs over → over ≡ is_over past
  over_kept kept = kept.over_is

  pub all_over_kept : IsKept n past states runs over → over ≡ true → IsAllOver n past
  all_over_kept kept h = all_over n past kept.legal (sym kept.over_is ∙ h)

-- the same, as a call has it
pub on_over : (over : Bool) (v k : Kept) (past : List Entry) → v ≡ k → over ≡ v.over → StandsFor k past → OnTrue over (IsAllOver k.behaviours past)
unfolding StandsFor
on_over true v k past same is kept = all_over_kept kept (sym (is ∙ ap (λ (w : Kept). w.over) same))
on_over false v k past same is kept = tt

pub ruleset over_rules = (over_kept, all_over_kept)
