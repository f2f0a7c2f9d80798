-- Facts on legal histories.
use Rattle.std.specs.List.{flat_map}
use Rattle.std.proofs.{Common.{ℕ, ◌≡◌, if◌then◌else◌, Bool, true, false, Option, Some, None, is_some, List, [], ◌∷◌, ◌++◌, refl, ap, sym, ◌∙◌, append_assoc, arith}, lemmas.Bool.Decides.nat_tests}
use Rattle.tc_entry.specs.{Prelude.{Verdict, worst, is_ended}, declared.comp.Comp.Comp, declared.entry.Entry.Entry, declared.op.Op.Op, declared.phase.Phase.Phase, declared.reply.Reply.Reply}
use Rattle.tc_rules.{specs.{Answers.{answer, is_active, is_run_of, plain_answer}, Inside.Words.{answer_unless, is_active_on, RunsNow}, Faults.fault, History.{comp_of, exists, halts, is_comp, is_over, kills}, Legal.{IsAllOver, IsLegal}, Local.{gives, local, verdicts_of}, Phases.{phase, start_in, was_halted, was_killed}}, proofs.{Lemmas.Deciding.{gives_nothing, if_same}, Lemmas.Keeping.{halted_by, kill_halts}, Lemmas.Over.all_over, Lemmas.Sound.starts}}

pub over_for_all : (n : ℕ) (past : List Entry) → IsLegal n past → is_over past ≡ true → IsAllOver n past
over_for_all = all_over

pub killed_was_halted : (n : ℕ) (past : List Entry) (c : ℕ) → IsLegal n past → was_killed past c ≡ true → was_halted past c ≡ true
killed_was_halted n [] c legal h = absurd cc
killed_was_halted n (e ∷ past) c legal h =
    halted_by (exists past c) (kills e c) (was_killed past c) (is_some (start_in e c)) (halts (comp_of past e.caller.0) e c) (was_halted past c)
    (kill_halts (comp_of past e.caller.0) e c) (killed_was_halted n past c legal.1)
    (λ s. let st = starts n past e c legal.0 s in (st.no_kill, st.alive)) h

active_by : (active : Bool) (reply other : Reply) → is_ended reply ≡ false → reply ≡ (if active then other else Reply.Ended) → active ≡ true
active_by true reply other h e = refl
active_by false reply other h e = let q : is_ended reply ≡ true = ap is_ended e in absurd cc

active_if_answered : (n : ℕ) (past : List Entry) (b : ℕ) (op : Op) (reply : Reply) → reply ≡ answer n past b op → is_ended reply ≡ false → is_active past b ≡ true
unfolding answer
active_if_answered n past b op reply r h =
    active_by (is_active past b) reply (answer_unless (fault n past b op) (plain_answer past b op)) h r

running_by : (b : ℕ) (p : Phase) → is_run_of b p ≡ true → p ≡ Phase.Running (record { 0 = b })
running_by b (Phase.Running r) h =
    let e : r.0 ≡ b = grind (arith, nat_tests) in
    ap (λ (k : ℕ). Phase.Running (record { 0 = k })) e
running_by b _ h = absurd cc

pub runs_if_active : (past : List Entry) (e : Entry) → is_active past e.caller.0 ≡ true → (c : Comp) × RunsNow past e c
unfolding is_active
runs_if_active past e h = by_comp (comp_of past e.caller.0) refl h
  where
    by_comp : (o : Option Comp) → comp_of past e.caller.0 ≡ o → is_active_on past e.caller.0 o ≡ true → (c : Comp) × RunsNow past e c
    by_comp (Some c) on active = (c, (on, running_by e.caller.0 (phase past c.0) active))
    by_comp None on active = absurd cc

pub answered_is_running : (n : ℕ) (past : List Entry) (e : Entry) → IsLegal n (e ∷ past) → is_ended e.reply ≡ false → (c : Comp) × RunsNow past e c
answered_is_running n past e legal h =
    runs_if_active past e (active_if_answered n past e.caller.0 e.op e.reply legal.0 h)

-- a run stays on its component
stays_on : (later past : List Entry) (b : ℕ) (c : Comp) → comp_of past b ≡ Some c → comp_of (later ++ past) b ≡ Some c
stays_on [] past b c h = h
stays_on (l ∷ later) past b c h = rw (stays_on later past b c h) refl

pub same_component_later : (n : ℕ) (past later : List Entry) (e : Entry) → IsLegal n (e ∷ past) → is_ended e.reply ≡ false → comp_of (later ++ e ∷ past) e.caller.0 ≡ comp_of past e.caller.0
same_component_later n past later e legal h =
    let r = answered_is_running n past e legal h in
    stays_on later (e ∷ past) e.caller.0 r.0 (stays_on (e ∷ []) past e.caller.0 r.0 r.1.0) ∙ sym r.1.0

ended_gives_none : (op : Op) (reply : Reply) → is_ended reply ≡ true → gives op reply ≡ []
ended_gives_none op Reply.Ended h = gives_nothing op Reply.Ended refl refl
ended_gives_none op _ h = absurd cc

none_given : (t u : Bool) (given vs ws : List Verdict) → given ≡ [] → vs ≡ ws → (if t then given else []) ++ vs ≡ (if u then given else []) ++ ws
none_given t u given vs ws g e = rw (g, e) (ap (λ x. x ++ ws) (if_same t [] ∙ sym (if_same u [])))

-- the verdicts given to component c by runs that are on it in the whole history
abbrev verdicts_in : List Entry → List Entry → ℕ → List Verdict
verdicts_in whole past c = flat_map (λ e. if is_comp (comp_of whole e.caller.0) c then gives e.op e.reply else []) past

same_verdicts : (n : ℕ) (past later : List Entry) (c : ℕ) → IsLegal n past → verdicts_in (later ++ past) past c ≡ verdicts_of past c
same_verdicts n [] later c legal = refl
same_verdicts n (e ∷ past) later c legal =
    by_reply (is_ended e.reply) refl (rw (append_assoc later (e ∷ []) past) at (same_verdicts n past (later ++ e ∷ []) c legal.1))
  where
    by_reply : (t : Bool) → is_ended e.reply ≡ t → verdicts_in (later ++ e ∷ past) past c ≡ verdicts_of past c → verdicts_in (later ++ e ∷ past) (e ∷ past) c ≡ verdicts_of (e ∷ past) c
    by_reply true h same =
        none_given (is_comp (comp_of (later ++ e ∷ past) e.caller.0) c) (is_comp (comp_of past e.caller.0) c) (gives e.op e.reply) (verdicts_in (later ++ e ∷ past) past c) (verdicts_of past c)
        (ended_gives_none e.op e.reply h) same
    by_reply false h same = rw (same_component_later n past later e legal h, same) refl

pub local_of_whole : (n : ℕ) (past : List Entry) (c : ℕ) → IsLegal n past → worst (verdicts_in past past c) ≡ local past c
unfolding local
local_of_whole n past c legal = ap worst (same_verdicts n past [] c legal)
