-- What one more entry does to the definitions.
use Rattle.std.proofs.Common.{ℕ, ◌≡◌, ◌&&◌, ◌||◌, not, if◌then◌else◌, Bool, true, false, Option, Some, None, is_some, List, [], ◌∷◌, ◌++◌, refl}
use Rattle.tc_entry.specs.{Prelude.{Verdict, Run, worst}, declared.entry.Entry.Entry, declared.phase.Phase.Phase}
use Rattle.tc_rules.specs.{History.comp_of, History.exists, Inside.Words.first_some, History.halts, History.is_alive_type, History.is_comp, History.kills, Inside.Kept.run_of, Inside.Kept.state_of, Inside.Step.next_excused, Inside.Step.next_local, Inside.Step.next_phase, Inside.Step.next_run, Inside.Step.next_state, Local.gives, Local.local, Local.verdicts_of, Phases.halts_from_outside, Phases.is_excused, Phases.last_run, Phases.phase, Inside.Words.phase_if_not_killed, Phases.start_in, Phases.was_halted, Phases.was_killed, declared.component_state.ComponentState.ComponentState}

abbrev pub phase_by : Bool → Option Run → Bool → Bool → Phase
phase_by killed run halt alive_type = if killed then Phase.Killed else phase_if_not_killed run halt alive_type

phase_step : (k : Bool) (s : Option Run) (h : Bool) (killed : Bool) (r : Option Run) (was a : Bool) → (is_some s ≡ true → killed ≡ false) →
    phase_by (k || killed) (first_some s r) (not (is_some s) && (h || was)) a ≡ next_phase k s h a (phase_by killed r was a)
phase_step true s h killed r was a ok = refl
phase_step false (Some b) h true r was a ok = let e = ok refl in cc
phase_step false (Some b) h false r was a ok = refl
phase_step false None true true r was a ok = refl
phase_step false None true false None was a ok = refl
phase_step false None true false (Some b) true true ok = refl
phase_step false None true false (Some b) true false ok = refl
phase_step false None true false (Some b) false a ok = refl
phase_step false None false true r was a ok = refl
phase_step false None false false r was a ok = refl

excused_step : (s : Option Run) (out : Bool) (killed : Bool) (r : Option Run) (was a old : Bool) → (killed ≡ true → was ≡ true) →
    (is_some (first_some s r) && (not (is_some s) && (if was then old else out))) ≡ next_excused s out (phase_by killed r was a) (is_some r && old)
excused_step (Some b) out killed r was a old h = refl
excused_step None out true r true a old h = refl
excused_step None out true r false a old h = let e = h refl in cc
excused_step None out false None was a old h = refl
excused_step None out false (Some b) true true old h = refl
excused_step None out false (Some b) true false old h = refl
excused_step None out false (Some b) false a old h = refl

pub worst-append : (vs ws : List Verdict) → worst (vs ++ ws) ≡ next_local vs (worst ws)
worst-append [] ws = refl
worst-append (v ∷ vs) ws = rw (worst-append vs ws)

abbrev state : Phase → Bool → Option Run → Bool → Verdict → ComponentState
state p a s x l = record { phase = p; alive_type = a; last = s; excused = x; local = l }

state_ext : {p p' : Phase} {a a' x x' : Bool} {s s' : Option Run} {l l' : Verdict} → p ≡ p' → a ≡ a' → s ≡ s' → x ≡ x' → l ≡ l' → state p a s x l ≡ state p' a' s' x' l'
state_ext p a s x l = cc

-- the state of a component that exists, after one more entry
pub state_step : (past : List Entry) (e : Entry) (c : ℕ) → exists past c ≡ true →
    (was_killed past c ≡ true → was_halted past c ≡ true) → (is_some (start_in e c) ≡ true → was_killed past c ≡ false) →
    state_of (e ∷ past) c ≡ next_state (comp_of past e.caller.0) e c (state_of past c)
unfolding phase local next_state
state_step past e c ex halted_if_killed start_ok =
    let ph = phase_step (kills e c) (start_in e c) (halts (comp_of past e.caller.0) e c) (was_killed past c) (last_run past c) (was_halted past c) (is_alive_type past c) start_ok in
    let ex' = excused_step (start_in e c) (halts_from_outside (comp_of past e.caller.0) e c) (was_killed past c) (last_run past c) (was_halted past c) (is_alive_type past c) (is_excused past c) halted_if_killed in
    let lo = worst-append (if is_comp (comp_of past e.caller.0) c then gives e.op e.reply else []) (verdicts_of past c) in
    rw ex (state_ext ph refl refl ex' lo)

pub run_step : (past : List Entry) (e : Entry) (b : ℕ) → run_of (e ∷ past) b ≡ next_run e b (run_of past b)
unfolding next_run
run_step past e b = refl
