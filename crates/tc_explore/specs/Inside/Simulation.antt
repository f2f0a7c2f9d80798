-- A history represents others that differ from it only in calls that nobody can see were made: those that change
-- nothing but their caller's place, and the ends of runs.
use Rattle.std.specs.Prelude.{ℕ, suc, ◌≡◌, ◌==◌, ◌<◌, ◌≤◌, ◌-◌, ◌⊎◌, ◌&&◌, ◌||◌, not, nat_le, nat_lt, Bool, true, false, Option, Some, None, List, ◌∷◌, MatchOption, length, slice_get}
use Rattle.tc_rules.specs.Prelude.{Run, Verdict, level_of, given, Comp, Entry, Op, Target, Phase, is_fault, comps, comp_of, is_alive_type, is_over, is_comp, phase, phase_if_any, overall, fault, is_active, Group}
use Rattle.tc_step.specs.Prelude.{ScriptView}
use Rattle.tc_course.specs.{Inside.call_of, declared.witness.Witness.Witness, Prelude.{CourseState, stand, goes_on, steps_of, turn, IsTurn, IsCourse, is_found}}

-- the same components in the same phases, the same runs on them
pub record IsAlike (p q : List Entry) : Type 0 where
  pub comps_same : comps p ≡ comps q
  pub phase_same : (c : ℕ) → phase p c ≡ phase q c
  pub kind_same : (c : ℕ) → is_alive_type p c ≡ is_alive_type q c
  pub comp_same : (b : ℕ) → comp_of p b ≡ comp_of q b

-- the call asks a question, or sets a verdict that is no worse than this one
abbrev pub is_quiet : Verdict → Op → Bool
is_quiet worst (Op.SetVerdict v) = nat_le (level_of (given v)) (level_of worst)
is_quiet worst Op.GetVerdict = true
is_quiet worst (Op.Running t) = true
is_quiet worst (Op.Alive t) = true
is_quiet worst (Op.Done t) = true
is_quiet worst (Op.Killed t) = true
is_quiet worst op = false

-- there is a component, and it is killed
abbrev pub is_gone : Option Phase → Bool
is_gone (Some Phase.Killed) = true
is_gone _ = false

-- the call stops or kills a component that is killed already; the main component is none of these
abbrev pub is_late : List Entry → Op → Bool
is_late q (Op.Stop (Group.One c)) = not (c.0 == 0) && is_gone (phase_if_any q c.0)
is_late q (Op.Kill (Group.One c)) = not (c.0 == 0) && is_gone (phase_if_any q c.0)
is_late q op = false

-- the call waits for a component that is killed already
abbrev pub is_met : List Entry → Op → Bool
is_met q (Op.Wait killed (Target.One c)) = is_gone (phase_if_any q c.0)
is_met q op = false

-- the call would change nothing but its caller's place
abbrev pub is_spent : List Entry → Op → Bool
is_spent q op = is_quiet (overall q) op || (is_late q op || is_met q op)

-- the call of run b would change nothing, and is no error
pub record IsQuietAt (n : ℕ) (q : List Entry) (b : ℕ) (op : Op) : Type 0 where
  pub quiet : is_spent q op ≡ true
  pub no_fault : fault n q b op ≡ None

-- what a run that is known so calls at its k-th step
abbrev pub call_at : List ScriptView → ℕ → CourseState → Option Comp → ℕ → Op
call_at scripts b s (Some me) k = call_of me s.bound (slice_get (steps_of scripts b) k)
call_at scripts b s None k = Op.Finish

-- the Wake is that of the Wait
pub record IsWakeOf (wait wake : Op) : Type 0 where
  pub killed : Bool
  pub target : Target
  pub waits : wait ≡ Op.Wait killed target
  pub wakes : wake ≡ Op.Wake killed target

-- run b has called as many steps as the other, or less, and those between are quiet
pub record IsBefore (scripts : List ScriptView) (q : List Entry) (b : ℕ) (s t : CourseState) : Type 0 where
  pub fewer : s.called ≤ t.called
  pub between : (k : ℕ) → s.called ≤ k → k < t.called → IsQuietAt (length scripts) q b (call_at scripts b t t.comp k)

-- run b was parked at a Wait that the other calls next, or has called, and what it called from that on is quiet
pub record IsParkedAt (scripts : List ScriptView) (q : List Entry) (b : ℕ) (s t : CourseState) (wake : Op) : Type 0 where
  pub place : ℕ
  pub one_more : s.called ≡ suc place
  pub fewer : place ≤ t.called
  pub wake_of : IsWakeOf (call_at scripts b t t.comp place) wake
  pub between : (k : ℕ) → place ≤ k → k < t.called → IsQuietAt (length scripts) q b (call_at scripts b t t.comp k)

-- what is known of run b is followed by what is known of it after q
pub record IsFollowed (scripts : List ScriptView) (q : List Entry) (b : ℕ) (s t : CourseState) : Type 0 where
  pub comp : s.comp ≡ t.comp
  pub bound : s.bound ≡ t.bound
  pub left : s.left ≡ t.left
  pub no_wake : t.wake ≡ None
  pub place : MatchOption s.wake (IsBefore scripts q b s t) (λ wake. IsParkedAt scripts q b s t wake)

-- the call of run b would be quiet, or ends the run
abbrev pub IsLastAt : ℕ → List Entry → ℕ → Op → Type 0
IsLastAt n q b op = IsQuietAt n q b op ⊎ (op ≡ Op.Finish)

-- a run that is known so was parked at this Wait, which is quiet
pub record WasParked (scripts : List ScriptView) (q : List Entry) (b : ℕ) (s : CourseState) (wake : Op) : Type 0 where
  pub place : ℕ
  pub one_more : s.called ≡ suc place
  pub wake_of : IsWakeOf (call_at scripts b s s.comp place) wake
  pub quiet : IsQuietAt (length scripts) q b (call_at scripts b s s.comp place)

-- the call sets a verdict worse than this one
abbrev pub is_barred : Verdict → Op → Bool
is_barred aim (Op.SetVerdict v) = nat_lt (level_of aim) (level_of (given v))
is_barred aim op = false

-- run b, which is known so, sets a verdict worse than this one before its k-th call or by it
pub record IsBarredBefore (aim : Verdict) (scripts : List ScriptView) (b : ℕ) (s : CourseState) (k : ℕ) : Type 0 where
  pub place : ℕ
  pub later : s.called ≤ place
  pub before : place ≤ k
  pub bars : is_barred aim (call_at scripts b s s.comp place) ≡ true

-- a run that is known so has only quiet calls left, and its end or a setting that is worse than is looked for
pub record IsLeaving (aim : Verdict) (scripts : List ScriptView) (q : List Entry) (b : ℕ) (s : CourseState) : Type 0 where
  pub parked : MatchOption s.wake (Unit {0}) (λ wake. WasParked scripts q b s wake)
  pub calls : (k : ℕ) → s.called ≤ k → IsLastAt (length scripts) q b (call_at scripts b s s.comp k) ⊎ IsBarredBefore aim scripts b s k

-- after p a run is leaving component c, which nothing can start again; after q it has ended
pub record IsEnding (aim : Verdict) (scripts : List ScriptView) (p q : List Entry) (c : ℕ) : Type 0 where
  pub run : Run
  pub running : phase p c ≡ Phase.Running run
  pub ended : phase q c ≡ Phase.Killed
  pub not_main : (run.0 == 0) ≡ false
  pub on : comp_of p run.0 ≡ Some (record { 0 = c })
  pub ordinary : is_alive_type p c ≡ false
  pub leaving : IsLeaving aim scripts q run.0 (stand p run.0)

-- the same is known after both, except that runs which are leaving after p have ended after q, and the verdict after p may be
-- better
pub record IsAhead (aim : Verdict) (scripts : List ScriptView) (p q : List Entry) : Type 0 where
  pub comps_same : comps p ≡ comps q
  pub phases : (c : ℕ) → (phase p c ≡ phase q c) ⊎ IsEnding aim scripts p q c
  pub kind_same : (c : ℕ) → is_alive_type p c ≡ is_alive_type q c
  pub comp_same : (b : ℕ) → comp_of p b ≡ comp_of q b
  pub no_better : level_of (overall p) ≤ level_of (overall q)

-- the first call that is still to be answered
abbrev pub place_by : Option Op → ℕ → ℕ
place_by None called = called
place_by (Some wake) called = called - 1

abbrev pub place_of : CourseState → ℕ
place_of s = place_by s.wake s.called

-- run b on component c waits from now on for components only that are killed after q, and that come before c by rank
abbrev pub IsOrdered : List ScriptView → (ℕ → ℕ) → List Entry → ℕ → ℕ → CourseState → Type 0
IsOrdered scripts rank q c b s =
    (k : ℕ) (killed : Bool) (t : Comp) → place_of s ≤ k → call_at scripts b s s.comp k ≡ Op.Wait killed (Target.One t) → (rank t.0 < rank c) × (is_gone (phase_if_any q t.0) ≡ true)

-- so it is of each run that continues after p on a component that is killed after q
pub record AreOrdered (scripts : List ScriptView) (p q : List Entry) : Type 0 where
  pub rank : ℕ → ℕ
  pub top : ℕ
  pub below : (c : ℕ) → rank c ≤ top
  pub each : (c b : ℕ) → is_active p b ≡ true → comp_of p b ≡ Some (record { 0 = c }) → phase q c ≡ Phase.Killed → IsOrdered scripts rank q c b (stand p b)

-- the call ends run b, which is not the main one, on a component that nothing can start again
pub record IsEnd (q : List Entry) (b : ℕ) (op : Op) : Type 0 where
  pub finish : op ≡ Op.Finish
  pub not_main : (b == 0) ≡ false
  pub comp : Comp
  pub on : (stand q b).comp ≡ Some comp
  pub ordinary : is_alive_type q comp.0 ≡ false

-- the verdict is no worse than this one
abbrev pub IsWithin : Verdict → List Entry → Type 0
IsWithin aim p = level_of (overall p) ≤ level_of aim

-- run b calls next what sets a verdict worse than this one
pub record IsBarredNow (aim : Verdict) (scripts : List ScriptView) (q : List Entry) (b : ℕ) : Type 0 where
  pub op : Op
  pub turns : turn scripts q b ≡ Some op
  pub bars : is_barred aim op ≡ true

-- another run than b, and than the main one, is barred on this component, which nothing can start again
pub record IsFelled (aim : Verdict) (scripts : List ScriptView) (q : List Entry) (b : ℕ) (comp : Comp) : Type 0 where
  pub not_main : (comp.0 == 0) ≡ false
  pub run : Run
  pub running : phase q comp.0 ≡ Phase.Running run
  pub on : (stand q run.0).comp ≡ Some comp
  pub other : (b == run.0) ≡ false
  pub not_main_run : (run.0 == 0) ≡ false
  pub ordinary : is_alive_type q comp.0 ≡ false
  pub barred : IsBarredNow aim scripts q run.0

-- the call of run b stops or kills such a component
pub record IsFelling (aim : Verdict) (scripts : List ScriptView) (q : List Entry) (b : ℕ) (op : Op) : Type 0 where
  pub comp : Comp
  pub halts_it : (op ≡ Op.Stop (Group.One comp)) ⊎ (op ≡ Op.Kill (Group.One comp))
  pub felled : IsFelled aim scripts q b comp

-- the call ends run b, which is not the main one, on a component that nothing can start again
abbrev pub is_end : List Entry → ℕ → Option Comp → Op → Bool
is_end q b (Some comp) Op.Finish = not (b == 0) && not (is_alive_type q comp.0)
is_end q b on op = false

-- the call, if there is one, sets a verdict worse than this one
abbrev pub bars_next : Verdict → Option Op → Bool
bars_next aim (Some op) = is_barred aim op
bars_next aim None = false

-- a component in this phase has a run on it, other than b and the main one, that is barred there, and nothing can start it again
abbrev pub is_felled : Verdict → List ScriptView → List Entry → ℕ → Comp → Option Phase → Bool
is_felled aim scripts q b comp (Some (Phase.Running run)) =
    (nat_lt run.0 (length scripts) && (not (comp.0 == 0) && (not (run.0 == 0) && not (b == run.0))))
    && (is_comp (stand q run.0).comp comp.0 && (not (is_alive_type q comp.0) && bars_next aim (turn scripts q run.0)))
is_felled aim scripts q b comp at = false

-- the call of run b stops or kills such a component
abbrev pub is_felling : Verdict → List ScriptView → List Entry → ℕ → Op → Bool
is_felling aim scripts q b (Op.Stop (Group.One comp)) = is_felled aim scripts q b comp (phase_if_any q comp.0)
is_felling aim scripts q b (Op.Kill (Group.One comp)) = is_felled aim scripts q b comp (phase_if_any q comp.0)
is_felling aim scripts q b op = false

-- nobody can see that run b made this call
abbrev pub is_silent : Verdict → List ScriptView → List Entry → ℕ → Op → Bool
is_silent aim scripts q b op = is_spent q op || (is_end q b (stand q b).comp op || (is_quiet aim op || is_felling aim scripts q b op))

-- nobody can see that run b made this call, except that the verdict may be worse then, but no worse than this one
abbrev pub IsSilent : Verdict → List ScriptView → List Entry → ℕ → Op → Type 0
IsSilent aim scripts q b op = (is_spent q op ≡ true) ⊎ (IsEnd q b op ⊎ ((is_quiet aim op ≡ true) ⊎ IsFelling aim scripts q b op))

-- q represents p
pub record IsFor (aim : Verdict) (scripts : List ScriptView) (q p : List Entry) : Type 0 where
  pub ahead : IsAhead aim scripts p q
  pub runs : (b : ℕ) → is_active q b ≡ true → IsFollowed scripts q b (stand p b) (stand q b)
  pub order : (level_of aim < level_of Verdict.Error) ⊎ AreOrdered scripts p q

-- each history that q represents has one of these that represents it
abbrev pub IsCovered : Verdict → List ScriptView → (List Entry → Type 0) → List Entry → Type 0
IsCovered aim scripts Seen q = (p : List Entry) → IsCourse scripts p → IsFor aim scripts q p → (r : List Entry) × Seen r × IsFor aim scripts r p

-- a call that continues and is no error
pub record GoesOn (scripts : List ScriptView) (q : List Entry) : Type 0 where
  pub entry : Entry
  pub turn : IsTurn scripts q entry
  pub on : goes_on entry.reply ≡ true
  pub no_fault : is_fault entry.reply ≡ false

-- what each call of run b leads to is seen, or its verdict is found, unless that is worse than is looked for
pub record IsClosedFor (aim : Verdict) (scripts : List ScriptView) (Seen : List Entry → Type 0) (found : List Witness) (q : List Entry) (e : Entry) : Type 0 where
  pub loud : is_fault e.reply ≡ false → is_spent q e.op ≡ false
  pub over : is_over (e ∷ q) ≡ true → is_found found (overall (e ∷ q)) ≡ true
  pub more : is_over (e ∷ q) ≡ false → IsWithin aim (e ∷ q) → IsCovered aim scripts Seen (e ∷ q)

-- whatever comes after q is seen, or its verdict is found, unless that is worse than is looked for
pub record IsClosed (aim : Verdict) (scripts : List ScriptView) (Seen : List Entry → Type 0) (found : List Witness) (q : List Entry) : Type 0 where
  pub course : IsCourse scripts q
  pub going : is_over q ≡ false
  pub within : IsWithin aim q
  pub main : is_active q 0 ≡ true
  pub main_stays : (stand q 0).left ≡ false
  pub each : (e : Entry) → e.caller.0 < length scripts → IsTurn scripts q e → goes_on e.reply ≡ true → IsClosedFor aim scripts Seen found q e
  pub stuck : (is_found found Verdict.Error ≡ true) ⊎ (GoesOn scripts q ⊎ (level_of aim < level_of Verdict.Error))
