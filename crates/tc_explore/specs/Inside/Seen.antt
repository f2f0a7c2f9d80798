-- The states that a search has seen.
use Rattle.std.specs.Prelude.{ℕ, ◌⊎◌, List, ◌∷◌, ◌≡◌, true, false, ◌<◌, length, slice_index_or, ◌≤◌, ◌&&◌, nat_le, ◌-◌, if◌then◌else◌, Bool, Option, None, Some, [], ◌++◌, slice_get, All}
use Rattle.tc_entry.specs.declared.limits.TheConstants.{BEHAVIOURS}
use Rattle.tc_rules.specs.Prelude.{Entry, local_if_any, is_active, Verdict, level_of, Op, is_fault, Case, past_of, is_over, overall, answer}
use Rattle.tc_step.specs.Prelude.{ScriptView}
use Rattle.tc_course.specs.{declared.witness.Witness.Witness, Prelude.{carried_on, IsTurn, IsCourse, CannotGo, AreWitnesses, AllFound, IsWitness, is_found, stand, goes_on, IsOn}}
use Rattle.tc_explore.specs.{Found.{AreAllMet, AreCovered, AreReached, Covers}, Inside.{Simulation.{IsAlike, IsClosed, IsClosedFor, IsFor, IsWithin, is_silent, is_spent}, Twins.{AreKeyed, IsKnown, key_of}}, declared.{findings.Findings.Findings, search.{Met.Met, Search.Search, Searched.Searched}}}

-- the next call of run b is made, if it can continue
abbrev pub IsStepped : List ScriptView → List Entry → List Entry → ℕ → Type 0
IsStepped scripts before after b =
    ((after ≡ before) × CannotGo scripts before b)
    ⊎ ((e : Entry) × (after ≡ e ∷ before) × (e.caller.0 ≡ b) × IsTurn scripts before e)

-- so it is, if it continues
abbrev pub IsSteppedIfActive : List ScriptView → List Entry → List Entry → ℕ → Type 0
IsSteppedIfActive scripts before after b =
    ((after ≡ before) × (is_active before b ≡ false)) ⊎ ((is_active before b ≡ true) × IsStepped scripts before after b)

-- in some course run b carries out that many calls
abbrev pub Reaches : List ScriptView → ℕ → ℕ → Type 0
Reaches scripts b k = (past : List Entry) × IsCourse scripts past × (carried_on past b ≡ k)

-- no verdict has two witnesses
abbrev pub IsOnce : List Witness → Type 0
IsOnce found =
    (i j : ℕ) (d : Witness) → i < length found → j < length found → (slice_index_or found i d).verdict ≡ (slice_index_or found j d).verdict → i ≡ j

-- each is a witness, and no verdict has two
pub record AreNoted (scripts : List ScriptView) (found : List Witness) : Type 0 where
  pub sound : AreWitnesses scripts found
  pub once : IsOnce found

-- after both each component has the same local verdict
abbrev pub HasSameLocals : List Entry → List Entry → Type 0
HasSameLocals p q = (c : ℕ) → local_if_any q c ≡ local_if_any p c

-- the same is known after both, and no run that continues has a Wake to come
pub record IsSame (p q : List Entry) : Type 0 where
  pub alike : IsAlike p q
  pub overall_same : overall p ≡ overall q
  pub stands : (b : ℕ) → is_active p b ≡ true → (stand p b ≡ stand q b) × ((stand q b).wake ≡ None)

-- no run has a Wake to come
abbrev pub HasNoWake : List Entry → Type 0
HasNoWake past = (b : ℕ) → (stand past b).wake ≡ None

-- a case at a course of these scripts that is not over, and in which no run has a Wake to come
pub record IsOpen (scripts : List ScriptView) (t : Case) : Type 0 where
  pub on : IsOn scripts t
  pub going : is_over (past_of t) ≡ false
  pub no_wake : HasNoWake (past_of t)

-- the next call of run b, if it continues and is no error, changes something
abbrev pub IsCalmAt : List ScriptView → List Entry → ℕ → Type 0
IsCalmAt scripts past b =
    (e : Entry) → e.caller.0 ≡ b → IsTurn scripts past e → goes_on e.reply ≡ true → is_fault e.reply ≡ false → is_spent past e.op ≡ false

-- so it is of each run
abbrev pub IsCalm : List ScriptView → List Entry → Type 0
IsCalm scripts past = (b : ℕ) → b < length scripts → IsCalmAt scripts past b

-- the call of run b, if it continues and is no error, changes something
abbrev pub IsLoudAt : ℕ → List Entry → ℕ → Op → Type 0
IsLoudAt n past b op = goes_on (answer n past b op) ≡ true → is_fault (answer n past b op) ≡ false → is_spent past op ≡ false

-- somebody can see that it was made
abbrev pub IsSeenBy : Verdict → List ScriptView → Case → ℕ → Op → Type 0
IsSeenBy aim scripts t b op =
    goes_on (answer t.behaviours (past_of t) b op) ≡ true → is_fault (answer t.behaviours (past_of t) b op) ≡ false → is_silent aim scripts (past_of t) b op ≡ false

-- a state that a search for verdicts up to this one keeps
pub record IsState (aim : Verdict) (scripts : List ScriptView) (t : Case) : Type 0 where
  pub opened : IsOpen scripts t
  pub calm : IsCalm scripts (past_of t)
  pub within : IsWithin aim (past_of t)

-- as many states as the limit are met
abbrev pub IsFull : Met → Type 0
IsFull met = met.limit ≤ length met.states.items

-- the states that a search has met: each of this kind, with its key; at most its limit, and as many if one was left out
pub record AreMet (all : Bool) (Fits : Case → Type 0) (met : Met) : Type 0 where
  pub some : 1 ≤ length met.scripts.now
  pub few : length met.scripts.now ≤ BEHAVIOURS
  pub within : length met.states.items ≤ met.limit
  pub each : All Fits met.states.items
  pub keyed : AreKeyed (key_of all (length met.scripts.now)) met
  pub full : met.is_whole ≡ false → IsFull met

-- a case of as many behaviours and of the same entries
pub record IsSameCase (t u : Case) : Type 0 where
  pub behaviours : u.behaviours ≡ t.behaviours
  pub entries : u.history ≡ t.history

-- the states are these, or that of this case more
abbrev pub IsWith : List Case → Case → List Case → Type 0
IsWith before t after = (after ≡ before) ⊎ ((u : Case) × IsSameCase t u × (after ≡ before ++ u ∷ []))

-- the state of this case is taken in, unless its key is known, or as many as the limit are met
pub record IsPlaced (all : Bool) (t : Case) (before after : Met) : Type 0 where
  pub scripts : after.scripts.now ≡ before.scripts.now
  pub limit : after.limit ≡ before.limit
  pub states : IsWith before.states.items t after.states.items
  pub within : length before.states.items ≤ before.limit → length after.states.items ≤ before.limit
  pub whole : after.is_whole ≡ true → before.is_whole ≡ true
  pub full : after.is_whole ≡ false → (before.is_whole ≡ false) ⊎ IsFull before
  pub keyed : AreKeyed (key_of all (length before.scripts.now)) before → AreKeyed (key_of all (length before.scripts.now)) after
  pub known : AreKeyed (key_of all (length before.scripts.now)) before → after.is_whole ≡ true → IsKnown (key_of all (length before.scripts.now)) after.states.items (past_of t)

-- there are as many numbers, and none is less
pub record IsNoLess (before after : List ℕ) : Type 0 where
  pub as_many : length after ≡ length before
  pub each : (b : ℕ) → b < length before → slice_index_or before b 0 ≤ slice_index_or after b 0

-- the runs below n of a course are counted, and nothing less than before
pub record IsCountedTo (scripts : List ScriptView) (before after : List ℕ) (past : List Entry) (n : ℕ) : Type 0 where
  pub reached : AreReached scripts after
  pub more : IsNoLess before after
  pub covers : (b : ℕ) → b < n → carried_on past b ≤ slice_index_or after b 0

-- the next call of run b, if it continues, is an error
abbrev pub IsStillAt : List ScriptView → List Entry → ℕ → Type 0
IsStillAt scripts past b = (e : Entry) → e.caller.0 ≡ b → IsTurn scripts past e → goes_on e.reply ≡ true → is_fault e.reply ≡ true

-- so it is of each of n runs
abbrev pub AreStill : List ScriptView → List Entry → ℕ → Type 0
AreStill scripts past n = (b : ℕ) → b < n → IsStillAt scripts past b

-- the next call of run b does not continue
abbrev pub IsHeldAt : List ScriptView → List Entry → ℕ → Type 0
IsHeldAt scripts past b = (e : Entry) → e.caller.0 ≡ b → IsTurn scripts past e → goes_on e.reply ≡ false

-- so it is of each run
abbrev pub AreHeld : List ScriptView → List Entry → Type 0
AreHeld scripts past = (b : ℕ) → b < length scripts → IsHeldAt scripts past b

-- the run at a place among n, from the highest on or from the lowest
abbrev pub run_at : Bool → ℕ → ℕ → ℕ
run_at true n k = n - 1 - k
run_at false n k = k

-- if none was left out one of the states is that after r
abbrev pub IsSeen : Met → List Entry → Type 0
IsSeen met r = met.is_whole ≡ true → (i : ℕ) × (t : Case) × (slice_get met.states.items i ≡ Some t) × IsSame r (past_of t)

-- what was found so far: witnesses, and how many calls each run carries out in some course, in these at least
abbrev pub IsNoted : List ScriptView → Findings → Type 0
IsNoted scripts f = AreNoted scripts f.witnesses.items × AreReached scripts f.reached.items × AreCovered f.reached.items f.witnesses.items

-- what the searches up to each aim have found, and how far they went
pub record IsSearched (scripts : List ScriptView) (limit : ℕ) (s : Searched) : Type 0 where
  pub noted : IsNoted scripts s.found
  pub met : AreAllMet scripts s.found.reached.items s.states
  pub complete : s.is_whole ≡ true → AllFound scripts s.found.witnesses.items
  pub within : s.states ≤ limit
  pub full : s.is_whole ≡ false → s.states ≡ limit

-- there may be more after it
abbrev pub IsLonger : {A : Type 0} → List A → List A → Type 0
IsLonger {A} before after = (more : List A) × (after ≡ before ++ more)

-- there may be more states, and if none is left out none was
pub record IsMetFurther (before after : Met) : Type 0 where
  pub scripts : after.scripts.now ≡ before.scripts.now
  pub limit : after.limit ≡ before.limit
  pub states : IsLonger before.states.items after.states.items
  pub whole : after.is_whole ≡ true → before.is_whole ≡ true

-- a search for verdicts: what it has found is so, and the calls of each run in its states are counted
pub record IsSearch (s : Search) : Type 0 where
  pub met : AreMet false (λ t. IsState s.aim s.met.scripts.now t) s.met
  pub found : IsNoted s.met.scripts.now s.found
  pub counted : All (λ t. Covers s.found.reached.items (past_of t)) s.met.states.items

-- it continues: what it has met and found stays so
pub record IsFurther (before after : Search) : Type 0 where
  pub search : IsSearch after
  pub aim : after.aim ≡ before.aim
  pub met : IsMetFurther before.met after.met
  pub witnesses : IsLonger before.found.witnesses.items after.found.witnesses.items
  pub reached : IsNoLess before.found.reached.items after.found.reached.items

-- the one continues the other, or is it, and whatever the other represents, it does
pub record StandsOn (aim : Verdict) (scripts : List ScriptView) (before after : Case) : Type 0 where
  pub further : (more : List Entry) × (past_of after ≡ more ++ past_of before)
  pub stands : (p : List Entry) → IsCourse scripts p → IsFor aim scripts (past_of before) p → IsFor aim scripts (past_of after) p

-- what each call of run b leads to is seen, or its verdict is found
abbrev pub IsRunClosed : Search → List Entry → ℕ → Type 0
IsRunClosed s q b =
    (e : Entry) → e.caller.0 ≡ b → IsTurn s.met.scripts.now q e → goes_on e.reply ≡ true → IsClosedFor s.aim s.met.scripts.now (IsSeen s.met) s.found.witnesses.items q e

-- whatever comes after q is one of its states, or its verdict is found
abbrev pub IsClosedFrom : Search → List Entry → Type 0
IsClosedFrom s q = IsClosed s.aim s.met.scripts.now (IsSeen s.met) s.found.witnesses.items q

-- so it is of each of its first n states
abbrev pub AreClosed : Search → ℕ → Type 0
AreClosed s n = (i : ℕ) → i < n → (t : Case) → slice_get s.met.states.items i ≡ Some t → IsClosedFrom s (past_of t)

-- a verdict that is found is as bad as that of the course, and no worse than is looked for
abbrev pub IsToldBy : Verdict → List Witness → Verdict → Type 0
IsToldBy aim found v = (w : Verdict) × (is_found found w ≡ true) × (level_of v ≤ level_of w) × (level_of w ≤ level_of aim)

-- a course gives this verdict
abbrev pub Gives : List ScriptView → Verdict → Type 0
Gives scripts verdict = (history : List Entry) × IsWitness scripts history verdict

-- so it is of each complete course whose verdict is no worse than is looked for
abbrev pub AllTold : Verdict → List ScriptView → List Witness → Type 0
AllTold aim scripts found = (v : Verdict) → level_of v ≤ level_of aim → Gives scripts v → IsToldBy aim found v

-- the verdict is no worse than is looked for, and found
abbrev pub is_found_within : List Witness → Verdict → Verdict → Bool
is_found_within found aim v = nat_le (level_of v) (level_of aim) && is_found found v

-- the verdict next better than the worst of these, if there is one
abbrev pub next_aim : List Witness → Verdict → Option Verdict
next_aim found aim =
    if is_found_within found aim Verdict.Error then Some Verdict.Fail
    else if is_found_within found aim Verdict.Fail then Some Verdict.Inconc
    else if is_found_within found aim Verdict.Inconc then Some Verdict.Pass
    else if is_found_within found aim Verdict.Pass then Some Verdict.None
    else None

-- each verdict worse than this one that a course gives is found
abbrev pub AreFoundAbove : Verdict → List ScriptView → List Witness → Type 0
AreFoundAbove aim scripts found = (v : Verdict) → level_of aim < level_of v → Gives scripts v → is_found found v ≡ true
