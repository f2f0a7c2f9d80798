-- What the end of a run does that nobody can see.
use Rattle.std.proofs.lemmas.Grind.{common_steps}
use Rattle.std.proofs.{Common.{ℕ, suc, ◌≡◌, ◌≤◌, ◌<◌, ◌==◌, ◌⊎◌, inl, inr, if◌then◌else◌, Bool, true, false, Option, Some, None, MatchOption, List, ◌∷◌, length, slice_get, get_or, refl, ap, sym, subst, ◌∙◌, arith, ⊎_elim}, lemmas.{Bool.{false_from_ne_true, both_ways, cases_lt}, Option.{slice_get-get_or, slice_get_within}}}
use Rattle.tc_rules.{specs.Prelude.{Comp, Entry, Op, Phase, comp_of, is_alive_type, halts, phase, phase_if_any, is_active, is_active_on, is_run_of, IsLegal, Verdict, Target, Reply}, proofs.Lemmas.{Deciding.{equal_if, self_equal}, LawsOfHistories.runs_if_active}}
use Rattle.tc_step.specs.{declared.step.{Status.Status, Step.Step}, Prelude.ScriptView}
use Rattle.tc_course.{specs.{Prelude.{CourseState, stand, steps_of, IsCourse}, Inside.call_of}, proofs.Lemmas.course_legal}
use Rattle.tc_explore.{specs.Inside.Simulation.{is_gone, is_spent, IsQuietAt, IsWakeOf, call_at, IsBefore, IsParkedAt, IsFollowed, IsLastAt, WasParked, IsLeaving, place_of, place_by, IsOrdered, IsFor, is_barred, IsBarredBefore, AreOrdered}, proofs.{Ahead.KeepsQuiet, Late.{gone_is, HaltsOne, halted, still_running, ahead_halted, halt_elsewhere, halt_runs}, Ordered.{gone_after, was_active}, Places.keeps_quiet, Simulation.lead_by, Alike.none_unless}}

-- the entry ends its caller, which is not the main run, on this component, which is not alive-type
pub record Ends (past : List Entry) (e : Entry) (c : Comp) : Type 0 where
  pub op : e.op ≡ Op.Finish
  pub reply : e.reply ≡ Reply.Ok
  pub not_main : (e.caller.0 == 0) ≡ false
  pub on : comp_of past e.caller.0 ≡ Some c
  pub runs : phase past c.0 ≡ Phase.Running e.caller
  pub ordinary : is_alive_type past c.0 ≡ false

-- a run that continues is what its component is running
pub running_on : (past : List Entry) (e : Entry) (c : Comp) → is_active past e.caller.0 ≡ true → comp_of past e.caller.0 ≡ Some c → phase past c.0 ≡ Phase.Running e.caller
running_on past e c act on =
    let r = runs_if_active past e act in
    let some : Some r.0 ≡ Some c = sym r.1.0 ∙ on in
    let same : r.0 ≡ c = cc in
    ap (λ (d : Comp). phase past d.0) (sym same) ∙ r.1.1

module _ {past : List Entry} {e : Entry} {c : Comp} where
  halts_one : Ends past e c → (d : ℕ) → halts (comp_of past e.caller.0) e d ≡ (c.0 == d)
  halts_one h d = grind (arith, common_steps)

  -- it halts only this component
  pub end_halts : Ends past e c → HaltsOne past e c.0
  end_halts h = grind (arith, common_steps)

-- ---- what is left after the end

finish_last : (me : Comp) (bound : List Comp) (o : Option Step) → call_of me bound o ≡ Op.Finish → o ≡ None
finish_last me bound None h = refl
finish_last me bound (Some (Step.Ask Status.Running t)) h = absurd cc
finish_last me bound _ h = absurd cc

none_behind : (steps : List Step) (j k : ℕ) → j ≤ k → slice_get steps j ≡ None → slice_get steps k ≡ None
none_behind steps j k l h = none_unless (slice_get steps k) (λ x m.
    let near : k < length steps = slice_get_within steps k x m in
    let within : j < length steps = omega arith in
    let there : slice_get steps j ≡ Some (get_or steps j x) = slice_get-get_or steps j x within in
    cc)

finish_behind : (scripts : List ScriptView) (b : ℕ) (t : CourseState) (o : Option Comp) (j k : ℕ) → j ≤ k → call_at scripts b t o j ≡ Op.Finish → call_at scripts b t o k ≡ Op.Finish
finish_behind scripts b t None j k l h = refl
finish_behind scripts b t (Some me) j k l h =
    let last : slice_get (steps_of scripts b) j ≡ None = finish_last me t.bound (slice_get (steps_of scripts b) j) h in
    ap (call_of me t.bound) (none_behind (steps_of scripts b) j k l last)

pub calls_as : (scripts : List ScriptView) (q : List Entry) (b : ℕ) (s t : CourseState) → IsFollowed scripts q b s t → (k : ℕ) → call_at scripts b s s.comp k ≡ call_at scripts b t t.comp k
calls_as scripts q b s t f k = ap (λ o. call_at scripts b s o k) f.comp ∙ same_call t.comp
  where
    same_call : (o : Option Comp) → call_at scripts b s o k ≡ call_at scripts b t o k
    same_call None = refl
    same_call (Some me) = ap (λ bound. call_of me bound (slice_get (steps_of scripts b) k)) f.bound

-- the next call of run b, which is known so, is no Wait
abbrev CallsNoWait : List ScriptView → ℕ → CourseState → Type 0
CallsNoWait scripts b t = (killed : Bool) (to : Target) → call_at scripts b t t.comp t.called ≡ Op.Wait killed to → ⊥

-- the Wait at which a run was parked that follows such a one was made
before_call : (scripts : List ScriptView) (q : List Entry) (b : ℕ) (s t : CourseState) (wake : Op) → CallsNoWait scripts b t → (h : IsParkedAt scripts q b s t wake) → h.place < t.called
before_call scripts q b s t wake no_wait h = grind (arith, common_steps)

place_most : (o : Option Op) (n : ℕ) → place_by o n ≤ n
place_most None n = omega arith
place_most (Some wake) n = omega arith

-- what the other has called from its place on is quiet
quiet_between : (scripts : List ScriptView) (q : List Entry) (b : ℕ) (s t : CourseState) → IsFollowed scripts q b s t → (k : ℕ) → place_of s ≤ k → k < t.called → IsQuietAt (length scripts) q b (call_at scripts b s s.comp k)
quiet_between scripts q b s t f k low near = subst (λ op. IsQuietAt (length scripts) q b op) (sym (calls_as scripts q b s t f k)) (by_wake s.wake low f.place)
  where
    by_wake : (o : Option Op) → place_by o s.called ≤ k → MatchOption o (IsBefore scripts q b s t) (λ wake. IsParkedAt scripts q b s t wake) → IsQuietAt (length scripts) q b (call_at scripts b t t.comp k)
    by_wake None low h = h.between k low near
    by_wake (Some wake) low h = let more = h.one_more in h.between k (omega (arith, more, low)) near

-- a run is leaving that follows one whose next call is no Wait, if the calls from there on are its end, or one is barred
follows_leaving : {aim : Verdict} (scripts : List ScriptView) (q : List Entry) (b : ℕ) (s t : CourseState) → IsFollowed scripts q b s t → CallsNoWait scripts b t →
    ((k : ℕ) → t.called ≤ k → s.called ≤ k → IsLastAt (length scripts) q b (call_at scripts b s s.comp k) ⊎ IsBarredBefore aim scripts b s k) → IsLeaving aim scripts q b s
follows_leaving {aim} scripts q b s t f no_wait last = record {
  parked = by_wake s.wake f.place;
  calls = λ k l. ⊎_elim (λ near. inl (inl (quiet_between scripts q b s t f k (omega (arith, place_most s.wake s.called, l)) near))) (λ far. last k far l) (cases_lt k t.called);
}
  where
    by_wake : (o : Option Op) → MatchOption o (IsBefore scripts q b s t) (λ wake. IsParkedAt scripts q b s t wake) → MatchOption o (Unit {0}) (λ wake. WasParked scripts q b s wake)
    by_wake None h = tt
    by_wake (Some wake) h = record {
      place = h.place;
      one_more = h.one_more;
      wake_of = subst (λ op. IsWakeOf op wake) (sym (calls_as scripts q b s t f h.place)) h.wake_of;
      quiet = subst (λ op. IsQuietAt (length scripts) q b op) (sym (calls_as scripts q b s t f h.place)) (h.between h.place (omega arith) (before_call scripts q b s t wake no_wait h));
    }

-- a run that follows one whose end comes next is leaving
followed_leaves : {aim : Verdict} (scripts : List ScriptView) (q : List Entry) (b : ℕ) (s t : CourseState) → IsFollowed scripts q b s t → call_at scripts b t t.comp t.called ≡ Op.Finish → IsLeaving aim scripts q b s
followed_leaves scripts q b s t f ends =
    follows_leaving scripts q b s t f (λ killed to waits. let no : Op.Finish ≡ Op.Wait killed to = sym ends ∙ waits in absurd cc)
    (λ k near l. inl (subst (λ op. IsLastAt (length scripts) q b op) (sym (calls_as scripts q b s t f k)) (inr (finish_behind scripts b t t.comp t.called k near ends))))

-- it has called no more steps
no_further : (scripts : List ScriptView) (q : List Entry) (b : ℕ) (s t : CourseState) → IsFollowed scripts q b s t → CallsNoWait scripts b t → s.called ≤ t.called
no_further scripts q b s t f no_wait = grind (arith, common_steps)

-- so is one that follows one that is barred
pub barred_leaves : {aim : Verdict} (scripts : List ScriptView) (q : List Entry) (b : ℕ) (s t : CourseState) → IsFollowed scripts q b s t → is_barred aim (call_at scripts b t t.comp t.called) ≡ true →
    IsLeaving aim scripts q b s
barred_leaves {aim} scripts q b s t f bars =
    let no_wait : CallsNoWait scripts b t =
    λ killed to waits. let no : is_barred aim (call_at scripts b t t.comp t.called) ≡ false = ap (is_barred aim) waits in absurd cc in
    let fewer = no_further scripts q b s t f no_wait in
    follows_leaving scripts q b s t f no_wait
    (λ k near l. inr (record { place = t.called; later = fewer; before = near; bars = ap (is_barred aim) (calls_as scripts q b s t f t.called) ∙ bars }))

-- from now on it has only quiet calls, and its end
followed_last : (scripts : List ScriptView) (q : List Entry) (b : ℕ) (s t : CourseState) → IsFollowed scripts q b s t → call_at scripts b t t.comp t.called ≡ Op.Finish → (k : ℕ) → place_of s ≤ k →
    IsLastAt (length scripts) q b (call_at scripts b s s.comp k)
followed_last scripts q b s t f ends k less =
    ⊎_elim (λ near. inl (quiet_between scripts q b s t f k less near))
    (λ far. subst (λ op. IsLastAt (length scripts) q b op) (sym (calls_as scripts q b s t f k)) (inr (finish_behind scripts b t t.comp t.called k far ends))) (cases_lt k t.called)

-- what it waits for is killed
waits_for_gone : (n : ℕ) (q : List Entry) (b : ℕ) (op : Op) (killed : Bool) (t : Comp) → IsLastAt n q b op → op ≡ Op.Wait killed (Target.One t) → is_gone (phase_if_any q t.0) ≡ true
waits_for_gone n q b op killed t (inl quiet) is = ap (is_spent q) (sym is) ∙ quiet.quiet
waits_for_gone n q b op killed t (inr ends) is = let no : Op.Finish ≡ Op.Wait killed (Target.One t) = sym ends ∙ is in absurd cc

-- ---- q makes the end of a run

module _ {aim : Verdict} (scripts : List ScriptView) (p q : List Entry) (e : Entry) (c : Comp) (cq : IsCourse scripts (e ∷ q)) (f : IsFor aim scripts q p) (h : Ends q e c) (act : is_active q e.caller.0 ≡ true)
    (ends : call_at scripts e.caller.0 (stand q e.caller.0) (stand q e.caller.0).comp (stand q e.caller.0).called ≡ Op.Finish) where
  lq : IsLegal (length scripts) (e ∷ q)
  lq = course_legal scripts (e ∷ q) cq

  keeps : KeepsQuiet (length scripts) q (e ∷ q)
  keeps = keeps_quiet (length scripts) q e lq

  one : HaltsOne q e c.0
  one = end_halts h

  running : phase p c.0 ≡ Phase.Running e.caller
  running = still_running scripts p q e c.0 e.caller lq keeps f.ahead one h.runs h.on h.not_main h.ordinary

  dead : phase (e ∷ q) c.0 ≡ Phase.Killed
  dead = halted scripts p q e c.0 e.caller lq keeps f.ahead one h.runs h.on h.not_main h.ordinary

  -- the component comes after all others by rank
  abbrev last_rank : AreOrdered scripts p q → ℕ → ℕ
  last_rank o d = if c.0 == d then suc o.top else o.rank d

  last_below : (o : AreOrdered scripts p q) (d : ℕ) (t : Bool) → (if t then suc o.top else o.rank d) ≤ suc o.top
  last_below o d true = omega arith
  last_below o d false = let l = o.below d in omega (arith, l)

  other_gone : (t : Comp) → is_gone (phase_if_any q t.0) ≡ true → (c.0 == t.0) ≡ false
  other_gone t gone = false_from_ne_true (c.0 == t.0) (λ k.
      let was : phase q c.0 ≡ Phase.Killed = subst (λ x. phase q x ≡ Phase.Killed) (sym (equal_if c.0 t.0 k)) (gone_is q t.0 gone).dead in
      let no : Phase.Killed ≡ Phase.Running e.caller = sym was ∙ h.runs in
      cc)

  kept_rank : (o : AreOrdered scripts p q) (t : Comp) → is_gone (phase_if_any q t.0) ≡ true → last_rank o t.0 ≡ o.rank t.0
  kept_rank o t gone = rw (other_gone t gone) refl

  -- what the run that ends waits for comes before it
  ordered_here : (o : AreOrdered scripts p q) (b : ℕ) → b ≡ e.caller.0 → IsOrdered scripts (last_rank o) (e ∷ q) c.0 b (stand p b)
  ordered_here o b own = λ k killed t l call.
      let last : (j : ℕ) → place_of (stand p b) ≤ j → IsLastAt (length scripts) q b (call_at scripts b (stand p b) (stand p b).comp j) =
      subst (λ x. (j : ℕ) → place_of (stand p x) ≤ j → IsLastAt (length scripts) q x (call_at scripts x (stand p x) (stand p x).comp j)) (sym own)
      (followed_last scripts q e.caller.0 (stand p e.caller.0) (stand q e.caller.0) (f.runs e.caller.0 act) ends) in
      let gone = waits_for_gone (length scripts) q b (call_at scripts b (stand p b) (stand p b).comp k) killed t (last k l) call in
      let here : last_rank o c.0 ≡ suc o.top = rw (self_equal c.0) refl in
      let there = kept_rank o t gone in
      let low = o.below t.0 in
      (omega (arith, here, there, low), gone_after (length scripts) q e lq t.0 gone)

  -- so does what others wait for
  ordered_there : (o : AreOrdered scripts p q) (d b : ℕ) → (c.0 == d) ≡ false → IsOrdered scripts o.rank q d b (stand p b) → IsOrdered scripts (last_rank o) (e ∷ q) d b (stand p b)
  ordered_there o d b other ranked = λ k killed t l call.
      let was = ranked k killed t l call in
      let here : last_rank o d ≡ o.rank d = rw other refl in
      let there = kept_rank o t was.1 in
      let less = was.0 in
      (omega (arith, here, there, less), gone_after (length scripts) q e lq t.0 was.1)

  runs_here : (b : ℕ) → is_active p b ≡ true → comp_of p b ≡ Some (record { 0 = c.0 }) → b ≡ e.caller.0
  unfolding is_active
  runs_here b on at = grind (arith, common_steps)

  ordered_by : (o : AreOrdered scripts p q) (d b : ℕ) → is_active p b ≡ true → comp_of p b ≡ Some (record { 0 = d }) → phase (e ∷ q) d ≡ Phase.Killed → (t : Bool) → (c.0 == d) ≡ t → IsOrdered scripts (last_rank o) (e ∷ q) d b (stand p b)
  ordered_by o d b on at dead_after true k =
      let same : c.0 ≡ d = equal_if c.0 d k in
      subst (λ x. IsOrdered scripts (last_rank o) (e ∷ q) x b (stand p b)) same (ordered_here o b (runs_here b on (at ∙ ap (λ (x : ℕ). Some (record { 0 = x })) (sym same))))
  ordered_by o d b on at dead_after false k = ordered_there o d b k (o.each d b on at (sym (halt_elsewhere (length scripts) lq one d k) ∙ dead_after))

  lead_order : AreOrdered scripts p q → AreOrdered scripts p (e ∷ q)
  lead_order o = record {
    rank = last_rank o;
    top = suc o.top;
    below = λ d. last_below o d (c.0 == d);
    each = λ d b on at dead. ordered_by o d b on at dead (c.0 == d) refl;
  }

  -- the run continues no more
  off : is_active (e ∷ q) e.caller.0 ≡ false
  unfolding is_active
  off = ap (is_active_on (e ∷ q) e.caller.0) (halt_runs one e.caller.0 ∙ h.on) ∙ ap (is_run_of e.caller.0) dead

  pub lead_end : IsFor aim scripts (e ∷ q) p
  lead_end =
      lead_by scripts p q e cq f
      (ahead_halted scripts p q e c.0 e.caller lq keeps f.ahead one h.runs h.on h.not_main h.ordinary (followed_leaves scripts q e.caller.0 (stand p e.caller.0) (stand q e.caller.0) (f.runs e.caller.0 act) ends))
      (⊎_elim inl (λ o. inr (lead_order o)) f.order) (was_active (length scripts) q e lq one.no_run) (λ on. absurd (both_ways (is_active (e ∷ q) e.caller.0) off on))
