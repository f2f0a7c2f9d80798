-- Two courses of one key of a search for local verdicts are twins.
use Rattle.std.proofs.{Common.{ℕ, ◌≡◌, ◌==◌, ◌<◌, ◌≤◌, nat_lt, if◌then◌else◌, Bool, true, false, Option, Some, None, All, List, [], ◌∷◌, length, refl, ap, sym, subst, ◌∙◌, arith}, lemmas.{Bool.{Decides.nat_tests, cond_both}, Option.{get_or_from_slice_get, slice_get_within}}}
use Rattle.tc_rules.specs.{Prelude.{Verdict, Entry, Op, Reply, Case, past_of, components, exists, local, local_if_any, is_active, is_wake, Target}, declared.component_state.ComponentState.ComponentState}
use Rattle.tc_step.specs.Prelude.{ScriptView}
use Rattle.tc_course.{specs.{Prelude.{stand, IsCourse}, Inside.wake_if}, proofs.Lemmas.{course_legal, run_in_range}}
use Rattle.tc_explore.{specs.{Inside.{Locals.IsTwinSeen, Twins.{IsGoing, IsKnown, IsTwin, key_of, local_code, wake_key, comp_key, run_key, run_key_of}}, declared.search.Met.Met}, proofs.{Alike.fresh, Keys.{alike_by_key, stand_by_key, IsOneKey, k, there, run_calls}, Sameness.same_verdict, Simulation.some_if, Places.wake_after}}

-- ---- the Wake to come

abbrev is_none_or_wake : Option Op → Bool
is_none_or_wake None = true
is_none_or_wake (Some op) = is_wake op

after_reply : (r : Reply) (op : Op) → is_none_or_wake (wake_if op r) ≡ true
after_reply Reply.Parked (Op.Wait k t) = refl
after_reply Reply.Parked _ = refl
after_reply _ op = refl

only_wakes : (past : List Entry) (b : ℕ) → is_none_or_wake (stand past b).wake ≡ true
only_wakes [] b = refl
only_wakes (e ∷ past) b =
    subst (λ w. is_none_or_wake w ≡ true) (sym (wake_after past e b))
    (cond_both (e.caller.0 == b) _ _ (λ w. is_none_or_wake w ≡ true) (λ k. after_reply e.reply e.op) (λ k. only_wakes past b))

-- what these two numbers say
abbrev unwake_of : ℕ → ℕ → Option Op
unwake_of k c =
    if k == 1 then Some (Op.Wake false (Target.One (record { 0 = c }))) else if k == 2 then Some (Op.Wake true (Target.One (record { 0 = c })))
    else if k == 3 then Some (Op.Wake false Target.Any) else if k == 4 then Some (Op.Wake true Target.Any)
    else if k == 5 then Some (Op.Wake false Target.All) else if k == 6 then Some (Op.Wake true Target.All) else None

abbrev unwake : List ℕ → Option Op
unwake [] = None
unwake (k ∷ []) = None
unwake (k ∷ c ∷ rest) = unwake_of k c

unwaken : (o : Option Op) → is_none_or_wake o ≡ true → unwake (wake_key o) ≡ o
unwaken None h = refl
unwaken (Some (Op.Wake true (Target.One c))) h = refl
unwaken (Some (Op.Wake false (Target.One c))) h = refl
unwaken (Some (Op.Wake _ _)) h = refl
unwaken (Some op) h = absurd cc

-- ---- what two courses of one key have in common

same_local : (a b : Option Verdict) → local_code a ≡ local_code b → a ≡ b
same_local None None h = refl
same_local (Some v) (Some w) h = ap Some (same_verdict v w (omega (arith, h)))
same_local _ _ h = absurd (omega (arith, h))

some_local : (s t : Bool) (x y : Verdict) → s ≡ true → t ≡ true → (if s then Some x else None) ≡ (if t then Some y else None) → x ≡ y
some_local true true x y a b h = cc
some_local false t x y a b h = absurd cc
some_local true false x y a b h = absurd cc

module _ (scripts : List ScriptView) (p q : List Entry) (some : 1 ≤ length scripts) (cp : IsCourse scripts p) (cq : IsCourse scripts q) (h : key_of true (length scripts) p ≡ key_of true (length scripts) q) where
  one : IsOneKey true (length scripts) p q
  one = k true scripts p q some cp cq h

  local_by : (c : ℕ) (t : Bool) → nat_lt c (components p) ≡ t → local p c ≡ local q c
  unfolding local_if_any
  local_by c true j =
      let both : comp_key true p c ≡ comp_key true q c = one.comps c (grind (arith, nat_tests)) in
      let codes : local_code (local_if_any p c) ≡ local_code (local_if_any q c) = cc in
      let in_both = there true scripts p q some cp cq h c true j in
      some_local (exists p c) (exists q c) (local p c) (local q c) in_both.0 in_both.1 (same_local (local_if_any p c) (local_if_any q c) codes)
  local_by c false j =
      let out = there true scripts p q some cp cq h c false j in
      ap (λ (x : ComponentState). x.local) (fresh (length scripts) p c (course_legal scripts p cp) out.0)
      ∙ sym (ap (λ (x : ComponentState). x.local) (fresh (length scripts) q c (course_legal scripts q cq) out.1))

  wake_by : (b : ℕ) → b < length scripts → is_active p b ≡ true → (stand p b).wake ≡ (stand q b).wake
  wake_by b near act =
      let waits = (run_calls true (is_active q b) (stand p b) (stand q b) (subst (λ x. run_key true x (stand p b) ≡ run_key_of true q b) act (one.runs b near))).waits in
      sym (unwaken (stand p b).wake (only_wakes p b)) ∙ (ap unwake waits ∙ unwaken (stand q b).wake (only_wakes q b))

  pub twin_by_key : IsTwin p q
  twin_by_key = record {
    alike = alike_by_key true scripts p q some cp cq h;
    locals = λ c. local_by c (nat_lt c (components p)) refl;
    stands = λ b act. stand_by_key true scripts p q some cp cq h b act (wake_by b (near b act) act);
  }
    where
      near : (b : ℕ) → is_active p b ≡ true → b < length scripts
      near b act = let on = some_if p b act in run_in_range (length scripts) p b on.0 some (course_legal scripts p cp) on.1

-- what a key that is known leads to
pub seen_by_twin_key : (scripts : List ScriptView) (met : Met) (t : Case) → 1 ≤ length scripts → IsGoing scripts t → All (IsGoing scripts) met.states.items →
    (met.is_whole ≡ true → IsKnown (key_of true (length scripts)) met.states.items (past_of t)) → IsTwinSeen met (past_of t)
seen_by_twin_key scripts met t some state each known = λ whole.
    let f = known whole in
    let there : IsGoing scripts f.1 = subst (IsGoing scripts) (get_or_from_slice_get met.states.items f.0 f.1 f.1 f.2) (each f.0 f.1 (slice_get_within met.states.items f.0 f.1 f.2)) in
    (f.0, f.1, f.2, twin_by_key scripts (past_of f.1) (past_of t) some there.on.course state.on.course (sym f.3))
