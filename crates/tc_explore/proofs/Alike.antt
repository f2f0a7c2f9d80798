-- Histories that are alike are answered alike, except for questions, and are alike after the same entry.
use Rattle.std.proofs.lemmas.Grind.{common_steps}
use Rattle.std.{proofs.{lemmas.Bool.{or_parts, or_right, false_from_ne_true}, Common.{ℕ, ◌≡◌, ◌==◌, ◌&&◌, not, if◌then◌else◌, Bool, true, false, Option, Some, None, is_some, List, [], ◌∷◌, ◌++◌, length, drop, refl, ap, sym, ◌∙◌, arith, ◌≤◌}}, specs.List.{list_any, list_all}}
use Rattle.tc_rules.{specs.{Prelude.{Verdict, worse, worst, level_of, Comp, Entry, Op, Target, Phase, comps, comp_of, ptcs, exists, is_in, is_comp, is_alive_type, created, started_on, first_some, add_new, halts, kills, phase, phase_if_any, start_in, done, killed, is_running, is_killed, is_done, local, overall, gives, verdicts_of, holds, fault, names, special_fault, start_fault, components, is_active, is_active_on, is_run_of, IsLegal, Group, Reply, Fault}, Inside.{Kept.{blank, state_of}, Step.{next_local, next_phase, next_state}}, declared.{awaited.Awaited.Awaited, component_state.ComponentState.ComponentState}}, proofs.Lemmas.{Deciding.{equal_if, self_equal, first_alone}, Fresh.fresh_step, Keeping.{all_exist_same, kill_halts}, LawsOfHistories.killed_was_halted, Sound.starts, Steps.{state_step, worst-append}, Decided.{overall_more, no_better, not_on, not_before}}}
use Rattle.tc_verdict.proofs.Lemmas.Order.{worse_left, worse_right}
use Rattle.tc_explore.specs.Inside.Simulation.{IsAlike, is_gone, is_late, is_met}

-- a dynamic error gives the verdict error
pub gives_error : (op : Op) (f : Fault) → gives op (Reply.Fault f) ≡ Verdict.Error ∷ []
gives_error (Op.SetVerdict v) f = refl
gives_error op f = refl

-- ---- what is the same

pub none_unless : {A : Type 0} (o : Option A) → ((x : A) → o ≡ Some x → ⊥) → o ≡ None
none_unless None h = refl
none_unless (Some x) h = absurd (h x refl)

any_same : {A : Type 0} (f g : A → Bool) (xs : List A) → ((x : A) → f x ≡ g x) → list_any f xs ≡ list_any g xs
any_same f g [] h = refl
any_same f g (x ∷ xs) h = rw (h x, any_same f g xs h)

pub all_same : {A : Type 0} (f g : A → Bool) (xs : List A) → ((x : A) → f x ≡ g x) → list_all f xs ≡ list_all g xs
all_same f g [] h = refl
all_same f g (x ∷ xs) h = rw (h x, all_same f g xs h)

pub alike_sym : (p q : List Entry) → IsAlike p q → IsAlike q p
alike_sym p q a = grind (arith, common_steps)

module _ {p q : List Entry} where
  ptcs_same : IsAlike p q → ptcs p ≡ ptcs q
  ptcs_same s = ap (drop 1) s.comps_same

  any_of : IsAlike p q → (g : Phase → Bool) → list_any (λ c. g (phase p c)) (ptcs p) ≡ list_any (λ c. g (phase q c)) (ptcs q)
  any_of s g = any_same _ _ (ptcs p) (λ c. ap g (s.phase_same c)) ∙ ap (list_any (λ c. g (phase q c))) (ptcs_same s)

  all_of : IsAlike p q → (g : Phase → Bool) → list_all (λ c. g (phase p c)) (ptcs p) ≡ list_all (λ c. g (phase q c)) (ptcs q)
  all_of s g = all_same _ _ (ptcs p) (λ c. ap g (s.phase_same c)) ∙ ap (list_all (λ c. g (phase q c))) (ptcs_same s)

  done_same : IsAlike p q → (t : Target) → done p t ≡ done q t
  unfolding done
  done_same s (Target.One c) = ap is_done (s.phase_same c.0)
  done_same s Target.Any = any_of s is_done
  done_same s Target.All = all_of s (λ ph. not (is_running ph))

  killed_same : IsAlike p q → (t : Target) → killed p t ≡ killed q t
  unfolding killed
  killed_same s (Target.One c) = ap is_killed (s.phase_same c.0)
  killed_same s Target.Any = any_of s is_killed
  killed_same s Target.All = all_of s is_killed

  pub holds_alike : IsAlike p q → (a : Awaited) → holds p a ≡ holds q a
  unfolding holds
  holds_alike s a = rw (done_same s a.target, killed_same s a.target)

  active_on_same : IsAlike p q → (b : ℕ) (o : Option Comp) → is_active_on p b o ≡ is_active_on q b o
  active_on_same s b None = refl
  active_on_same s b (Some c) = ap (is_run_of b) (s.phase_same c.0)

  pub active_alike : IsAlike p q → (b : ℕ) → is_active p b ≡ is_active q b
  unfolding is_active
  active_alike s b = ap (is_active_on p b) (s.comp_same b) ∙ active_on_same s b (comp_of q b)

  start_same : IsAlike p q → (n c b : ℕ) → start_fault n p c b ≡ start_fault n q c b
  unfolding start_fault
  start_same s n c b = rw (s.phase_same c, s.comp_same b)

  pub components_same : IsAlike p q → components p ≡ components q
  unfolding components
  components_same s = ap length s.comps_same

  special_same : IsAlike p q → (n : ℕ) (op : Op) → special_fault n p op ≡ special_fault n q op
  special_same s n (Op.Create alive name) = rw (components_same s)
  special_same s n (Op.Start c run args) = start_same s n c.0 run.0
  special_same s n _ = refl

  pub fault_alike : IsAlike p q → (n b : ℕ) (op : Op) → fault n p b op ≡ fault n q b op
  unfolding fault
  fault_alike s n b op = rw (all_exist_same p q (names op) s.comps_same, special_same s n op)

  pub exists_same : IsAlike p q → (c : ℕ) → exists p c ≡ exists q c
  unfolding exists
  exists_same s c = ap (is_in c) s.comps_same

  pub any_phase_same : IsAlike p q → (c : ℕ) → phase_if_any p c ≡ phase_if_any q c
  unfolding phase_if_any
  any_phase_same s c = rw (exists_same s c, s.phase_same c)

  pub late_alike : IsAlike p q → (op : Op) → is_late p op ≡ is_late q op
  late_alike s (Op.Stop (Group.One c)) = ap (λ o. not (c.0 == 0) && is_gone o) (any_phase_same s c.0)
  late_alike s (Op.Kill (Group.One c)) = ap (λ o. not (c.0 == 0) && is_gone o) (any_phase_same s c.0)
  late_alike s _ = refl

  pub met_alike : IsAlike p q → (op : Op) → is_met p op ≡ is_met q op
  met_alike s (Op.Wait k (Target.One c)) = ap is_gone (any_phase_same s c.0)
  met_alike s _ = refl

-- the reply to the call depends only on what is alike
abbrev pub is_plain_call : Op → Bool
is_plain_call (Op.Running t) = false
is_plain_call (Op.Alive t) = false
is_plain_call (Op.Done t) = false
is_plain_call (Op.Killed t) = false
is_plain_call Op.GetVerdict = false
is_plain_call (Op.Wake k t) = false
is_plain_call _ = true

-- ---- one more entry

in_last : (c : ℕ) (ns : List ℕ) → is_in c (ns ++ c ∷ []) ≡ true
in_last c [] = rw (self_equal c) refl
in_last c (n ∷ ns) = rw (in_last c ns) (or_right (c == n) true refl)

not_made : (o : Option Comp) (c : ℕ) (ns : List ℕ) → is_in c (add_new o ns) ≡ false → is_comp o c ≡ false
not_made None c ns h = refl
not_made (Some d) c ns h = false_from_ne_true (d.0 == c) (λ k.
    let same : d.0 ≡ c = equal_if d.0 c k in
    let here : is_in c (add_new (Some d) ns) ≡ true = rw same (by_in (is_in c ns) refl) in
    cc)
  where
    by_in : (t : Bool) → is_in c ns ≡ t → is_in c (if t then ns else ns ++ c ∷ []) ≡ true
    by_in true k = k
    by_in false k = in_last c ns

-- what an entry starts exists
no_start : (n : ℕ) (past : List Entry) (e : Entry) (c : ℕ) → IsLegal n (e ∷ past) → exists past c ≡ false → start_in e c ≡ None
no_start n past e c legal out = none_unless (start_in e c) (λ r k. let there = (starts n past e c legal.0 (ap is_some k)).known in cc)

-- a component that is not yet made is blank
pub fresh : (n : ℕ) (past : List Entry) (c : ℕ) → IsLegal n past → exists past c ≡ false → state_of past c ≡ blank
unfolding exists phase local
fresh n [] c legal out = let t : (c == 0) ≡ false = (or_parts (c == 0) false out).0 in rw t refl
fresh n (e ∷ past) c legal out =
    let before : exists past c ≡ false = not_before past e c out in
    fresh_step past e c before (no_start n past e c legal before) (not_on n past e.caller.0 c legal.1 before) (fresh n past c legal.1 before)
    ∙ rw (not_made (created e.op e.reply) c (comps past) out) refl

-- what a component is doing after one more entry
pub phase_next : (n : ℕ) (past : List Entry) (e : Entry) (c : ℕ) → IsLegal n (e ∷ past) →
    phase (e ∷ past) c ≡ (if exists past c then next_phase (kills e c) (start_in e c) (halts (comp_of past e.caller.0) e c) (is_alive_type past c) (phase past c) else Phase.Inactive)
unfolding next_state
phase_next n past e c legal = by_test (exists past c) refl
  where
    by_test : (t : Bool) → exists past c ≡ t →
        phase (e ∷ past) c ≡ (if t then next_phase (kills e c) (start_in e c) (halts (comp_of past e.caller.0) e c) (is_alive_type past c) (phase past c) else Phase.Inactive)
    by_test true k = ap (λ (s : ComponentState). s.phase) (state_step past e c k (killed_was_halted n past c legal.1) (λ s. (starts n past e c legal.0 s).alive))
    by_test false k = ap (λ (s : ComponentState). s.phase) (fresh_step past e c k (no_start n past e c legal k) (not_on n past e.caller.0 c legal.1 k) (fresh n past c legal.1 k))

-- ---- verdicts

local_by : (on : Bool) (vs ws : List Verdict) → worst ((if on then vs else []) ++ ws) ≡ (if on then next_local vs (worst ws) else worst ws)
local_by true vs ws = worst-append vs ws
local_by false vs ws = refl

pub local_next : (past : List Entry) (e : Entry) (c : ℕ) →
    local (e ∷ past) c ≡ (if is_comp (comp_of past e.caller.0) c then next_local (gives e.op e.reply) (local past c) else local past c)
unfolding local
local_next past e c = local_by (is_comp (comp_of past e.caller.0) c) (gives e.op e.reply) (verdicts_of past c)

pub worse_most : (a v : Verdict) (n : ℕ) → level_of a ≤ n → level_of v ≤ n → level_of (worse a v) ≤ n
worse_most a v n k l = grind (arith, common_steps)

pub overall_grows : (n : ℕ) (past : List Entry) (e : Entry) → IsLegal n (e ∷ past) → level_of (overall past) ≤ level_of (overall (e ∷ past))
overall_grows n past e legal = rw (overall_more n past e legal) (no_better (gives e.op e.reply) (overall past))

-- what is no better stays so
pub next_no_better : (vs : List Verdict) (w x : Verdict) → level_of w ≤ level_of x → level_of (next_local vs w) ≤ level_of (next_local vs x)
next_no_better [] w x l = l
next_no_better (v ∷ vs) w x l =
    let m = next_no_better vs w x l in
    let left = worse_left (next_local vs x) v in
    worse_most (next_local vs w) v (level_of (worse (next_local vs x) v)) (omega (arith, m, left)) (worse_right (next_local vs x) v)

-- what is no worse than n stays so
pub next_within : (vs : List Verdict) (w x : Verdict) (n : ℕ) → level_of (next_local vs w) ≤ n → level_of x ≤ n → level_of (next_local vs x) ≤ n
next_within [] w x n k l = l
next_within (v ∷ vs) w x n k l =
    let left = worse_left (next_local vs w) v in
    let right = worse_right (next_local vs w) v in
    worse_most (next_local vs x) v n (next_within vs w x n (omega (arith, left, k)) l) (omega (arith, right, k))

-- ---- after an entry that changes nothing

-- the entry makes, starts, halts and kills nothing
pub record ChangesNothing (past : List Entry) (e : Entry) : Type 0 where
  pub made : created e.op e.reply ≡ None
  pub no_run : (b : ℕ) → started_on e b ≡ None
  pub no_start : (c : ℕ) → start_in e c ≡ None
  pub no_halt : (c : ℕ) → halts (comp_of past e.caller.0) e c ≡ false

none_killed : (past : List Entry) (e : Entry) → ChangesNothing past e → (c : ℕ) → kills e c ≡ false
none_killed past e u c = false_from_ne_true (kills e c) (λ k. let h = kill_halts (comp_of past e.caller.0) e c k in let j = u.no_halt c in cc)

pub kept_by : (t : Bool) (ph : Phase) → (t ≡ false → ph ≡ Phase.Inactive) → (if t then ph else Phase.Inactive) ≡ ph
kept_by true ph h = refl
kept_by false ph h = sym (h refl)

pub kind_kept : (t x : Bool) → (t ≡ false → x ≡ false) → (if t then x else false) ≡ x
kind_kept true x h = refl
kind_kept false x h = sym (h refl)

pub alike_unchanged : (n : ℕ) (past : List Entry) (e : Entry) → IsLegal n (e ∷ past) → ChangesNothing past e → IsAlike (e ∷ past) past
alike_unchanged n past e legal u = record {
  comps_same = ap (λ o. add_new o (comps past)) u.made;
  phase_same = λ c.
      phase_next n past e c legal
      ∙ (rw (u.no_halt c, none_killed past e u c, u.no_start c) refl
      ∙ kept_by (exists past c) (phase past c) (λ k. ap (λ (s : ComponentState). s.phase) (fresh n past c legal.1 k)));
  kind_same = λ c. rw u.made (kind_kept (exists past c) (is_alive_type past c) (λ k. ap (λ (s : ComponentState). s.alive_type) (fresh n past c legal.1 k)));
  comp_same = λ b. ap (first_some (comp_of past b)) (u.no_run b) ∙ first_alone (comp_of past b);
}
