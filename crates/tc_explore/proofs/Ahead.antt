-- What holds of a history that is ahead of another by the ends of runs.
use Rattle.std.proofs.lemmas.Grind.{common_steps}
use Rattle.std.{proofs.{lemmas.Bool.{or_right, false_from_ne_true, or_left, or_cases, and_parts, and_from, cases_Bool}, Common.{ℕ, ◌≡◌, ◌==◌, ◌&&◌, ◌⊎◌, inl, inr, not, if◌then◌else◌, nat_le, Bool, true, false, Option, Some, None, is_some, List, [], ◌∷◌, length, drop, refl, ap, sym, subst, ◌∙◌, ◌≤◌, arith, ⊎_elim}}, specs.List.{list_any, list_all}}
use Rattle.tc_rules.{specs.{Prelude.{Run, Comp, Entry, Op, Target, Phase, Reply, is_ended, is_fault, comp_of, ptcs, exists, is_in, created, add_new, halts, kills, phase, start_in, done, killed, is_running, is_killed, is_done, gives, overall, holds, fault, names, all_exist, asks_many, special_fault, start_fault, components, answer, plain_answer, is_active, is_active_on, is_run_of, IsLegal, level_of, Verdict, Fault, is_alive_type}, Inside.Step.next_phase, declared.awaited.Awaited.Awaited}, proofs.Lemmas.{Deciding.{equal_if, self_equal}, Going.starts_still, Keeping.all_exist_same, Over.on_existing, Sound.plain_if, Decided.overall_more}}
use Rattle.tc_entry.specs.declared.limits.TheConstants.{COMPONENTS}
use Rattle.tc_step.specs.Prelude.{ScriptView}
use Rattle.tc_course.{specs.Prelude.{CourseState, stand, goes_on, IsCourse}, proofs.Lemmas.{stand_comp, stand_other}}
use Rattle.tc_explore.{specs.Inside.Simulation.{IsAlike, IsQuietAt, IsLeaving, IsEnding, IsAhead}, proofs.Alike.{is_plain_call, phase_next, next_no_better, none_unless}}

-- ---- waits

any_more : (f g : ℕ → Bool) (xs : List ℕ) → ((x : ℕ) → f x ≡ true → g x ≡ true) → list_any f xs ≡ true → list_any g xs ≡ true
any_more f g [] h k = k
any_more f g (x ∷ xs) h k = ⊎_elim (λ (j : f x ≡ true). or_left (g x) _ (h x j)) (λ (j : list_any f xs ≡ true). or_right (g x) _ (any_more f g xs h j)) (or_cases (f x) _ k)

all_more : (f g : ℕ → Bool) (xs : List ℕ) → ((x : ℕ) → f x ≡ true → g x ≡ true) → list_all f xs ≡ true → list_all g xs ≡ true
all_more f g [] h k = k
all_more f g (x ∷ xs) h k = let both = and_parts (f x) _ k in and_from (g x) _ (h x both.0) (all_more f g xs h both.1)

module _ {aim : Verdict} {scripts : List ScriptView} {p q : List Entry} where
  phase_more : IsAhead aim scripts p q → (g : Phase → Bool) → g Phase.Killed ≡ true → (c : ℕ) → g (phase p c) ≡ true → g (phase q c) ≡ true
  phase_more s g k c h = ⊎_elim (λ (e : phase p c ≡ phase q c). ap g (sym e) ∙ h) (λ (n : IsEnding aim scripts p q c). ap g n.ended ∙ k) (s.phases c)

  any_ahead : IsAhead aim scripts p q → (g : Phase → Bool) → g Phase.Killed ≡ true → list_any (λ c. g (phase p c)) (ptcs p) ≡ true → list_any (λ c. g (phase q c)) (ptcs q) ≡ true
  any_ahead s g k h =
      any_more (λ c. g (phase p c)) (λ c. g (phase q c)) (ptcs q) (phase_more s g k) (ap (λ cs. list_any (λ c. g (phase p c)) (drop 1 cs)) (sym s.comps_same) ∙ h)

  all_ahead : IsAhead aim scripts p q → (g : Phase → Bool) → g Phase.Killed ≡ true → list_all (λ c. g (phase p c)) (ptcs p) ≡ true → list_all (λ c. g (phase q c)) (ptcs q) ≡ true
  all_ahead s g k h =
      all_more (λ c. g (phase p c)) (λ c. g (phase q c)) (ptcs q) (phase_more s g k) (ap (λ cs. list_all (λ c. g (phase p c)) (drop 1 cs)) (sym s.comps_same) ∙ h)

  done_ahead : IsAhead aim scripts p q → (t : Target) → done p t ≡ true → done q t ≡ true
  unfolding done
  done_ahead s (Target.One c) h = phase_more s is_done refl c.0 h
  done_ahead s Target.Any h = any_ahead s is_done refl h
  done_ahead s Target.All h = all_ahead s (λ ph. not (is_running ph)) refl h

  killed_ahead : IsAhead aim scripts p q → (t : Target) → killed p t ≡ true → killed q t ≡ true
  unfolding killed
  killed_ahead s (Target.One c) h = phase_more s is_killed refl c.0 h
  killed_ahead s Target.Any h = any_ahead s is_killed refl h
  killed_ahead s Target.All h = all_ahead s is_killed refl h

  -- what has come stays so
  pub holds_ahead : IsAhead aim scripts p q → (a : Awaited) → holds p a ≡ true → holds q a ≡ true
  unfolding holds
  holds_ahead s a h = by_kind a.killed h
    where
      by_kind : (t : Bool) → (if t then killed p a.target else done p a.target) ≡ true → (if t then killed q a.target else done q a.target) ≡ true
      by_kind true k = killed_ahead s a.target k
      by_kind false k = done_ahead s a.target k

-- ---- the runs that continue

pub active_if : (past : List Entry) (b : ℕ) (c : Comp) → comp_of past b ≡ Some c → is_run_of b (phase past c.0) ≡ true → is_active past b ≡ true
unfolding is_active
active_if past b c e h = rw e h

module _ {aim : Verdict} {scripts : List ScriptView} {p q : List Entry} where
  pub ending_active : (c : ℕ) (n : IsEnding aim scripts p q c) → is_active p n.run.0 ≡ true
  ending_active c n = active_if p n.run.0 (record { 0 = c }) n.on (ap (is_run_of n.run.0) n.running ∙ self_equal n.run.0)

  pub ended_inactive : IsAhead aim scripts p q → (c : ℕ) (n : IsEnding aim scripts p q c) → is_active q n.run.0 ≡ false
  unfolding is_active
  ended_inactive s c n = ap (is_active_on q n.run.0) (sym (s.comp_same n.run.0) ∙ n.on) ∙ ap (is_run_of n.run.0) n.ended

  -- a run that continues after q is not among those that are leaving
  pub not_ending_run : IsAhead aim scripts p q → (b : ℕ) → is_active q b ≡ true → (c : ℕ) (n : IsEnding aim scripts p q c) → (b == n.run.0) ≡ false
  not_ending_run s b act c n = false_from_ne_true (b == n.run.0) (λ k.
      let on : is_active q b ≡ is_active q n.run.0 = ap (is_active q) (equal_if b n.run.0 k) in
      let off : is_active q n.run.0 ≡ false = ended_inactive s c n in
      cc)

  pub active_back : IsAhead aim scripts p q → (b : ℕ) → is_active q b ≡ true → is_active p b ≡ true
  unfolding is_active
  active_back s b h = grind (arith, common_steps)

  pub active_forth : IsAhead aim scripts p q → (b : ℕ) → is_active p b ≡ true → (is_active q b ≡ true) ⊎ ((c : ℕ) × (n : IsEnding aim scripts p q c) × (n.run.0 ≡ b))
  unfolding is_active
  active_forth s b h = by_comp (comp_of p b) refl h
    where
      by_comp : (o : Option Comp) → comp_of p b ≡ o → is_active_on p b o ≡ true → (is_active q b ≡ true) ⊎ ((c : ℕ) × (n : IsEnding aim scripts p q c) × (n.run.0 ≡ b))
      by_comp None on k = absurd cc
      by_comp (Some c) on k =
          ⊎_elim (λ (e : phase p c.0 ≡ phase q c.0). inl (ap (is_active_on q b) (sym (s.comp_same b) ∙ on) ∙ (ap (is_run_of b) (sym e) ∙ k)))
          (λ (n : IsEnding aim scripts p q c.0). inr (c.0, n, equal_if n.run.0 b (ap (is_run_of b) (sym n.running) ∙ k))) (s.phases c.0)

-- ---- errors

pub none_too : {A : Type 0} (f g : Option A) → is_some f ≡ is_some g → f ≡ None → g ≡ None
none_too None None h k = refl
none_too _ _ h k = absurd cc

pub some_too : {A : Type 0} (f g : Option A) (x : A) → is_some f ≡ is_some g → f ≡ Some x → (y : A) × (g ≡ Some y)
some_too f (Some y) x h k = (y, refl)
some_too None None x h k = absurd cc
some_too (Some z) None x h k = absurd cc

some_if_both : {A : Type 0} (t : Bool) (x y z : A) → is_some (if t then Some x else Some y) ≡ is_some (if t then Some x else Some z)
some_if_both true x y z = refl
some_if_both false x y z = refl

some_if_all : {A : Type 0} (s t : Bool) (x y : A) (f g : Option A) → is_some f ≡ is_some g → is_some (if s then Some x else if t then Some y else f) ≡ is_some (if s then Some x else if t then Some y else g)
some_if_all true t x y f g h = refl
some_if_all false true x y f g h = refl
some_if_all false false x y f g h = h

module _ {aim : Verdict} {scripts : List ScriptView} {p q : List Entry} where
  start_ahead : IsAhead aim scripts p q → (n c b : ℕ) → is_some (start_fault n p c b) ≡ is_some (start_fault n q c b)
  unfolding start_fault
  start_ahead s n c b = grind (arith, common_steps)

  special_ahead : IsAhead aim scripts p q → (n : ℕ) (op : Op) → is_some (special_fault n p op) ≡ is_some (special_fault n q op)
  unfolding components
  special_ahead s n (Op.Create alive name) = ap (λ cs. is_some (if nat_le COMPONENTS (length cs) then Some Fault.TooMany else None)) s.comps_same
  special_ahead s n (Op.Start c run args) = start_ahead s n c.0 run.0
  special_ahead s n _ = refl

  -- a call is an error in both or in none
  pub fault_ahead : IsAhead aim scripts p q → (n b : ℕ) (op : Op) → is_some (fault n p b op) ≡ is_some (fault n q b op)
  unfolding fault
  fault_ahead s n b op =
      rw (all_exist_same p q (names op) s.comps_same)
      (some_if_all (not (all_exist q (names op))) (asks_many op && not (b == 0)) Fault.NoComponent Fault.NotMain (special_fault n p op) (special_fault n q op) (special_ahead s n op))

-- ---- replies

pub on_not_ended : (r : Reply) → goes_on r ≡ true → is_ended r ≡ false
on_not_ended Reply.Ended h = absurd cc
on_not_ended _ h = refl

pub answer_plain : (n : ℕ) (past : List Entry) (b : ℕ) (op : Op) → is_active past b ≡ true → fault n past b op ≡ None → answer n past b op ≡ plain_answer past b op
unfolding answer
answer_plain n past b op act h = rw (act, h) refl

module _ {aim : Verdict} {scripts : List ScriptView} {p q : List Entry} where
  plain_ahead : IsAhead aim scripts p q → (b : ℕ) (op : Op) → is_plain_call op ≡ true → goes_on (plain_answer p b op) ≡ true → plain_answer p b op ≡ plain_answer q b op
  unfolding components
  plain_ahead s b (Op.Create alive name) h g = ap (λ (cs : List ℕ). Reply.Made (record { 0 = length cs })) s.comps_same
  plain_ahead s b (Op.Wait k t) h g = by_test (holds p (record { killed = k; target = t })) refl g
    where
      by_test : (z : Bool) → holds p (record { killed = k; target = t }) ≡ z → goes_on (if z then Reply.Matched else Reply.Parked) ≡ true →
          (if z then Reply.Matched else Reply.Parked) ≡ (if holds q (record { killed = k; target = t }) then Reply.Matched else Reply.Parked)
      by_test true j l = rw (holds_ahead s (record { killed = k; target = t }) j) refl
      by_test false j l = absurd cc
  plain_ahead s b _ h g = cc

  -- a call that is no error and is not parked is answered alike
  pub answer_ahead : IsAhead aim scripts p q → (n b : ℕ) (op : Op) → is_plain_call op ≡ true → is_active q b ≡ true → goes_on (answer n p b op) ≡ true → is_fault (answer n p b op) ≡ false → answer n p b op ≡ answer n q b op
  answer_ahead s n b op h act on plain =
      let is = plain_if n p b op (answer n p b op) (on_not_ended (answer n p b op) on) plain refl in
      let none : fault n q b op ≡ None = none_too (fault n p b op) (fault n q b op) (fault_ahead s n b op) is.no_fault in
      is.is ∙ (plain_ahead s b op h (ap goes_on (sym is.is) ∙ on) ∙ sym (answer_plain n q b op act none))

-- ---- after more entries

-- quiet calls stay quiet
abbrev pub KeepsQuiet : ℕ → List Entry → List Entry → Type 0
KeepsQuiet n q r = (b : ℕ) (op : Op) → IsQuietAt n q b op → IsQuietAt n r b op

pub leaving_later : {aim : Verdict} (scripts : List ScriptView) (q r : List Entry) (b : ℕ) (s : CourseState) → KeepsQuiet (length scripts) q r → IsLeaving aim scripts q b s → IsLeaving aim scripts r b s
leaving_later {aim} scripts q r b s keeps l = grind (arith, common_steps)

pub ahead_self : {aim : Verdict} (scripts : List ScriptView) (p : List Entry) → IsAhead aim scripts p p
ahead_self scripts p = record { comps_same = refl; phases = λ c. inl refl; kind_same = λ c. refl; comp_same = λ b. refl; no_better = omega arith }

-- a run that is leaving is so after more entries, if it is on its component still, and that is killed after q
pub ending_later : {aim : Verdict} {scripts : List ScriptView} {p q r s : List Entry} {c : ℕ} (n : IsEnding aim scripts p q c) → phase r c ≡ Phase.Running n.run → phase s c ≡ Phase.Killed → comp_of r n.run.0 ≡ comp_of p n.run.0 →
    is_alive_type r c ≡ is_alive_type p c → IsLeaving aim scripts s n.run.0 (stand r n.run.0) → IsEnding aim scripts r s c
ending_later n runs dead on kind leaving = record { run = n.run; running = runs; ended = dead; not_main = n.not_main; on = on ∙ n.on; ordinary = kind ∙ n.ordinary; leaving = leaving }

-- a component whose phase stays as it is after q
pub phase_later : {aim : Verdict} (scripts : List ScriptView) (p q r : List Entry) (c : ℕ) → phase r c ≡ phase q c → KeepsQuiet (length scripts) q r → (phase p c ≡ phase q c) ⊎ IsEnding aim scripts p q c → (phase p c ≡ phase r c) ⊎ IsEnding aim scripts p r c
phase_later scripts p q r c same keeps (inl e) = inl (e ∙ sym same)
phase_later scripts p q r c same keeps (inr n) = inr (ending_later n n.running (same ∙ n.ended) refl refl (leaving_later scripts q r n.run.0 (stand p n.run.0) keeps n.leaving))

-- q changes to what is alike
pub ahead_after : {aim : Verdict} (scripts : List ScriptView) (p q r : List Entry) → IsAhead aim scripts p q → IsAlike q r → KeepsQuiet (length scripts) q r → level_of (overall q) ≤ level_of (overall r) → IsAhead aim scripts p r
ahead_after {aim} scripts p q r s a keeps worse = record {
  comps_same = s.comps_same ∙ a.comps_same;
  phases = λ c. phase_later scripts p q r c (sym (a.phase_same c)) keeps (s.phases c);
  kind_same = λ c. s.kind_same c ∙ a.kind_same c;
  comp_same = λ b. s.comp_same b ∙ a.comp_same b;
  no_better = let l = s.no_better in omega (arith, l, worse);
}

-- what is known of a run that is leaving, after an entry of another
pub leaving_other : {aim : Verdict} (scripts : List ScriptView) (p q : List Entry) (e : Entry) (c : ℕ) (n : IsEnding aim scripts p q c) → IsCourse scripts p → (e.caller.0 == n.run.0) ≡ false → IsLeaving aim scripts q n.run.0 (stand (e ∷ p) n.run.0)
leaving_other {aim} scripts p q e c n cp other =
    let here : (stand p n.run.0).comp ≡ Some (record { 0 = c }) = stand_comp scripts p n.run.0 cp ∙ n.on in
    subst (λ s. IsLeaving aim scripts q n.run.0 s) (sym (stand_other p e n.run.0 (record { 0 = c }) other here)) n.leaving

-- or of its own
pub leaving_by : {aim : Verdict} (scripts : List ScriptView) (p q : List Entry) (e : Entry) (c : ℕ) (n : IsEnding aim scripts p q c) → IsCourse scripts p →
    ((e.caller.0 == n.run.0) ≡ true → IsLeaving aim scripts q n.run.0 (stand (e ∷ p) n.run.0)) → IsLeaving aim scripts q n.run.0 (stand (e ∷ p) n.run.0)
leaving_by scripts p q e c n cp own = ⊎_elim own (leaving_other scripts p q e c n cp) (cases_Bool (e.caller.0 == n.run.0))

-- one more entry of p, after which all is alike
pub ahead_turn : {aim : Verdict} (scripts : List ScriptView) (p q : List Entry) (e : Entry) → IsCourse scripts p → IsAlike (e ∷ p) p → IsAhead aim scripts p q →
    ((c : ℕ) (n : IsEnding aim scripts p q c) → (e.caller.0 == n.run.0) ≡ true → IsLeaving aim scripts q n.run.0 (stand (e ∷ p) n.run.0)) → level_of (overall (e ∷ p)) ≤ level_of (overall q) → IsAhead aim scripts (e ∷ p) q
ahead_turn {aim} scripts p q e cp a s own better = record {
  comps_same = a.comps_same ∙ s.comps_same;
  phases = λ c.
      ⊎_elim (λ (h : phase p c ≡ phase q c). inl (a.phase_same c ∙ h))
      (λ (n : IsEnding aim scripts p q c). inr (ending_later n (a.phase_same c ∙ n.running) n.ended (a.comp_same n.run.0) (a.kind_same c) (leaving_by scripts p q e c n cp (own c n)))) (s.phases c);
  kind_same = λ c. a.kind_same c ∙ s.kind_same c;
  comp_same = λ b. a.comp_same b ∙ s.comp_same b;
  no_better = better;
}

-- ---- the same entry of both

pub not_started : (n : ℕ) (past : List Entry) (e : Entry) (c : ℕ) (r : Run) → IsLegal n (e ∷ past) → phase past c ≡ Phase.Running r → start_in e c ≡ None
not_started n past e c r legal running = none_unless (start_in e c) (λ x k.
    let off : is_running (phase past c) ≡ false = starts_still n past e c x legal.0 k in
    let on : is_running (phase past c) ≡ true = ap is_running running in
    cc)

module _ {aim : Verdict} (scripts : List ScriptView) (p q : List Entry) (e : Entry) (cp : IsCourse scripts p) (lp : IsLegal (length scripts) (e ∷ p)) (lq : IsLegal (length scripts) (e ∷ q)) (s : IsAhead aim scripts p q)
    (act : is_active q e.caller.0 ≡ true) (keeps : KeepsQuiet (length scripts) q (e ∷ q)) where
  exists_same : (c : ℕ) → exists p c ≡ exists q c
  unfolding exists
  exists_same c = ap (is_in c) s.comps_same

  after_same : (c : ℕ) → phase p c ≡ phase q c → phase (e ∷ p) c ≡ phase (e ∷ q) c
  after_same c h = phase_next (length scripts) p e c lp ∙ (rw (exists_same c, s.comp_same e.caller.0, s.kind_same c, h) refl ∙ sym (phase_next (length scripts) q e c lq))

  after_ending : (c : ℕ) → IsEnding aim scripts p q c → (phase (e ∷ p) c ≡ phase (e ∷ q) c) ⊎ IsEnding aim scripts (e ∷ p) (e ∷ q) c
  after_ending c n = by_tests (kills e c) (halts (comp_of p e.caller.0) e c) refl refl
    where
      there : exists p c ≡ true
      there = on_existing (length scripts) p n.run.0 (record { 0 = c }) lp.1 n.on

      none : start_in e c ≡ None
      none = not_started (length scripts) p e c n.run lp n.running

      after_p : phase (e ∷ p) c ≡ next_phase (kills e c) None (halts (comp_of p e.caller.0) e c) false (Phase.Running n.run)
      after_p = phase_next (length scripts) p e c lp ∙ rw (there, none, n.ordinary, n.running) refl

      after_q : phase (e ∷ q) c ≡ next_phase (kills e c) None (halts (comp_of p e.caller.0) e c) false Phase.Killed
      after_q = phase_next (length scripts) q e c lq ∙ rw (← exists_same c, ← s.comp_same e.caller.0, ← s.kind_same c, there, none, n.ordinary, n.ended) refl

      by_tests : (k h : Bool) → kills e c ≡ k → halts (comp_of p e.caller.0) e c ≡ h → (phase (e ∷ p) c ≡ phase (e ∷ q) c) ⊎ IsEnding aim scripts (e ∷ p) (e ∷ q) c
      by_tests true h i j = inl (after_p ∙ (rw i refl ∙ sym after_q))
      by_tests false true i j = inl (after_p ∙ (rw (j, i) refl ∙ sym after_q))
      by_tests false false i j = inr (ending_later n (after_p ∙ rw (j, i) refl) (after_q ∙ rw (j, i) refl) (rw n.on refl) (rw (there, n.ordinary) refl)
          (leaving_later scripts q (e ∷ q) n.run.0 (stand (e ∷ p) n.run.0) keeps (leaving_other scripts p q e c n cp (not_ending_run s e.caller.0 act c n))))

  -- what is killed after q was so before, or is killed after p too
  pub died_before : (c : ℕ) → phase (e ∷ q) c ≡ Phase.Killed → (phase q c ≡ Phase.Killed) ⊎ (phase (e ∷ p) c ≡ Phase.Killed)
  died_before c dead = ⊎_elim (λ h. inr (after_same c h ∙ dead)) (λ (n : IsEnding aim scripts p q c). inl n.ended) (s.phases c)

  pub ahead_step : IsAhead aim scripts (e ∷ p) (e ∷ q)
  unfolding exists
  ahead_step = record {
    comps_same = ap (add_new (created e.op e.reply)) s.comps_same;
    phases = λ c. ⊎_elim (λ h. inl (after_same c h)) (after_ending c) (s.phases c);
    kind_same = λ c. rw (s.comps_same, s.kind_same c) refl;
    comp_same = λ b. rw (s.comp_same b) refl;
    no_better = rw (overall_more (length scripts) p e lp, overall_more (length scripts) q e lq) (next_no_better (gives e.op e.reply) (overall p) (overall q) s.no_better);
  }
