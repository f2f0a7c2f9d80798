-- An entry that changes no component's phase, and whose caller continues, wakes nobody.
use Rattle.std.{proofs.Common.{ℕ, ◌≡◌, ◌==◌, ◌&&◌, ◌||◌, not, if◌then◌else◌, Bool, true, false, Option, Some, None, is_some, List, [], ◌∷◌, ◌++◌, drop, refl, ap, sym, ◌∙◌}, specs.List.{list_any, list_all}}
use Rattle.tc_entry.specs.{Prelude.{Run, is_ended, is_fault, is_ok}, declared.comp.Comp.Comp, declared.entry.Entry.Entry, declared.op.Op.Op, declared.op.Target.Target, declared.phase.Phase.Phase, declared.reply.Fault.Fault, declared.reply.Reply.Reply}
use Rattle.tc_rules.{specs.{Answers.{answer, is_active, is_run_of}, Inside.Words.{answer_unless, asks_many, is_active_on, first_some, starts_on, starts_run, phase_if_not_killed}, Faults.{all_exist, fault, target_names}, History.{add_new, comp_of, comps, created, ends_case, exists, halts, is_alive_type, is_finish, is_in, kills}, Inside.Laws.{WakesNobody, halting_op, is_quiet, keeps_phases, lets_go_on}, Legal.IsLegal, Phases.{last_run, phase, start_in, was_halted, was_killed}, Status.{done, is_done, is_killed, is_running, killed}, Waiting.{holds, is_still, is_stuck, parks, waiting}, declared.awaited.Awaited.Awaited}, proofs.{Lemmas.Deciding.{and_left, and_no, and_right, first_alone, if_same, no_finish, no_kill, no_stop, no_stop_case, none_if, self_equal}, Lemmas.LawsOfHistories.answered_is_running, Lemmas.Over.{on_existing, stays, still_exist}, Lemmas.Sound.starts, Lemmas.Stuck.{is_in_comps, one_false}}}

-- what an operation that keeps the phases is not

halts_none : (op : Op) → keeps_phases op ≡ true → halting_op op ≡ false
halts_none (Op.Start d run args) h = refl
halts_none (Op.Stop group) h = absurd cc
halts_none (Op.Kill group) h = absurd cc
halts_none Op.StopCase h = absurd cc
halts_none Op.Finish h = absurd cc
halts_none _ h = refl

none_on : (op : Op) (c : ℕ) → keeps_phases op ≡ true → starts_on op c ≡ None
none_on (Op.Start d run args) c h = absurd cc
none_on _ c h = refl

no_run : (op : Op) (b : ℕ) → keeps_phases op ≡ true → starts_run op b ≡ None
no_run (Op.Start d run args) b h = absurd cc
no_run _ b h = refl

not_ended : (reply : Reply) → lets_go_on reply ≡ true → is_ended reply ≡ false
not_ended Reply.Ended h = absurd cc
not_ended _ h = refl

no_fault : (reply : Reply) → lets_go_on reply ≡ true → is_fault reply ≡ false
no_fault (Reply.Fault f) h = absurd cc
no_fault _ h = refl

not_parked : (op : Op) (reply : Reply) → lets_go_on reply ≡ true → parks op reply ≡ None
not_parked op Reply.Parked h = absurd cc
not_parked op _ h = refl

-- what is known of a quiet entry, and of one replied Ended
pub record Quiet (e : Entry) : Type 0 where
  pub ends : ends_case e ≡ false
  pub kill : (c : ℕ) → kills e c ≡ false
  pub halt : (own : Option Comp) (c : ℕ) → halts own e c ≡ false
  pub start : (c : ℕ) → start_in e c ≡ None
  pub run : (b : ℕ) → (if is_ok e.reply then starts_run e.op b else None) ≡ None
  pub park : parks e.op e.reply ≡ None

quiet : (e : Entry) → is_quiet e.op e.reply ≡ true → Quiet e
quiet e h =
    let k : keeps_phases e.op ≡ true = and_left (keeps_phases e.op) (lets_go_on e.reply) h in
    let g : lets_go_on e.reply ≡ true = and_right (keeps_phases e.op) (lets_go_on e.reply) h in
    let a : is_ended e.reply ≡ false = not_ended e.reply g in
    let f : is_fault e.reply ≡ false = no_fault e.reply g in
    let s : halting_op e.op ≡ false = halts_none e.op k in
    let n : is_finish e.op ≡ false = no_finish e.op s in
    let ends : ends_case e ≡ false = rw (a, f, no_stop_case e.op s, n, no_stop e.op 0 s, no_kill e.op 0 s) refl in
    record {
      ends = ends;
      kill = λ c. rw (ends, a, no_kill e.op c s) refl;
      halt = λ own c. rw (ends, a, n, no_stop e.op c s, no_kill e.op c s) refl;
      start = λ c. rw (none_on e.op c k) (if_same (is_ok e.reply) None);
      run = λ b. rw (no_run e.op b k) (if_same (is_ok e.reply) None);
      park = not_parked e.op e.reply g;
    }

-- components that were started, or killed, exist

started_exists : (n : ℕ) (past : List Entry) (c : ℕ) → IsLegal n past → is_some (last_run past c) ≡ true → exists past c ≡ true
unfolding exists
started_exists n [] c legal h = by_test (c == 0) h
  where
    by_test : (t : Bool) → is_some (if t then Some (let z : Run = record { 0 = 0 } in z) else None) ≡ true → (t || false) ≡ true
    by_test true k = refl
    by_test false k = absurd cc
started_exists n (e ∷ past) c legal h =
    stays past e c
    (by_start (start_in e c) (last_run past c) (λ s. (starts n past e c legal.0 s).known) (started_exists n past c legal.1) refl h)
  where
    by_start : (o last : Option Run) → (is_some (start_in e c) ≡ true → exists past c ≡ true) → (is_some last ≡ true → exists past c ≡ true) → start_in e c ≡ o → is_some (first_some o last) ≡ true → exists past c ≡ true
    by_start (Some r) last f g is k = f (ap is_some is)
    by_start None last f g is k = g k

killed_exists : (past : List Entry) (c : ℕ) → was_killed past c ≡ true → exists past c ≡ true
killed_exists [] c h = absurd cc
killed_exists (e ∷ past) c h = stays past e c (either (exists past c) (kills e c) (was_killed past c) (killed_exists past c) h)
  where
    either : (x k w : Bool) → (w ≡ true → x ≡ true) → ((x && k) || w) ≡ true → x ≡ true
    either true k w f t = refl
    either false k w f t = f t

not_if : (x y : Bool) → (x ≡ true → y ≡ true) → y ≡ false → x ≡ false
not_if true y f h = sym (f refl) ∙ h
not_if false y f h = refl

unmade : (n : ℕ) (past : List Entry) (c : ℕ) → IsLegal n past → exists past c ≡ false → phase past c ≡ Phase.Inactive
unfolding phase
unmade n past c legal h =
    let k : was_killed past c ≡ false = not_if (was_killed past c) (exists past c) (killed_exists past c) h in
    let r : last_run past c ≡ None = none_if (last_run past c) (not_if (is_some (last_run past c)) (exists past c) (started_exists n past c legal) h) in
    rw (k, r)

pub same_phase : (n : ℕ) (past : List Entry) (e : Entry) (c : ℕ) → IsLegal n past → Quiet e → phase (e ∷ past) c ≡ phase past c
unfolding phase
same_phase n past e c legal q =
    let k : was_killed (e ∷ past) c ≡ was_killed past c = rw (q.kill c, and_no (exists past c)) in
    let s : last_run (e ∷ past) c ≡ last_run past c = rw (q.start c) in
    let h : was_halted (e ∷ past) c ≡ was_halted past c = rw (q.start c, q.halt (comp_of past e.caller.0) c) in
    by_test (exists past c) refl k s h
  where
    by_test : (t : Bool) → exists past c ≡ t → was_killed (e ∷ past) c ≡ was_killed past c → last_run (e ∷ past) c ≡ last_run past c → was_halted (e ∷ past) c ≡ was_halted past c →
        (if was_killed (e ∷ past) c then Phase.Killed else phase_if_not_killed (last_run (e ∷ past) c) (was_halted (e ∷ past) c) (is_alive_type (e ∷ past) c))
        ≡ (if was_killed past c then Phase.Killed else phase_if_not_killed (last_run past c) (was_halted past c) (is_alive_type past c))
    by_test true x k s h =
        let a : is_alive_type (e ∷ past) c ≡ is_alive_type past c = rw x in
        rw (k, s, h, a)
    by_test false x k s h =
        let r : last_run past c ≡ None = none_if (last_run past c) (not_if (is_some (last_run past c)) (exists past c) (started_exists n past c legal) x) in
        rw (k, s, h, r)

-- lists of components that may have one more

any_more : (f g : ℕ → Bool) (cs : List ℕ) → ((c : ℕ) → g c ≡ f c) → list_any f cs ≡ false → list_any g cs ≡ false
any_more f g [] same h = refl
any_more f g (c ∷ cs) same h = rw (same c) (by_test (f c) h (any_more f g cs same))
  where
    by_test : (t : Bool) → (t || list_any f cs) ≡ false → (list_any f cs ≡ false → list_any g cs ≡ false) → (t || list_any g cs) ≡ false
    by_test true k i = absurd cc
    by_test false k i = i k

any_last : (g : ℕ → Bool) (cs : List ℕ) (d : ℕ) → list_any g cs ≡ false → g d ≡ false → list_any g (cs ++ d ∷ []) ≡ false
any_last g [] d h k = rw k
any_last g (c ∷ cs) d h k = by_test (g c) h (λ i. any_last g cs d i k)
  where
    by_test : (t : Bool) → (t || list_any g cs) ≡ false → (list_any g cs ≡ false → list_any g (cs ++ d ∷ []) ≡ false) → (t || list_any g (cs ++ d ∷ [])) ≡ false
    by_test true m i = absurd cc
    by_test false m i = i m

any_grown : (f g : ℕ → Bool) (cs : List ℕ) (o : Option Comp) → ((c : ℕ) → g c ≡ f c) → ((c : ℕ) → is_in c cs ≡ false → f c ≡ false) → list_any f (drop 1 cs) ≡ false → list_any g (drop 1 (add_new o cs)) ≡ false
any_grown f g cs None same new h = any_more f g (drop 1 cs) same h
any_grown f g cs (Some d) same new h = by_test (is_in d.0 cs) refl
  where
    grown : (xs : List ℕ) → list_any f (drop 1 xs) ≡ false → g d.0 ≡ false → list_any g (drop 1 (xs ++ d.0 ∷ [])) ≡ false
    grown [] i k = refl
    grown (x ∷ xs) i k = any_last g xs d.0 (any_more f g xs same i) k

    by_test : (t : Bool) → is_in d.0 cs ≡ t → list_any g (drop 1 (if t then cs else cs ++ d.0 ∷ [])) ≡ false
    by_test true k = any_more f g (drop 1 cs) same h
    by_test false k = grown cs h (same d.0 ∙ new d.0 k)

all_more : (f g : ℕ → Bool) (cs more : List ℕ) → ((c : ℕ) → g c ≡ f c) → list_all f cs ≡ false → list_all g (cs ++ more) ≡ false
all_more f g [] more same h = absurd cc
all_more f g (c ∷ cs) more same h = rw (same c) (by_test (f c) h (all_more f g cs more same))
  where
    by_test : (t : Bool) → (t && list_all f cs) ≡ false → (list_all f cs ≡ false → list_all g (cs ++ more) ≡ false) → (t && list_all g (cs ++ more)) ≡ false
    by_test true k i = i k
    by_test false k i = refl

all_same : (f g : ℕ → Bool) (cs : List ℕ) → ((c : ℕ) → g c ≡ f c) → list_all f cs ≡ false → list_all g cs ≡ false
all_same f g [] same h = absurd cc
all_same f g (c ∷ cs) same h = rw (same c) (by_test (f c) h (all_same f g cs same))
  where
    by_test : (t : Bool) → (t && list_all f cs) ≡ false → (list_all f cs ≡ false → list_all g cs ≡ false) → (t && list_all g cs) ≡ false
    by_test true k i = i k
    by_test false k i = refl

all_grown : (f g : ℕ → Bool) (cs : List ℕ) (o : Option Comp) → ((c : ℕ) → g c ≡ f c) → list_all f (drop 1 cs) ≡ false → list_all g (drop 1 (add_new o cs)) ≡ false
all_grown f g cs None same h = all_same f g (drop 1 cs) same h
all_grown f g cs (Some d) same h = by_test (is_in d.0 cs)
  where
    grown : (xs : List ℕ) → list_all f (drop 1 xs) ≡ false → list_all g (drop 1 (xs ++ d.0 ∷ [])) ≡ false
    grown [] i = absurd cc
    grown (x ∷ xs) i = all_more f g xs (d.0 ∷ []) same i

    by_test : (t : Bool) → list_all g (drop 1 (if t then cs else cs ++ d.0 ∷ [])) ≡ false
    by_test true = all_same f g (drop 1 cs) same h
    by_test false = grown cs h

-- what had not come has not come by a quiet entry

not_in : (past : List Entry) (c : ℕ) → is_in c (comps past) ≡ false → exists past c ≡ false
unfolding exists
not_in past c h = h

not_done : (n : ℕ) (past : List Entry) (e : Entry) (t : Target) → IsLegal n past → Quiet e → done past t ≡ false → done (e ∷ past) t ≡ false
unfolding done
not_done n past e (Target.One c) legal q h = ap is_done (same_phase n past e c.0 legal q) ∙ h
not_done n past e Target.Any legal q h =
    any_grown (λ c. is_done (phase past c)) (λ c. is_done (phase (e ∷ past) c)) (comps past) (created e.op e.reply) (λ c. ap is_done (same_phase n past e c legal q))
    (λ c k. ap is_done (unmade n past c legal (not_in past c k))) h
not_done n past e Target.All legal q h =
    all_grown (λ c. not (is_running (phase past c))) (λ c. not (is_running (phase (e ∷ past) c))) (comps past) (created e.op e.reply) (λ c. ap (λ p. not (is_running p)) (same_phase n past e c legal q)) h

not_killed : (n : ℕ) (past : List Entry) (e : Entry) (t : Target) → IsLegal n past → Quiet e → killed past t ≡ false → killed (e ∷ past) t ≡ false
unfolding killed
not_killed n past e (Target.One c) legal q h = ap is_killed (same_phase n past e c.0 legal q) ∙ h
not_killed n past e Target.Any legal q h =
    any_grown (λ c. is_killed (phase past c)) (λ c. is_killed (phase (e ∷ past) c)) (comps past) (created e.op e.reply) (λ c. ap is_killed (same_phase n past e c legal q))
    (λ c k. ap is_killed (unmade n past c legal (not_in past c k))) h
not_killed n past e Target.All legal q h =
    all_grown (λ c. is_killed (phase past c)) (λ c. is_killed (phase (e ∷ past) c)) (comps past) (created e.op e.reply) (λ c. ap is_killed (same_phase n past e c legal q)) h

not_yet : (n : ℕ) (past : List Entry) (e : Entry) (k : Bool) (t : Target) → IsLegal n past → Quiet e → holds past (record { killed = k; target = t }) ≡ false → holds (e ∷ past) (record { killed = k; target = t }) ≡ false
unfolding holds
not_yet n past e true t legal q h = not_killed n past e t legal q h
not_yet n past e false t legal q h = not_done n past e t legal q h

-- the caller continues, so the case is not stuck

not_stuck : (n : ℕ) (past : List Entry) (e : Entry) → IsLegal n (e ∷ past) → Quiet e → is_ended e.reply ≡ false → is_stuck (e ∷ past) ≡ false
unfolding is_stuck
not_stuck n past e legal q goes_on =
    let on = answered_is_running n past e legal goes_on in
    let c : Comp = on.0 in
    let there : is_in c.0 (comps (e ∷ past)) ≡ true = is_in_comps (e ∷ past) c.0 (stays past e c.0 (on_existing n past e.caller.0 c legal.1 on.1.0)) in
    let now : phase (e ∷ past) c.0 ≡ Phase.Running (record { 0 = e.caller.0 }) = same_phase n past e c.0 legal.1 q ∙ on.1.1 in
    let none : waiting (e ∷ past) e.caller.0 ≡ None = rw (self_equal e.caller.0) q.park in
    let goes : is_still (e ∷ past) (Phase.Running (record { 0 = e.caller.0 })) ≡ false = rw none refl in
    one_false (λ d. is_still (e ∷ past) (phase (e ∷ past) d)) (comps (e ∷ past)) c.0 there (ap (is_still (e ∷ past)) now ∙ goes)

-- the answers

same_run : (past : List Entry) (e : Entry) (b : ℕ) → Quiet e → comp_of (e ∷ past) b ≡ comp_of past b
same_run past e b q = rw (q.run b) (first_alone (comp_of past b))

same_active_on : (n : ℕ) (past : List Entry) (e : Entry) (b : ℕ) (o : Option Comp) → IsLegal n past → Quiet e → is_active_on (e ∷ past) b o ≡ is_active_on past b o
same_active_on n past e b (Some c) legal q = ap (is_run_of b) (same_phase n past e c.0 legal q)
same_active_on n past e b None legal q = refl

pub same_active : (n : ℕ) (past : List Entry) (e : Entry) (b : ℕ) → IsLegal n past → Quiet e → is_active (e ∷ past) b ≡ is_active past b
unfolding is_active
same_active n past e b legal q = ap (is_active_on (e ∷ past) b) (same_run past e b q) ∙ same_active_on n past e b (comp_of past b) legal q

fault_cases : (x y : Bool) (f g : Fault) → (if not x then Some f else if y then Some g else None) ≡ None → (x ≡ true) × (y ≡ false)
fault_cases true true f g h = absurd cc
fault_cases true false f g h = (refl, refl)
fault_cases false y f g h = absurd cc

pub no_new_fault : (n : ℕ) (past : List Entry) (e : Entry) (b : ℕ) (k : Bool) (t : Target) → fault n past b (Op.Wake k t) ≡ None → fault n (e ∷ past) b (Op.Wake k t) ≡ None
unfolding fault
no_new_fault n past e b k t h =
    let f = fault_cases (all_exist past (target_names t)) (asks_many (Op.Wake k t) && not (b == 0)) Fault.NoComponent Fault.NotMain h in
    let x : all_exist (e ∷ past) (target_names t) ≡ true = still_exist past e (target_names t) f.0 in
    rw (x, f.1) refl

parked_cases : (active : Bool) (f : Option Fault) (h z : Bool) → (if active then answer_unless f (if h then Reply.Matched else if z then Reply.Fault Fault.Stuck else Reply.Parked) else Reply.Ended) ≡ Reply.Parked → (active ≡ true) × (f ≡ None) × (h ≡ false)
parked_cases true None false z k = (refl, refl, refl)
parked_cases true None true z k = absurd cc
parked_cases true (Some f) h z k = absurd cc
parked_cases false f h z k = absurd cc

still_parked : (n : ℕ) (past : List Entry) (e : Entry) (b : ℕ) (k : Bool) (t : Target) → IsLegal n (e ∷ past) → Quiet e → is_ended e.reply ≡ false → answer n past b (Op.Wake k t) ≡ Reply.Parked → answer n (e ∷ past) b (Op.Wake k t) ≡ Reply.Parked
unfolding answer
still_parked n past e b k t legal q goes_on h =
    let a : Awaited = record { killed = k; target = t } in
    let p = parked_cases (is_active past b) (fault n past b (Op.Wake k t)) (holds past a) ((b == 0) && is_stuck past) h in
    let active : is_active (e ∷ past) b ≡ true = same_active n past e b legal.1 q ∙ p.0 in
    let no : fault n (e ∷ past) b (Op.Wake k t) ≡ None = no_new_fault n past e b k t p.1 in
    let vain : holds (e ∷ past) (record { killed = k; target = t }) ≡ false = not_yet n past e k t legal.1 q p.2 in
    let going : is_stuck (e ∷ past) ≡ false = not_stuck n past e legal q goes_on in
    rw (active, no, vain, going, and_no (b == 0)) refl

-- a quiet entry wakes nobody
pub quiet_wakes_nobody : (n : ℕ) (past : List Entry) (e : Entry) → IsLegal n (e ∷ past) → is_quiet e.op e.reply ≡ true → WakesNobody n past e
quiet_wakes_nobody n past e legal h =
    let q = quiet e h in
    record {
      parked = λ b k t. still_parked n past e b k t legal q (not_ended e.reply (and_right (keeps_phases e.op) (lets_go_on e.reply) h));
      runs = λ b. same_run past e b q;
      over = rw q.ends refl;
    }
