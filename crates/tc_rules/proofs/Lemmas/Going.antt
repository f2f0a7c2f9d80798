-- Which runs continue after one more entry.
use Rattle.std.proofs.Common.{ℕ, ◌≡◌, ◌<◌, ◌==◌, ◌&&◌, ◌||◌, not, nat_le, if◌then◌else◌, Bool, true, false, Option, Some, None, is_some, List, [], ◌∷◌, refl, ap, sym, ◌∙◌}
use Rattle.tc_entry.specs.{Prelude.{Run, is_ended, is_fault, is_ok}, declared.comp.Comp.Comp, declared.entry.Entry.Entry, declared.op.Op.Op, declared.phase.Phase.Phase, declared.reply.Fault.Fault, declared.reply.Reply.Reply}
use Rattle.tc_rules.{specs.{Answers.{answer, is_active, is_run_of}, Faults.start_fault, History.{comp_of, exists, halts, is_alive_type, is_comp, is_finish, is_kill_of, is_stop_case, is_stop_of, kills, started_on}, Inside.Words.{first_some, starts_on, starts_run}, Inside.Laws.{halting_op, may_halt}, Legal.IsLegal, Phases.{last_run, phase, start_in, was_halted, was_killed}, Status.{is_killed, is_running}}, proofs.{Lemmas.Deciding.{and_no, and_yes, equal_if, no_finish, no_kill, no_stop, no_stop_case, ok_is, self_equal, test_by}, Lemmas.Keeping.kill_halts, Lemmas.Kept.inactive, Lemmas.Over.on_existing, Lemmas.Sound.{IsPlain, no_special, plain_if, runs_on, starts, starts_fresh}, Lemmas.Steps.phase_by}}

-- this is run b
abbrev is_the_run : ℕ → Option Run → Bool
is_the_run b (Some r) = r.0 == b
is_the_run b None = false

run_of_phase : (b : ℕ) (k : Bool) (r : Option Run) (h a : Bool) → is_run_of b (phase_by k r h a) ≡ (not k && (not h && is_the_run b r))
run_of_phase b true r h a = refl
run_of_phase b false None true a = refl
run_of_phase b false None false a = refl
run_of_phase b false (Some run) true true = refl
run_of_phase b false (Some run) true false = refl
run_of_phase b false (Some run) false a = refl

goes_by : (x k h was r : Bool) → (x ≡ true → h ≡ true) → (not (x || k) && (not (h || was) && r)) ≡ ((not k && (not was && r)) && not h)
goes_by true k true was r f = sym (and_no (not k && (not was && r)))
goes_by true k false was r f = let e = f refl in cc
goes_by false true true was r f = refl
goes_by false false true was r f = sym (and_no (not was && r))
goes_by false k false was r f = sym (and_yes (not k && (not was && r)))

active_is : (past : List Entry) (b : ℕ) (c : Comp) → comp_of past b ≡ Some c → is_active past b ≡ is_run_of b (phase past c.0)
unfolding is_active
active_is past b c on = rw on refl

phase_now : (past : List Entry) (c : ℕ) → phase past c ≡ phase_by (was_killed past c) (last_run past c) (was_halted past c) (is_alive_type past c)
unfolding phase
phase_now past c = refl

-- that run b runs on component c now, by the definitions
runs_now : (past : List Entry) (b c : ℕ) → is_run_of b (phase past c) ≡ (not (was_killed past c) && (not (was_halted past c) && is_the_run b (last_run past c)))
runs_now past b c = ap (is_run_of b) (phase_now past c) ∙ run_of_phase b (was_killed past c) (last_run past c) (was_halted past c) (is_alive_type past c)

still_by : (main going killed bad : Bool) →
    (if main then Some Fault.StartMain else if going then Some Fault.AlreadyRunning else if killed then Some Fault.NotStartable else if bad then Some Fault.NoBehaviour else None) ≡ None → going ≡ false
still_by true going killed bad h = absurd cc
still_by false true killed bad h = absurd cc
still_by false false killed bad h = refl

not_running : (n : ℕ) (past : List Entry) (c b : ℕ) → start_fault n past c b ≡ None → is_running (phase past c) ≡ false
unfolding start_fault
not_running n past c b h = still_by (c == 0) (is_running (phase past c)) (is_killed (phase past c)) ((b == 0) || nat_le n b || is_some (comp_of past b)) h

still_of : (n : ℕ) (past : List Entry) (b : ℕ) (op : Op) (c : ℕ) (r : Run) → IsPlain n past b op Reply.Ok → starts_on op c ≡ Some r → is_running (phase past c) ≡ false
still_of n past b (Op.Start d run args) c r plain h =
    let same : d.0 ≡ c = equal_if d.0 c (test_by (d.0 == c) run r h).0 in
    rw (← same) (not_running n past d.0 run.0 (no_special n past b (Op.Start d run args) plain.no_fault))
still_of n past b _ c r plain h = absurd cc

both_is : {A : Type 0} (ok : Bool) (s : Option A) (r : A) → (if ok then s else None) ≡ Some r → (ok ≡ true) × (s ≡ Some r)
both_is true s r h = (refl, h)
both_is false s r h = absurd cc

-- a component on which a run is started is not running
pub starts_still : (n : ℕ) (past : List Entry) (e : Entry) (c : ℕ) (r : Run) → e.reply ≡ answer n past e.caller.0 e.op → start_in e c ≡ Some r → is_running (phase past c) ≡ false
starts_still n past e c r legal h =
    let p = both_is (is_ok e.reply) (starts_on e.op c) r h in
    let q : Reply.Ok ≡ answer n past e.caller.0 e.op = sym (ok_is e.reply p.0) ∙ legal in
    still_of n past e.caller.0 e.op c r (plain_if n past e.caller.0 e.op Reply.Ok refl refl q) p.1

not_the_run : (p : Phase) (b : ℕ) → is_running p ≡ false → is_run_of b p ≡ false
not_the_run (Phase.Running run) b h = absurd cc
not_the_run _ b h = refl

-- the run that an entry starts on a component is what runs there then
started_runs : (n : ℕ) (past : List Entry) (e : Entry) (b c : ℕ) (r : Run) → e.reply ≡ answer n past e.caller.0 e.op → start_in e c ≡ Some r →
    is_run_of b (phase (e ∷ past) c) ≡ (r.0 == b)
started_runs n past e b c r legal h =
    let s = starts n past e c legal (ap is_some h) in
    runs_now (e ∷ past) b c ∙ rw (h, s.known, s.no_kill, s.alive) refl

other_run : (past : List Entry) (b : ℕ) (c : Comp) (r : Run) → comp_of past b ≡ Some c → comp_of past r.0 ≡ None → (r.0 == b) ≡ false
other_run past b c r on free = by_test (r.0 == b) refl
  where
    by_test : (t : Bool) → (r.0 == b) ≡ t → t ≡ false
    by_test false k = refl
    by_test true k = let q : comp_of past r.0 ≡ Some c = rw (equal_if r.0 b k) on in let z : None ≡ Some c = sym free ∙ q in absurd cc

pub halted_by_entry : (n : ℕ) (past : List Entry) (e : Entry) (b : ℕ) (c : Comp) → IsLegal n (e ∷ past) → comp_of past b ≡ Some c →
    is_active (e ∷ past) b ≡ (is_active past b && not (halts (comp_of past e.caller.0) e c.0))
halted_by_entry n past e b c legal on = by_start (start_in e c.0) refl
  where
    stays : comp_of (e ∷ past) b ≡ Some c
    stays = rw on refl

    by_start : (o : Option Run) → start_in e c.0 ≡ o → is_active (e ∷ past) b ≡ (is_active past b && not (halts (comp_of past e.caller.0) e c.0))
    by_start (Some r) some =
        let before : is_active past b ≡ false = active_is past b c on ∙ not_the_run (phase past c.0) b (starts_still n past e c.0 r legal.0 some) in
        let after : is_active (e ∷ past) b ≡ false =
        active_is (e ∷ past) b c stays ∙ (started_runs n past e b c.0 r legal.0 some ∙ other_run past b c r on (starts_fresh n past e c.0 r legal.0 some).1.free) in
        rw (before, after) refl
    by_start None none =
        let known : exists past c.0 ≡ true = on_existing n past b c legal.1 on in
        let before = active_is past b c on ∙ runs_now past b c.0 in
        let after = active_is (e ∷ past) b c stays ∙ runs_now (e ∷ past) b c.0 in
        after ∙ (rw (none, known) (goes_by (kills e c.0) (was_killed past c.0) (halts (comp_of past e.caller.0) e c.0) (was_halted past c.0) (is_the_run b (last_run past c.0)) (kill_halts (comp_of past e.caller.0) e c.0))
        ∙ ap (λ t. t && not (halts (comp_of past e.caller.0) e c.0)) (sym before))

-- if an operation starts a run
started_here : (op : Op) (b : ℕ) (d : Comp) → starts_run op b ≡ Some d → (r : Run) × (starts_on op d.0 ≡ Some r) × (r.0 ≡ b)
started_here (Op.Start c run args) b d h =
    let t = test_by (run.0 == b) c d h in
    (run, rw (← t.1) (rw (self_equal c.0) refl), equal_if run.0 b t.0)
started_here _ b d h = absurd cc

start_here : (ok : Bool) (op : Op) (b : ℕ) (d : Comp) → (if ok then starts_run op b else None) ≡ Some d → (r : Run) × ((if ok then starts_on op d.0 else None) ≡ Some r) × (r.0 ≡ b)
start_here true op b d h = started_here op b d h
start_here false op b d h = absurd cc

pub started_by_entry : (n : ℕ) (past : List Entry) (e : Entry) (b : ℕ) → IsLegal n (e ∷ past) → comp_of past b ≡ None → is_active (e ∷ past) b ≡ is_some (started_on e b)
started_by_entry n past e b legal free = by_start (if is_ok e.reply then starts_run e.op b else None) refl
  where
    by_start : (o : Option Comp) → (if is_ok e.reply then starts_run e.op b else None) ≡ o → is_active (e ∷ past) b ≡ is_some o
    by_start None none = inactive (e ∷ past) b (rw (free, none) refl)
    by_start (Some d) some =
        let s = start_here (is_ok e.reply) e.op b d some in
        let on : comp_of (e ∷ past) b ≡ Some d = rw (free, some) refl in
        active_is (e ∷ past) b d on ∙ (started_runs n past e b d.0 s.0 legal.0 s.1 ∙ rw s.2 (self_equal b))

some_or : {A : Type 0} (s x : Option A) (a : A) (P : Type 0) → (s ≡ Some a → P) → (x ≡ Some a → P) → first_some s x ≡ Some a → P
some_or (Some r) x a P f g h = f h
some_or None x a P f g h = g h

opening_last : (n c : ℕ) (a : Run) → 0 < n → last_run [] c ≡ Some a → (comp_of [] a.0 ≡ Some (record { 0 = c })) × (a.0 < n)
opening_last n c a some h =
    let zero_run : Run = record { 0 = 0 } in
    let t = test_by (c == 0) zero_run a h in
    let z : c ≡ 0 = equal_if c 0 t.0 in
    rw (← t.1, z) (refl, some)

-- the last run on a component is on it, and is one of the behaviours
pub last_on_it : (n : ℕ) (past : List Entry) (c : ℕ) (a : Run) → 0 < n → IsLegal n past → last_run past c ≡ Some a → (comp_of past a.0 ≡ Some (record { 0 = c })) × (a.0 < n)
last_on_it n [] c a some legal h = opening_last n c a some h
last_on_it n (e ∷ past) c a some legal h =
    some_or (start_in e c) (last_run past c) a ((comp_of (e ∷ past) a.0 ≡ Some (record { 0 = c })) × (a.0 < n))
    (λ s. let f = starts_fresh n past e c a legal.0 s in
    let now : (if is_ok e.reply then starts_run e.op a.0 else None) ≡ Some (record { 0 = c }) = rw f.0 f.1.now in
    (rw (f.1.free, now) refl, (runs_on n past e a.0 (record { 0 = c }) legal.0 now).in_range))
    (λ l. let k = last_on_it n past c a some legal.1 l in (rw k.0 refl, k.1)) h

-- it does not continue if the component is not running
pub last_stands : (past : List Entry) (c : ℕ) (a : Run) → comp_of past a.0 ≡ Some (record { 0 = c }) → is_running (phase past c) ≡ false → is_active past a.0 ≡ false
last_stands past c a on still = active_is past a.0 (record { 0 = c }) on ∙ not_the_run (phase past c) a.0 still

neither : (a b : Bool) → (a || b) ≡ false → (a ≡ false) × (b ≡ false)
neither true b h = absurd cc
neither false b h = (refl, h)

pub others_halt_nothing : (own : Option Comp) (e : Entry) (c : ℕ) → may_halt e.op e.reply ≡ false → halts own e c ≡ false
others_halt_nothing own e c h =
    let p = neither (halting_op e.op) (is_fault e.reply) h in
    by_reply (is_ended e.reply) (p.1) (no_stop_case e.op p.0) (no_finish e.op p.0) (no_stop e.op 0 p.0) (no_kill e.op 0 p.0) (no_stop e.op c p.0) (no_kill e.op c p.0)
  where
    by_reply : (ended : Bool) → is_fault e.reply ≡ false → is_stop_case e.op ≡ false → is_finish e.op ≡ false → is_stop_of e.op 0 ≡ false → is_kill_of e.op 0 ≡ false → is_stop_of e.op c ≡ false → is_kill_of e.op c ≡ false →
        (((not ended && (is_fault e.reply || is_stop_case e.op || (is_finish e.op && (e.caller.0 == 0)) || is_stop_of e.op 0 || is_kill_of e.op 0)) || (not ended && is_kill_of e.op c)) || (not ended && ((is_finish e.op && is_comp own c) || is_stop_of e.op c))) ≡ false
    by_reply true f w n s k t l = refl
    by_reply false f w n s k t l = rw (f, w, n, s, k, t, l) refl
