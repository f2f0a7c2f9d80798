-- When what comes after a state is seen, or its verdict is found.
use Rattle.std.proofs.lemmas.Grind.{common_steps}
use Rattle.std.proofs.Common.{Bool, ℕ, ◌≡◌, ◌+◌, ◌-◌, ◌<◌, ◌≤◌, true, false, List, ◌∷◌, length, refl, ap, sym, subst, ◌∙◌, arith}
use Rattle.tc_rules.specs.Prelude.{Run, Entry, Op, Reply, is_fault, Case, past_of, is_over, overall, answer, Verdict, entry_made}
use Rattle.tc_step.specs.Prelude.{ScriptView}
use Rattle.tc_course.{specs.{Prelude.{is_found, goes_on, turn, IsTurn, IsOn, CannotGo}}, proofs.Lemmas.below_more}
use Rattle.tc_explore.{specs.{Inside.{Seen.{AreHeld, AreStill, IsCalm, IsFurther, IsHeldAt, IsRunClosed, IsSeen, IsState, IsStillAt, run_at}, Simulation.{GoesOn, IsClosedFor, IsCovered, IsWithin}}, declared.search.Search.Search}, proofs.Seeing.closed_for_further}

-- what a copy of a course has called, it has called
pub with_copied : (t u v : Case) (run : Run) (op : Op) → u.behaviours ≡ t.behaviours → u.history ≡ t.history → past_of v ≡ entry_made u.behaviours (past_of u) run op ∷ past_of u →
    past_of v ≡ entry_made t.behaviours (past_of t) run op ∷ past_of t
with_copied t u v run op n h is = grind (arith, common_steps)

pub on_copied : (scripts : List ScriptView) (t u v : Case) (run : Run) (op : Op) → IsOn scripts t → u.behaviours ≡ t.behaviours → u.history ≡ t.history → v.behaviours ≡ u.behaviours →
    past_of v ≡ entry_made u.behaviours (past_of u) run op ∷ past_of u → IsTurn scripts (past_of t) (entry_made t.behaviours (past_of t) run op) → IsOn scripts v
on_copied scripts t u v run op on n h m is turn = grind (arith, common_steps)

pub ruleset closed_rules = (with_copied, on_copied)

-- ---- one run

entry_of : Run → Op → Reply → Entry
entry_of run op reply = record { caller = run; op = op; reply = reply }

-- a run has one next call
pub same_entry : (scripts : List ScriptView) (q : List Entry) (e d : Entry) → IsTurn scripts q e → IsTurn scripts q d → e.caller.0 ≡ d.caller.0 → e ≡ d
unfolding entry_of
same_entry scripts q e d h k own = grind (arith, common_steps)

pub held_cannot : (scripts : List ScriptView) (q : List Entry) (b : ℕ) → CannotGo scripts q b → IsHeldAt scripts q b
held_cannot scripts q b cannot = λ e own t. absurd (cannot e own t)

pub held_parked : (scripts : List ScriptView) (n : ℕ) (q : List Entry) (run : Run) (op : Op) → IsTurn scripts q (entry_made n q run op) → goes_on (answer n q run.0 op) ≡ false → IsHeldAt scripts q run.0
held_parked scripts n q run op t off = λ e own h. ap (λ (x : Entry). goes_on x.reply) (same_entry scripts q e (entry_made n q run op) h t own) ∙ off

pub ruleset held_rules = (held_cannot, held_parked)

-- every run has its place
pub all_held : (scripts : List ScriptView) (q : List Entry) (highest : Bool) (n m : ℕ) → length scripts ≡ n → n ≤ m → ((k : ℕ) → k < m → IsHeldAt scripts q (run_at highest n k)) → AreHeld scripts q
all_held scripts q false n m size whole held b near = held b (omega (arith, size, whole, near))
all_held scripts q true n m size whole held b near =
    let there : n - 1 - (n - 1 - b) ≡ b = omega (arith, size, near) in
    subst (IsHeldAt scripts q) there (held (n - 1 - b) (omega (arith, size, whole, near)))

pub one_more_held : (scripts : List ScriptView) (q : List Entry) (highest : Bool) (n m : ℕ) → ((k : ℕ) → k < m → IsHeldAt scripts q (run_at highest n k)) → IsHeldAt scripts q (run_at highest n m) →
    (k : ℕ) → k < m + 1 → IsHeldAt scripts q (run_at highest n k)
one_more_held scripts q highest n m held last = below_more (λ k. IsHeldAt scripts q (run_at highest n k)) m held last

-- the next call of a run that does not continue
pub run_held : (s : Search) (q : List Entry) (b : ℕ) → IsHeldAt s.met.scripts.now q b → IsRunClosed s q b
run_held s q b held = λ e own t on. let off : goes_on e.reply ≡ false = held e own t in absurd cc

pub still_held : (scripts : List ScriptView) (q : List Entry) (b : ℕ) → IsHeldAt scripts q b → IsStillAt scripts q b
still_held scripts q b held = λ e own t on. let off : goes_on e.reply ≡ false = held e own t in absurd cc

-- in a state a call that continues is an error, or changes something; after it the verdict is found, or the state is seen,
-- unless its verdict is worse than is looked for
pub run_closed : (s : Search) (t copy u : Case) (run : Run) (op : Op) → IsState s.aim s.met.scripts.now t → run.0 < length s.met.scripts.now → IsTurn s.met.scripts.now (past_of t) (entry_made t.behaviours (past_of t) run op) →
    goes_on (answer t.behaviours (past_of t) run.0 op) ≡ true → copy.behaviours ≡ t.behaviours → copy.history ≡ t.history → past_of u ≡ entry_made copy.behaviours (past_of copy) run op ∷ past_of copy → (is_over (past_of u) ≡ true → is_found s.found.witnesses.items (overall (past_of u)) ≡ true) →
    (is_over (past_of u) ≡ false → IsWithin s.aim (past_of u) → IsCovered s.aim s.met.scripts.now (IsSeen s.met) (past_of u)) → IsRunClosed s (past_of t) run.0
run_closed s t copy u run op state near turn goes same_number same_entries is_next over more = λ e own h on.
    let is = with_copied t copy u run op same_number same_entries is_next in
    let d = entry_made t.behaviours (past_of t) run op in
    let same : d ≡ e = sym (same_entry s.met.scripts.now (past_of t) e d h turn own) in
    subst (λ x. IsClosedFor s.aim s.met.scripts.now (IsSeen s.met) s.found.witnesses.items (past_of t) x) same (record {
      loud = state.calm run.0 near d refl turn goes;
      over = subst (λ x. is_over x ≡ true → is_found s.found.witnesses.items (overall x) ≡ true) is over;
      more = subst (λ x. is_over x ≡ false → IsWithin s.aim x → IsCovered s.aim s.met.scripts.now (IsSeen s.met) x) is more;
    })

pub goes_on_by : (scripts : List ScriptView) (n : ℕ) (q : List Entry) (run : Run) (op : Op) → IsTurn scripts q (entry_made n q run op) → goes_on (answer n q run.0 op) ≡ true → is_fault (answer n q run.0 op) ≡ false → GoesOn scripts q
goes_on_by scripts n q run op t on plain = record { entry = entry_made n q run op; turn = t; on = on; no_fault = plain }

-- the next call of one that is an error
pub still_fault : (scripts : List ScriptView) (n : ℕ) (q : List Entry) (run : Run) (op : Op) → IsTurn scripts q (entry_made n q run op) → is_fault (answer n q run.0 op) ≡ true → IsStillAt scripts q run.0
still_fault scripts n q run op t fault = grind (arith, common_steps)

pub calm_state : {aim : Verdict} (scripts : List ScriptView) (t : Case) → IsState aim scripts t → IsCalm scripts (past_of t)
calm_state scripts t s = s.calm

pub ruleset run_rules = (run_held, goes_on_by, still_held, still_fault, calm_state)

-- ---- all runs

pub run_further : (a b : Search) (q : List Entry) (k : ℕ) → IsFurther a b → IsRunClosed a q k → IsRunClosed b q k
run_further a b q k h closed =
    rw (h.aim, h.met.scripts) (λ e own t on. closed_for_further a.met.scripts.now a.met b.met a.found.witnesses.items b.found.witnesses.items q e h.met h.witnesses (closed e own t on))

-- one run more
pub still_more : (scripts : List ScriptView) (q : List Entry) (n : ℕ) → AreStill scripts q n → IsStillAt scripts q n → AreStill scripts q (n + 1)
still_more scripts q n are last = below_more (IsStillAt scripts q) n are last
