-- An entry changes the state of its caller and of the run that it starts.
use Rattle.std.{proofs.{Common.{ℕ, ◌≡◌, ◌≢◌, ◌<◌, ◌==◌, Bool, true, false, Option, Some, None, List, length, get_or, refl, ap, sym, ◌∙◌, arith}, lemmas.Bool.Decides.nat_tests}, specs.Prelude.{is_none, is_some}}
use Rattle.tc_entry.specs.{Prelude.{Run, is_ok}, declared.comp.Comp.Comp, declared.entry.Entry.Entry, declared.op.Op.Op}
use Rattle.tc_rules.{specs.{Inside.Words.{starts_run, started_run}, Inside.Step.next_run, Waiting.parks, declared.awaited.Awaited.Awaited, declared.run_state.RunState.RunState}, proofs.Lemmas.Deciding.{if_same, first_alone}}

not_started : (op : Op) (b : ℕ) → started_run op ≡ None → starts_run op b ≡ None
not_started (Op.Start c run args) b h = absurd cc
not_started _ b h = refl

other_started : (op : Op) (r : Run) (b : ℕ) → started_run op ≡ Some r → b ≢ r.0 → starts_run op b ≡ None
other_started (Op.Start c run args) r b h ne =
    let e : run ≡ r = cc in
    let t : (run.0 == b) ≡ false = rw e (let ne' = ne in grind (arith, nat_tests)) in
    rw t
other_started _ r b h ne = refl

run_elsewhere : (e : Entry) (b : ℕ) (s : RunState) → b ≢ e.caller.0 → starts_run e.op b ≡ None → next_run e b s ≡ s
unfolding next_run
run_elsewhere e b s ne none =
    let t : (e.caller.0 == b) ≡ false = grind (arith, nat_tests) in
    rw (t, none, if_same (is_ok e.reply) (let o : Option Comp = None in o), first_alone s.comp)

-- an entry that is not parked keeps the state of a run that was started and is not parked
pub run_kept : (e : Entry) (b : ℕ) (s : RunState) → is_some s.comp ≡ true → is_none s.waiting ≡ true → is_none (parks e.op e.reply) ≡ true → next_run e b s ≡ s
unfolding next_run
run_kept e b s on none quiet = by s.comp s.waiting (parks e.op e.reply) refl on none quiet
  where
    by : (comp : Option Comp) (waiting parked : Option Awaited) → parks e.op e.reply ≡ parked → is_some comp ≡ true → is_none waiting ≡ true → is_none parked ≡ true
        → next_run e b (record { comp = comp; waiting = waiting }) ≡ record { comp = comp; waiting = waiting }
    by (Some c) None None p on none quiet = rw (p, if_same (e.caller.0 == b) (let o : Option Awaited = None in o))
    by None waiting parked p on none quiet = absurd cc
    by (Some c) (Some w) parked p on none quiet = absurd cc
    by (Some c) None (Some w) p on none quiet = absurd cc

-- only the caller changed
pub caller_changed : (e : Entry) (old new : List RunState) → ((b : ℕ) → b ≢ e.caller.0 → starts_run e.op b ≡ None) →
    ((d : RunState) → e.caller.0 < length old → get_or new e.caller.0 d ≡ next_run e e.caller.0 (get_or old e.caller.0 d)) →
    ((b : ℕ) (d : RunState) → b ≢ e.caller.0 → get_or new b d ≡ get_or old b d) →
    (b : ℕ) (d : RunState) → b < length old → get_or new b d ≡ next_run e b (get_or old b d)
caller_changed e old new none at others b d h = by_test (b == e.caller.0) refl
  where
    by_test : (t : Bool) → (b == e.caller.0) ≡ t → get_or new b d ≡ next_run e b (get_or old b d)
    by_test true k = let q : e.caller.0 ≡ b = grind (arith, nat_tests) in rw (← q) (at d (rw q h))
    by_test false k = let ne : b ≢ e.caller.0 = grind (arith, nat_tests) in others b d ne ∙ sym (run_elsewhere e b (get_or old b d) ne (none b ne))

-- the caller changed, and then the run that was started
pub two_changed : (e : Entry) (r : Run) (old mid new : List RunState) → started_run e.op ≡ Some r → r.0 ≢ e.caller.0 → length mid ≡ length old →
    ((d : RunState) → e.caller.0 < length old → get_or mid e.caller.0 d ≡ next_run e e.caller.0 (get_or old e.caller.0 d)) →
    ((b : ℕ) (d : RunState) → b ≢ e.caller.0 → get_or mid b d ≡ get_or old b d) →
    ((d : RunState) → r.0 < length mid → get_or new r.0 d ≡ next_run e r.0 (get_or mid r.0 d)) →
    ((b : ℕ) (d : RunState) → b ≢ r.0 → get_or new b d ≡ get_or mid b d) →
    (b : ℕ) (d : RunState) → b < length old → get_or new b d ≡ next_run e b (get_or old b d)
two_changed e r old mid new started other as_many at others at2 others2 b d h = by_test (b == r.0) (b == e.caller.0) refl refl
  where
    by_test : (t u : Bool) → (b == r.0) ≡ t → (b == e.caller.0) ≡ u → get_or new b d ≡ next_run e b (get_or old b d)
    by_test true u k l =
        let q : r.0 ≡ b = grind (arith, nat_tests) in
        rw (← q) (at2 d (omega arith) ∙ ap (next_run e r.0) (others r.0 d other))
    by_test false true k l =
        let q : e.caller.0 ≡ b = grind (arith, nat_tests) in
        let ne : b ≢ r.0 = grind (arith, nat_tests) in
        others2 b d ne ∙ rw (← q) (at d (rw q h))
    by_test false false k l =
        let ne : b ≢ r.0 = grind (arith, nat_tests) in
        let ne2 : b ≢ e.caller.0 = grind (arith, nat_tests) in
        others2 b d ne ∙ (others b d ne2 ∙ sym (run_elsewhere e b (get_or old b d) ne2 (other_started e.op r b started ne)))

pub none_started : (e : Entry) → started_run e.op ≡ None → (b : ℕ) → b ≢ e.caller.0 → starts_run e.op b ≡ None
none_started e h b ne = not_started e.op b h

pub caller_started : (e : Entry) (r : Run) → started_run e.op ≡ Some r → r.0 ≡ e.caller.0 → (b : ℕ) → b ≢ e.caller.0 → starts_run e.op b ≡ None
caller_started e r h same b ne = other_started e.op r b h (λ q. ne (q ∙ same))
