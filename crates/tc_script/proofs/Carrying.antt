-- What the answer to a step's call says of the pass after it.
use Rattle.std.proofs.Common.{ℕ, ◌≡◌, ◌∙◌, Bool, true, false, not, is_ok, Option, MatchOption, List, Result, Ok, Err, refl, sym, ap}
use Rattle.tc_rules.specs.Prelude.{Run, NoMemory, Comp, Op, Reply, is_parked}
use Rattle.tc_step.specs.{declared.{place.{Place.Place, TargetPlace.TargetPlace}, step.Step.Step}, Prelude.{operation, target}}
use Rattle.tc_book.specs.{Prelude.{IsCall, IsWait, PassState, Waits, has_ended, with_own_entry, reply_of}, declared.halt.Halt.Halt}
use Rattle.tc_script.specs.{Calls.{Calls, bound_after}, Inside.{Carried, IsStepped, creates, is_refused, waits}}

pub carried : {A : Type 0} (said : A → Reply) (P Q : Reply → Type 0) (same same-new : Type 0) (answer : Result A Halt) (result : Result (Unit {0}) NoMemory)
    → MatchOption (reply_of said answer) same P → is_ok result ≡ not (is_refused answer) → ((r : Reply) → P r → Q r) → (same → same-new) → Carried Q same-new result
carried said P Q same same-new (Ok a) (Ok u) by is more less = (said a, more (said a) by)
carried said P Q same same-new (Err Halt.Ended) (Ok u) by is more less = (Reply.Ended, more Reply.Ended by)
carried said P Q same same-new (Err (Halt.Fault f)) (Ok u) by is more less = (Reply.Fault f, more (Reply.Fault f) by)
carried said P Q same same-new (Err Halt.NoMemory) (Ok u) by is more less = absurd (cc)
carried said P Q same same-new (Err Halt.NoMemory) (Err e) by is more less = less by
carried said P Q same same-new _ (Err e) by is more less = absurd (cc)

binds_none : (s : Step) (r : Reply) (bound : List Comp) → creates s ≡ false → bound_after s r bound ≡ bound
binds_none (Step.Create alive name) r bound is = absurd (cc)
binds_none _ r bound is = refl

calls_plain : (s : Step) (bound : List Comp) (p q : PassState) (r : Reply) → waits s ≡ false → q ≡ with_own_entry p (operation p.me bound s) r → Calls bound s p q r
calls_plain (Step.Wait killed t) bound p q r other is = absurd (cc)
calls_plain _ bound p q r other is = is

-- a step that creates nothing and is no wait
pub plain_step : {A : Type 0} (said : A → Reply) (s : Step) (op : Op) (bound : List Comp) (p q : PassState) (answer : Result A Halt) (result : Result (Unit {0}) NoMemory)
    → IsCall said op p q answer → is_ok result ≡ not (is_refused answer) → op ≡ operation p.me bound s → has_ended p ≡ false → creates s ≡ false → waits s ≡ false
    → Carried (IsStepped s bound p bound q) ((q ≡ p) × (bound ≡ bound)) result
plain_step said s op bound p q answer result call is same on quiet no-wait =
    carried said (λ r. q ≡ with_own_entry p op r) (IsStepped s bound p bound q) (q ≡ p) ((q ≡ p) × (bound ≡ bound)) answer result (call.replied on) is
    (λ r e. record { called = calls_plain s bound p q r no-wait (e ∙ ap (λ o. with_own_entry p o r) same); binds = sym (binds_none s r bound quiet) })
    (λ e. (e, refl))

-- what a wait is answered by is not that it was parked
awake : (P : Reply → Type 0) (same : Type 0) (answer : Result (Unit {0}) Halt)
    → MatchOption (reply_of (λ _. Reply.Matched) answer) same P → MatchOption (reply_of (λ _. Reply.Matched) answer) same (λ r. P r × (is_parked r ≡ false))
awake P same (Err Halt.NoMemory) by = by
awake P same _ by = (by, refl)

-- a wait
pub wait_step : (killed : Bool) (t : TargetPlace (Place ℕ)) (bound : List Comp) (p q : PassState) (answer : Result (Unit {0}) Halt) (result : Result (Unit {0}) NoMemory)
    → IsWait killed (target p.me bound t) p q answer → is_ok result ≡ not (is_refused answer) → has_ended p ≡ false
    → Carried (IsStepped (Step.Wait killed t) bound p bound q) ((q ≡ p) × (bound ≡ bound)) result
wait_step killed t bound p q answer result wait is on =
    let asked : Reply → Type 0 = Waits killed (target p.me bound t) p q in
    carried (λ _. Reply.Matched) (λ r. asked r × (is_parked r ≡ false)) (IsStepped (Step.Wait killed t) bound p bound q) (q ≡ p) ((q ≡ p) × (bound ≡ bound)) answer result
    (awake asked (q ≡ p) answer (wait.replied on)) is
    (λ r called. record { called = called; binds = refl }) (λ e. (e, refl))

-- two starts of the same run, component and arguments
pub start_same : (run : Run) {c d : Comp} {xs ys : List Comp} → c ≡ d → xs ≡ ys → Op.Start c run xs ≡ Op.Start d run ys
start_same run {c} {d} {xs} {ys} one two = ap (λ x. Op.Start x run xs) one ∙ ap (Op.Start d run) two

-- a create that was replied Ended, or by a dynamic error, or for which memory ran out
pub create_halted : (alive : Bool) (name : Option (List ℕ)) (bound bound-new : List Comp) (p q : PassState) (h : Halt) (result : Result (Unit {0}) NoMemory) → is_ok result ≡ not (is_refused {A = Comp} (Err h))
    → has_ended p ≡ false → IsCall Reply.Made (Op.Create alive name) p q (Err h) → bound-new ≡ bound
    → Carried (IsStepped (Step.Create alive name) bound p bound-new q) ((q ≡ p) × (bound-new ≡ bound)) result
create_halted alive name bound bound-new p q Halt.NoMemory (Err e) is on call same = (call.replied on, same)
create_halted alive name bound bound-new p q Halt.NoMemory (Ok u) is on call same = absurd (cc)
create_halted alive name bound bound-new p q Halt.Ended (Ok u) is on call same = (Reply.Ended, record { called = call.replied on; binds = same })
create_halted alive name bound bound-new p q (Halt.Fault f) (Ok u) is on call same = (Reply.Fault f, record { called = call.replied on; binds = same })
create_halted alive name bound bound-new p q _ (Err e) is on call same = absurd (cc)
