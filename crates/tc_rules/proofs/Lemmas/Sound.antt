-- What an entry with the right reply says.
use Rattle.std.proofs.{Common.{ℕ, ◌≡◌, ◌<◌, ◌==◌, ◌&&◌, ◌||◌, not, nat_le, if◌then◌else◌, Bool, true, false, Option, Some, None, is_some, List, ◌∷◌, refl, ap, subst, sym, ◌∙◌, arith}, lemmas.Bool.Decides.nat_tests}
use Rattle.tc_entry.specs.{declared.comp.Comp.Comp, declared.entry.Entry.Entry, declared.limits.TheConstants.COMPONENTS, declared.op.Op.Op, declared.reply.Fault.Fault, declared.reply.Reply.Reply, Prelude.{Run, is_ended, is_fault, is_ok}}
use Rattle.tc_rules.{specs.{Answers.{answer, is_active, plain_answer}, Inside.Words.{is_alive_create, answer_unless, asks_many, starts_on, starts_run}, Faults.{all_exist, components, fault, names, special_fault, start_fault, target_names}, History.{comp_of, created, exists, is_alive_type, kills}, Phases.{last_run, phase, start_in, was_halted, was_killed}, Status.{is_killed, is_running}, Waiting.{awaited, parks}, declared.awaited.Awaited.Awaited}, proofs.{Lemmas.Deciding.{and_left, equal_if, ok_is, self_equal, test_by}, Lemmas.Kept.all_exist_more, Lemmas.Steps.phase_by}}

-- the call was made by a run that is active, and is no error
pub record IsPlain (n : ℕ) (past : List Entry) (b : ℕ) (op : Op) (reply : Reply) : Type 0 where
  pub active : is_active past b ≡ true
  pub no_fault : fault n past b op ≡ None
  pub is : reply ≡ plain_answer past b op

plain_by : (active : Bool) (f : Option Fault) (plain reply : Reply) → is_ended reply ≡ false → is_fault reply ≡ false →
    reply ≡ (if active then answer_unless f plain else Reply.Ended) → (active ≡ true) × (f ≡ None) × (reply ≡ plain)
plain_by true None plain reply e1 e2 h = (refl, refl, h)
plain_by true (Some f) plain reply e1 e2 h = let e = ap is_fault h in absurd cc
plain_by false f plain reply e1 e2 h = let e = ap is_ended h in absurd cc

pub plain_if : (n : ℕ) (past : List Entry) (b : ℕ) (op : Op) (reply : Reply) → is_ended reply ≡ false → is_fault reply ≡ false →
    reply ≡ answer n past b op → IsPlain n past b op reply
unfolding answer
plain_if n past b op reply e1 e2 h =
    let p = plain_by (is_active past b) (fault n past b op) (plain_answer past b op) reply e1 e2 h in
    record { active = p.0; no_fault = p.1; is = p.2 }

exist_by : (known many : Bool) (f : Option Fault) → (if not known then Some Fault.NoComponent else if many then Some Fault.NotMain else f) ≡ None → (known ≡ true) × (f ≡ None)
exist_by true true f h = absurd cc
exist_by true false f h = (refl, h)
exist_by false many f h = absurd cc

-- if there is no error, the components that the call names exist
names_exist : (n : ℕ) (past : List Entry) (b : ℕ) (op : Op) → fault n past b op ≡ None → all_exist past (names op) ≡ true
unfolding fault
names_exist n past b op h = (exist_by (all_exist past (names op)) (asks_many op && not (b == 0)) (special_fault n past op) h).0

pub no_special : (n : ℕ) (past : List Entry) (b : ℕ) (op : Op) → fault n past b op ≡ None → special_fault n past op ≡ None
unfolding fault
no_special n past b op h = (exist_by (all_exist past (names op)) (asks_many op && not (b == 0)) (special_fault n past op) h).1

start_by : (main going killed bad : Bool) → (if main then Some Fault.StartMain else if going then Some Fault.AlreadyRunning else if killed then Some Fault.NotStartable else if bad then Some Fault.NoBehaviour else None) ≡ None →
    (killed ≡ false) × (bad ≡ false)
start_by true going killed bad h = absurd cc
start_by false true killed bad h = absurd cc
start_by false false true bad h = absurd cc
start_by false false false true h = absurd cc
start_by false false false false h = (refl, refl)

pub startable : (n : ℕ) (past : List Entry) (c b : ℕ) → start_fault n past c b ≡ None → is_killed (phase past c) ≡ false
unfolding start_fault
startable n past c b h = (start_by (c == 0) (is_running (phase past c)) (is_killed (phase past c)) ((b == 0) || nat_le n b || is_some (comp_of past b)) h).0

in_range_by : (zero over taken : Bool) → (zero || over || taken) ≡ false → over ≡ false
in_range_by true over taken h = absurd cc
in_range_by false true taken h = absurd cc
in_range_by false false taken h = refl

pub start_in_range : (n : ℕ) (past : List Entry) (c b : ℕ) → start_fault n past c b ≡ None → b < n
unfolding start_fault
start_in_range n past c b h =
    let p = (start_by (c == 0) (is_running (phase past c)) (is_killed (phase past c)) ((b == 0) || nat_le n b || is_some (comp_of past b)) h).1 in
    let q : nat_le n b ≡ false = in_range_by (b == 0) (nat_le n b) (is_some (comp_of past b)) p in
    grind (arith, nat_tests)

killed_by : (k : Bool) (r : Option Run) (h a : Bool) → is_killed (phase_by k r h a) ≡ false → k ≡ false
killed_by true r h a e = absurd cc
killed_by false r h a e = refl

pub not_killed : (past : List Entry) (c : ℕ) → is_killed (phase past c) ≡ false → was_killed past c ≡ false
unfolding phase
not_killed past c h = killed_by (was_killed past c) (last_run past c) (was_halted past c) (is_alive_type past c) h

both_by : {A : Type 0} (ok : Bool) (s : Option A) → is_some (if ok then s else None) ≡ true → (ok ≡ true) × (is_some s ≡ true)
both_by true s h = (refl, h)
both_by false s h = absurd cc

same_by : {A : Type 0} (d c : ℕ) (x : A) → is_some (if d == c then Some x else None) ≡ true → d ≡ c
same_by d c x h = grind (arith, nat_tests)

-- what a Start replied Ok says of its component
pub record CanStart (past : List Entry) (c : ℕ) (e : Entry) : Type 0 where
  pub known : exists past c ≡ true
  pub alive : was_killed past c ≡ false
  pub no_kill : kills e c ≡ false

start_of : (n : ℕ) (past : List Entry) (caller : Run) (op : Op) (c : ℕ) → IsPlain n past caller.0 op Reply.Ok → is_some (starts_on op c) ≡ true →
    CanStart past c (record { caller = caller; op = op; reply = Reply.Ok })
start_of n past caller (Op.Start d run args) c plain h =
    let same : d.0 ≡ c = same_by d.0 c run h in
    let known : all_exist past (d ∷ args) ≡ true = names_exist n past caller.0 (Op.Start d run args) plain.no_fault in
    let here : exists past d.0 ≡ true = and_left (exists past d.0) (all_exist past args) (sym (all_exist_more past d args) ∙ known) in
    let free : was_killed past d.0 ≡ false = not_killed past d.0 (startable n past d.0 run.0 (no_special n past caller.0 (Op.Start d run args) plain.no_fault)) in
    record { known = rw (← same) here; alive = rw (← same) free; no_kill = refl }
start_of n past caller _ c plain h = absurd cc

pub starts : (n : ℕ) (past : List Entry) (e : Entry) (c : ℕ) → e.reply ≡ answer n past e.caller.0 e.op → is_some (start_in e c) ≡ true → CanStart past c e
starts n past e c legal h =
    let p = both_by (is_ok e.reply) (starts_on e.op c) h in
    let ok : e.reply ≡ Reply.Ok = ok_is e.reply p.0 in
    let q : Reply.Ok ≡ answer n past e.caller.0 e.op = sym ok ∙ legal in
    let r = start_of n past e.caller e.op c (plain_if n past e.caller.0 e.op Reply.Ok refl refl q) p.1 in
    subst (λ (x : Reply). CanStart past c (record { caller = e.caller; op = e.op; reply = x })) (sym ok) r

-- the component and the run of a Start replied Ok
pub record CanRun (n : ℕ) (past : List Entry) (b : ℕ) (d : Comp) : Type 0 where
  pub known : exists past d.0 ≡ true
  pub in_range : b < n

run_of_start : (n : ℕ) (past : List Entry) (b : ℕ) (op : Op) (k : ℕ) (d : Comp) → IsPlain n past b op Reply.Ok → starts_run op k ≡ Some d → CanRun n past k d
run_of_start n past b (Op.Start c run args) k d plain h =
    let t = test_by (run.0 == k) c d h in
    let same : run.0 ≡ k = equal_if run.0 k t.0 in
    let known : all_exist past (c ∷ args) ≡ true = names_exist n past b (Op.Start c run args) plain.no_fault in
    let here : exists past c.0 ≡ true = and_left (exists past c.0) (all_exist past args) (sym (all_exist_more past c args) ∙ known) in
    let range : run.0 < n = start_in_range n past c.0 run.0 (no_special n past b (Op.Start c run args) plain.no_fault) in
    record { known = rw (← t.1) here; in_range = rw (← same) range }
run_of_start n past b _ k d plain h = absurd cc

if_ok : {A : Type 0} (ok : Bool) (s : Option A) (d : A) → (if ok then s else None) ≡ Some d → (ok ≡ true) × (s ≡ Some d)
if_ok true s d h = (refl, h)
if_ok false s d h = absurd cc

pub runs_on : (n : ℕ) (past : List Entry) (e : Entry) (k : ℕ) (d : Comp) → e.reply ≡ answer n past e.caller.0 e.op →
    (if is_ok e.reply then starts_run e.op k else None) ≡ Some d → CanRun n past k d
runs_on n past e k d legal h =
    let p = if_ok (is_ok e.reply) (starts_run e.op k) d h in
    let ok : e.reply ≡ Reply.Ok = ok_is e.reply p.0 in
    let q : Reply.Ok ≡ answer n past e.caller.0 e.op = sym ok ∙ legal in
    run_of_start n past e.caller.0 e.op k d (plain_if n past e.caller.0 e.op Reply.Ok refl refl q) p.1

-- what is awaited exists
awaited_of : (n : ℕ) (past : List Entry) (b : ℕ) (op : Op) (a : Awaited) → all_exist past (names op) ≡ true → awaited op ≡ Some a → all_exist past (target_names a.target) ≡ true
awaited_of n past b (Op.Wait k t) a known h = let e : t ≡ a.target = cc in rw (← e) known
awaited_of n past b (Op.Wake k t) a known h = let e : t ≡ a.target = cc in rw (← e) known
awaited_of n past b _ a known h = absurd cc

parked_of : (n : ℕ) (past : List Entry) (b : ℕ) (op : Op) (reply : Reply) (a : Awaited) → reply ≡ answer n past b op → parks op reply ≡ Some a → all_exist past (target_names a.target) ≡ true
parked_of n past b op Reply.Parked a legal h =
    awaited_of n past b op a (names_exist n past b op (plain_if n past b op Reply.Parked refl refl legal).no_fault) h
parked_of n past b op _ a legal h = absurd cc

pub parked : (n : ℕ) (past : List Entry) (e : Entry) (a : Awaited) → e.reply ≡ answer n past e.caller.0 e.op → parks e.op e.reply ≡ Some a → all_exist past (target_names a.target) ≡ true
parked n past e a legal h = parked_of n past e.caller.0 e.op e.reply a legal h

-- a run that is on no component is replied Ended
pub no_parks : (n : ℕ) (past : List Entry) (e : Entry) → e.reply ≡ answer n past e.caller.0 e.op → comp_of past e.caller.0 ≡ None → parks e.op e.reply ≡ None
unfolding answer is_active
no_parks n past e legal none = let q : e.reply ≡ Reply.Ended = rw none at legal in rw q

-- the component of a Create replied Made is the next one, and there were not too many
pub record IsNext (past : List Entry) (op : Op) (reply : Reply) (d : Comp) : Type 0 where
  pub number : d.0 ≡ components past
  pub few : components past < COMPONENTS
  pub given_name : Option (List ℕ)
  pub is_create : op ≡ Op.Create (is_alive_create op) given_name
  pub is_made : reply ≡ Reply.Made d

few_by : (over : Bool) → (if over then Some Fault.TooMany else None) ≡ None → over ≡ false
few_by true h = absurd cc
few_by false h = refl

next_of : (n : ℕ) (past : List Entry) (b : ℕ) (op : Op) (reply : Reply) (d : Comp) → reply ≡ answer n past b op → created op reply ≡ Some d → IsNext past op reply d
next_of n past b (Op.Create alive name) (Reply.Made m) d legal h =
    let plain = plain_if n past b (Op.Create alive name) (Reply.Made m) refl refl legal in
    let same : m ≡ d = cc in
    let number : m.0 ≡ components past = made_number m (components past) plain.is in
    let few : nat_le COMPONENTS (components past) ≡ false = few_by (nat_le COMPONENTS (components past)) (no_special n past b (Op.Create alive name) plain.no_fault) in
    record { number = rw (← same) number; few = grind (arith, nat_tests); given_name = name; is_create = refl; is_made = ap Reply.Made same }
  where
    made_number : (m : Comp) (k : ℕ) → Reply.Made m ≡ Reply.Made (record { 0 = k }) → m.0 ≡ k
    made_number m k e = let q : m ≡ record { 0 = k } = cc in ap (λ x. x.0) q
next_of n past b (Op.Create alive name) _ d legal h = absurd cc
next_of n past b _ reply d legal h = absurd cc

pub next : (n : ℕ) (past : List Entry) (e : Entry) (d : Comp) → e.reply ≡ answer n past e.caller.0 e.op → created e.op e.reply ≡ Some d → IsNext past e.op e.reply d
next n past e d legal h = next_of n past e.caller.0 e.op e.reply d legal h

-- the run of a Start replied Ok was on no component, and is now on this one
pub record IsFresh (past : List Entry) (op : Op) (c : ℕ) (r : Run) : Type 0 where
  pub free : comp_of past r.0 ≡ None
  pub now : starts_run op r.0 ≡ Some (record { 0 = c })

free_by : (zero over : Bool) (o : Option Comp) → (zero || over || is_some o) ≡ false → o ≡ None
free_by zero over None h = refl
free_by true over (Some d) h = absurd cc
free_by false true (Some d) h = absurd cc
free_by false false (Some d) h = absurd cc

start_free : (n : ℕ) (past : List Entry) (c b : ℕ) → start_fault n past c b ≡ None → comp_of past b ≡ None
unfolding start_fault
start_free n past c b h =
    let p = (start_by (c == 0) (is_running (phase past c)) (is_killed (phase past c)) ((b == 0) || nat_le n b || is_some (comp_of past b)) h).1 in
    free_by (b == 0) (nat_le n b) (comp_of past b) p

fresh_of : (n : ℕ) (past : List Entry) (b : ℕ) (op : Op) (c : ℕ) (r : Run) → IsPlain n past b op Reply.Ok → starts_on op c ≡ Some r → IsFresh past op c r
fresh_of n past b (Op.Start d run args) c r plain h =
    let t = test_by (d.0 == c) run r h in
    let k : d.0 ≡ c = equal_if d.0 c t.0 in
    let free : comp_of past run.0 ≡ None = start_free n past d.0 run.0 (no_special n past b (Op.Start d run args) plain.no_fault) in
    record { free = ap (λ (x : Run). comp_of past x.0) (sym t.1) ∙ free; now = rw (← t.1) (rw (self_equal run.0) (ap (λ (x : ℕ). Some (let z : Comp = record { 0 = x } in z)) k)) }
fresh_of n past b _ c r plain h = absurd cc

pub starts_fresh : (n : ℕ) (past : List Entry) (e : Entry) (c : ℕ) (r : Run) → e.reply ≡ answer n past e.caller.0 e.op → start_in e c ≡ Some r →
    (is_ok e.reply ≡ true) × IsFresh past e.op c r
starts_fresh n past e c r legal h =
    let p = both_is (is_ok e.reply) (starts_on e.op c) r h in
    let ok : e.reply ≡ Reply.Ok = ok_is e.reply p.0 in
    let q : Reply.Ok ≡ answer n past e.caller.0 e.op = sym ok ∙ legal in
    (p.0, fresh_of n past e.caller.0 e.op c r (plain_if n past e.caller.0 e.op Reply.Ok refl refl q) p.1)
  where
    both_is : (ok : Bool) (s : Option Run) (r : Run) → (if ok then s else None) ≡ Some r → (ok ≡ true) × (s ≡ Some r)
    both_is true s r h = (refl, h)
    both_is false s r h = absurd cc
