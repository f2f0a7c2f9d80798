-- An entry leaves the states that it does not touch as they are.
use Rattle.std.proofs.{Common.{ℕ, ◌≡◌, ◌≢◌, ◌<◌, ◌≤◌, ◌==◌, ◌&&◌, ◌||◌, not, if◌then◌else◌, Bool, true, false, Option, Some, None, List, [], ◌∷◌, length, get_or, refl, ap, sym, ◌∙◌, arith, get_or-set_other, get_or-set_same}, Math.ListN.set, Math.Bool.or-false, lemmas.Bool.Decides.nat_tests, lemmas.List.get_or_default}
use Rattle.tc_entry.specs.{Prelude.{Verdict, Run, level_of, is_ended, is_fault, is_ok}, declared.comp.Comp.Comp, declared.entry.Entry.Entry, declared.op.Group.Group, declared.op.Op.Op, declared.reply.Reply.Reply}
use Rattle.tc_verdict.proofs.Lemmas.Order.{worse_left}
use Rattle.tc_rules.{specs.{History.{ends_case, halts, is_comp, is_finish, is_kill_of, is_stop_case, is_stop_of, kills, comp_of, created}, Inside.Words.{first_some, starts_on, started_run}, Inside.Step.{IsNextRun, IsSettled, next_excused, next_local, next_phase, next_state, touched, touched_by, touched_own, asks}, Local.gives, Phases.{halts_from_outside, start_in}, Status.is_running, Answers.answer, Inside.Kept.IsKept, Standing.{Kept, StandsFor}, declared.component_state.ComponentState.ComponentState, declared.step.Scope.Scope, declared.run_state.RunState.RunState}, proofs.{Lemmas.Deciding.{if_same, and_no, gives_if, gives_nothing}, Lemmas.Keeping.{keeps_entry, stands_by}, Runs.{caller_changed, none_started}, Settled.settled_kept}}

-- what is known of an operation that does not touch component c
record Spares (own : Option Comp) (op : Op) (c : ℕ) : Type 0 where
  stop : is_stop_of op c ≡ false
  kill : is_kill_of op c ≡ false
  start : starts_on op c ≡ None
  finish : (is_finish op && is_comp own c) ≡ false
  sets : (if is_comp own c then gives op Reply.Ok else []) ≡ []

abbrev touches : Scope → ℕ → Bool
touches Scope.Nothing c = false
touches (Scope.One d) c = d.0 == c
touches Scope.All c = true

own_touches : (own : Option Comp) (c : ℕ) → touches (touched_own own) c ≡ is_comp own c
own_touches None c = refl
own_touches (Some d) c = refl

spares : (own : Option Comp) (op : Op) (c : ℕ) → touches (touched_by own op) c ≡ false → Spares own op c
spares own (Op.Start d run args) c h = record { stop = refl; kill = refl; start = rw h; finish = refl; sets = if_same (is_comp own c) [] }
spares own (Op.Stop (Group.One d)) c h = record { stop = h; kill = refl; start = refl; finish = refl; sets = if_same (is_comp own c) [] }
spares own (Op.Stop Group.All) c h = absurd cc
spares own (Op.Kill (Group.One d)) c h = record { stop = refl; kill = h; start = refl; finish = refl; sets = if_same (is_comp own c) [] }
spares own (Op.Kill Group.All) c h = absurd cc
spares own (Op.SetVerdict v) c h = let e = sym (own_touches own c) ∙ h in record { stop = refl; kill = refl; start = refl; finish = refl; sets = rw e }
spares own Op.StopCase c h = let e = sym (own_touches own c) ∙ h in record { stop = refl; kill = refl; start = refl; finish = refl; sets = rw e }
spares own Op.Finish c h = let e = sym (own_touches own c) ∙ h in record { stop = refl; kill = refl; start = refl; finish = e; sets = if_same (is_comp own c) [] }
spares own _ c h = record { stop = refl; kill = refl; start = refl; finish = refl; sets = if_same (is_comp own c) [] }

-- what is known of an entry that does not touch component c
record Leaves (own : Option Comp) (e : Entry) (c : ℕ) : Type 0 where
  kill : kills e c ≡ false
  start : start_in e c ≡ None
  halt : halts own e c ≡ false
  outside : halts_from_outside own e c ≡ false
  given : (if is_comp own c then gives e.op e.reply else []) ≡ []

gives_by : (t : Bool) (op : Op) (reply : Reply) → is_fault reply ≡ false → (if t then gives op Reply.Ok else []) ≡ [] → (if t then gives op reply else []) ≡ []
gives_by false op reply h k = refl
gives_by true op reply h k = gives_if op reply h k

fault_ends : (ended fault case fin stop kill : Bool) → (not ended && (fault || case || fin || stop || kill)) ≡ false → ended ≡ false → fault ≡ false
fault_ends true fault case fin stop kill h k = absurd cc
fault_ends false true case fin stop kill h k = absurd cc
fault_ends false false case fin stop kill h k = refl

leaves_op : (own : Option Comp) (e : Entry) (c : ℕ) → ends_case e ≡ false → is_ended e.reply ≡ false → Spares own e.op c → Leaves own e c
leaves_op own e c ends ended s =
    let f = fault_ends (is_ended e.reply) (is_fault e.reply) (is_stop_case e.op) (is_finish e.op && (e.caller.0 == 0)) (is_stop_of e.op 0) (is_kill_of e.op 0) ends ended in
    record {
      kill = rw (ends, ended, s.kill);
      start = rw s.start (if_same (is_ok e.reply) None);
      halt = rw (ends, ended, s.finish, s.stop, s.kill);
      outside = rw (ends, ended, s.finish, s.stop, s.kill);
      given = gives_by (is_comp own c) e.op e.reply f s.sets;
    }

leaves_ended : (own : Option Comp) (caller : Run) (op : Op) (reply : Reply) (c : ℕ) → is_ended reply ≡ true → Leaves own (record { caller = caller; op = op; reply = reply }) c
leaves_ended own caller op Reply.Ended c h = record { kill = refl; start = refl; halt = refl; outside = refl; given = rw (gives_nothing op Reply.Ended refl refl) (if_same (is_comp own c) []) }
leaves_ended own caller op _ c h = absurd cc

leaves_by : (ends ended : Bool) (own : Option Comp) (e : Entry) (c : ℕ) → ends_case e ≡ ends → is_ended e.reply ≡ ended →
    touches (if ends then Scope.All else if ended then Scope.Nothing else touched_by own e.op) c ≡ false → Leaves own e c
leaves_by true ended own e c a b h = absurd cc
leaves_by false true own e c a b h = leaves_ended own e.caller e.op e.reply c b
leaves_by false false own e c a b h = leaves_op own e c a b (spares own e.op c h)

kept_by : (kill : Bool) (start : Option Run) (halt out r : Bool) (vs : List Verdict) (s : ComponentState) → kill ≡ false → start ≡ None → halt ≡ false → out ≡ false → vs ≡ [] →
    is_running s.phase ≡ r → (r ≡ true → s.excused ≡ false) →
    record { phase = next_phase kill start halt s.alive_type s.phase; alive_type = s.alive_type; last = first_some start s.last; excused = next_excused start out s.phase s.excused; local = next_local vs s.local } ≡ s
kept_by kill start halt out true vs s a b c d e f g = let h = sym (g refl) in rw (a, b, c, d, e, f) (ap (λ x. record s { excused = x }) h)
kept_by kill start halt out false vs s a b c d e f g = rw (a, b, c, d, e, f)

elsewhere : (own : Option Comp) (e : Entry) (c : ℕ) (s : ComponentState) → touches (touched own e) c ≡ false → (is_running s.phase ≡ true → s.excused ≡ false) → next_state own e c s ≡ s
unfolding next_state
elsewhere own e c s h settled =
    let l = leaves_by (ends_case e) (is_ended e.reply) own e c refl refl h in
    kept_by (kills e c) (start_in e c) (halts own e c) (halts_from_outside own e c) (is_running s.phase) (if is_comp own c then gives e.op e.reply else []) s
    l.kill l.start l.halt l.outside l.given refl settled

-- a local verdict gets no better

pub local_le : (vs : List Verdict) (l : Verdict) → level_of l ≤ level_of (next_local vs l)
local_le [] l = omega arith
local_le (v ∷ vs) l = let a = local_le vs l in let b = worse_left (next_local vs l) v in omega arith

no_better : (own : Option Comp) (e : Entry) (c : ℕ) (s : ComponentState) → level_of s.local ≤ level_of (next_state own e c s).local
unfolding next_state
no_better own e c s = local_le (if is_comp own c then gives e.op e.reply else []) s.local

-- the states after the entry, place by place

pub none_changed : (own : Option Comp) (e : Entry) (states : List ComponentState) → IsSettled states → touched own e ≡ Scope.Nothing →
    (c : ℕ) (d : ComponentState) → c < length states → get_or states c d ≡ next_state own e c (get_or states c d)
none_changed own e states settled t c d h = sym (elsewhere own e c (get_or states c d) (ap (λ x. touches x c) t) (settled.not_excused c d h))

pub one_changed : (own : Option Comp) (e : Entry) (states : List ComponentState) (i : Comp) (y z v : ComponentState) → IsSettled states → touched own e ≡ Scope.One i → i.0 < length states →
    z ≡ get_or states i.0 v → y ≡ next_state own e i.0 z →
    (c : ℕ) (d : ComponentState) → c < length states → get_or (set states i.0 y) c d ≡ next_state own e c (get_or states c d)
one_changed own e states i y z v settled t within was made c d h =
    by_test (i.0 == c) refl
  where
    by_test : (b : Bool) → (i.0 == c) ≡ b → get_or (set states i.0 y) c d ≡ next_state own e c (get_or states c d)
    by_test true k =
        let q : i.0 ≡ c = grind (arith, nat_tests) in
        rw (← q) (rw get_or-set_same (made ∙ ap (next_state own e i.0) (was ∙ get_or_default states i.0 v d within)))
    by_test false k =
        let ne : c ≢ i.0 = grind (arith, nat_tests) in
        rw get_or-set_other (sym (elsewhere own e c (get_or states c d) (ap (λ x. touches x c) t ∙ k) (settled.not_excused c d h)))

pub out_of_range : (own : Option Comp) (e : Entry) (states : List ComponentState) (i : Comp) → IsSettled states → touched own e ≡ Scope.One i → length states ≤ i.0 →
    (c : ℕ) (d : ComponentState) → c < length states → get_or states c d ≡ next_state own e c (get_or states c d)
out_of_range own e states i settled t out c d h =
    let k : (i.0 == c) ≡ false = grind (arith, nat_tests) in
    sym (elsewhere own e c (get_or states c d) (ap (λ x. touches x c) t ∙ k) (settled.not_excused c d h))

pub no_better_at : (own : Option Comp) (e : Entry) (xs : List ComponentState) (i : ℕ) (y z v : ComponentState) → i < length xs → z ≡ get_or xs i v → y ≡ next_state own e i z →
    level_of (get_or xs i y).local ≤ level_of y.local
no_better_at own e xs i y z v h was made =
    let q : get_or xs i y ≡ z = get_or_default xs i y v h ∙ sym was in
    rw q (rw made (no_better own e i z))

-- what is known of an entry that asks or waits
pub record Asks (own : Option Comp) (e : Entry) : Type 0 where
  pub goes_on : ends_case e ≡ false
  pub touches : touched own e ≡ Scope.Nothing
  pub makes : created e.op e.reply ≡ None
  pub starts : started_run e.op ≡ None

ends : (reply : Reply) → is_fault reply ≡ false → (not (is_ended reply) && (is_fault reply || false || false || false || false)) ≡ false
ends reply plain = rw plain (and_no (not (is_ended reply)))

by_op : (own : Option Comp) (caller : Run) (op : Op) (reply : Reply) → asks op ≡ true → is_fault reply ≡ false → Asks own (record { caller = caller; op = op; reply = reply })
by_op own caller (Op.Create alive name) reply h plain = absurd cc
by_op own caller (Op.Start comp run args) reply h plain = absurd cc
by_op own caller (Op.Stop group) reply h plain = absurd cc
by_op own caller (Op.Kill group) reply h plain = absurd cc
by_op own caller Op.StopCase reply h plain = absurd cc
by_op own caller (Op.SetVerdict v) reply h plain = absurd cc
by_op own caller Op.Finish reply h plain = absurd cc
by_op own caller _ reply h plain = record {
  goes_on = ends reply plain;
  touches = rw (ends reply plain) (if_same (is_ended reply) Scope.Nothing);
  makes = refl;
  starts = refl;
}

asks_of : (own : Option Comp) (e : Entry) → asks e.op ≡ true → is_fault e.reply ≡ false → Asks own e
asks_of own e = by_op own e.caller e.op e.reply

-- what is kept of the components stays as it is
pub keeps_asking : (v k : Kept) (past : List Entry) (e : Entry) (runs' : List RunState) → v ≡ k → StandsFor k past →
    e.reply ≡ answer k.behaviours past e.caller.0 e.op → asks e.op ≡ true → is_fault e.reply ≡ false →
    length runs' ≡ length v.runs → IsNextRun e e.caller.0 v.runs runs' → ((b : ℕ) (d : RunState) → b ≢ e.caller.0 → get_or runs' b d ≡ get_or v.runs b d) →
    IsKept v.behaviours (e ∷ past) v.states runs' v.over
unfolding StandsFor
keeps_asking v k past e runs' same stands legal asking plain as_many at others =
    let kept : StandsFor v past = stands_by k v past (sym same) stands in
    let quiet = asks_of (comp_of past e.caller.0) e asking plain in
    keeps_entry v k past e v.states runs' (comp_of past e.caller.0) v.over same stands legal refl quiet.makes refl
    (none_changed (comp_of past e.caller.0) e v.states (settled_kept kept) quiet.touches) as_many (caller_changed e v.runs runs' (none_started e quiet.starts) at others) (rw quiet.goes_on (sym (or-false v.over)))
