-- What the table keeps is right after an entry that makes a component.
use Rattle.std.{proofs.{Common.{ℕ, ◌≡◌, ◌+◌, ◌<◌, ◌==◌, ◌&&◌, ◌||◌, if◌then◌else◌, Bool, true, false, Option, Some, None, List, [], ◌∷◌, ◌++◌, length, get_or, refl, ap, subst, sym, ◌∙◌, arith, length-append, below_more, suc, ◌≤◌}, lemmas.Bool.Decides.nat_tests, lemmas.List.get_or_append_left, Math.Seq.get_or-append_seam}}
use Rattle.tc_entry.specs.{declared.comp.Comp.Comp, declared.entry.Entry.Entry, declared.limits.TheConstants.{COMPONENTS, BEHAVIOURS}, declared.op.Op.Op, declared.reply.Reply.Reply, Prelude.Run}
use Rattle.tc_rules.{specs.{Answers.answer, Faults.{components, target_names}, History.{add_new, comp_of, comps, created, exists, is_comp, is_in}, Inside.Words.{is_alive_create, first_some}, Inside.Counts.{made_state, main_state}, Inside.Kept.{IsKept, numbers_from, state_of, blank, run_of}, Inside.Step.{next_local, next_run, next_state}, Phases.{was_halted, was_killed, last_run, phase}, Standing.{Kept, StandsFor}, Status.is_running, Waiting.waiting, Local.local, declared.awaited.Awaited.Awaited, declared.component_state.ComponentState.ComponentState, declared.run_state.RunState.RunState}, proofs.{Lemmas.Deciding.other_comp, Lemmas.Fresh.fresh_step, Lemmas.Keeping.stands_by, Lemmas.Kept.{components_kept, exists_if, exists_unless}, Lemmas.Numbers.numbers_from-more, Lemmas.Over.still_exist, Lemmas.Sound.next, Lemmas.Steps.{run_step, state_step}, Settled.running_not_excused}}

abbrev create : Run → Bool → Option (List ℕ) → Comp → Entry
create caller alive name d = record { caller = caller; op = Op.Create alive name; reply = Reply.Made d }

-- such an entry changes no state
quiet : (caller : Run) (alive : Bool) (name : Option (List ℕ)) (d : Comp) (own : Option Comp) (c : ℕ) (s : ComponentState) → (is_running s.phase ≡ true → s.excused ≡ false) → next_state own (create caller alive name d) c s ≡ s
unfolding next_state
quiet caller alive name d own c s h = same (is_comp own c) (is_running s.phase) s h
  where
    same : (t r : Bool) (s : ComponentState) → (r ≡ true → s.excused ≡ false) → record s { excused = if r then false else s.excused; local = next_local (if t then [] else []) s.local } ≡ s
    same true true s h = let e = sym (h refl) in ap (λ x. record s { excused = x }) e
    same false true s h = let e = sym (h refl) in ap (λ x. record s { excused = x }) e
    same true false s h = refl
    same false false s h = refl

no_more : {A : Type 0} (o : Option A) → first_some o None ≡ o
no_more (Some x) = refl
no_more None = refl

add_one : (d : Comp) (ns : List ℕ) → is_in d.0 ns ≡ false → add_new (Some d) ns ≡ ns ++ d.0 ∷ []
add_one d ns h = rw h

if_none : {A : Type 0} (t : Bool) (x : Option A) → x ≡ None → (if t then None else x) ≡ None
if_none true x h = refl
if_none false x h = h

not_in : (past : List Entry) (c : ℕ) → exists past c ≡ false → is_in c (comps past) ≡ false
unfolding exists
not_in past c h = h

numbered_more : (k m d : ℕ) (ns : List ℕ) → ns ≡ numbers_from 0 k → d ≡ k → m ≡ k + 1 → ns ++ d ∷ [] ≡ numbers_from 0 m
numbered_more k m d ns a b c =
    let p : m ≡ suc k = omega arith in
    let q : d ≡ 0 + k = omega arith in
    rw (a, p) (ap (λ x. numbers_from 0 k ++ x ∷ []) q ∙ sym (numbers_from-more 0 k))

killed_same : (a w h : Bool) → (w ≡ true → h ≡ true) → ((a && false) || w) ≡ true → h ≡ true
killed_same true w h f g = f g
killed_same false w h f g = f g

same_number : (a b : ℕ) → a ≡ b → (a == b) ≡ true
same_number a b h = grind (arith, nat_tests)

other_number : (a b : ℕ) → a < b → (a == b) ≡ false
other_number a b h = grind (arith, nat_tests)

waits_if : (t : Bool) (x : Option Awaited) (a : Awaited) → (if t then None else x) ≡ Some a → x ≡ Some a
waits_if true x a h = absurd cc
waits_if false x a h = h

abbrev entry : Run → Op → Reply → Entry
entry caller op r = record { caller = caller; op = op; reply = r }

entry_ext : {op op' : Op} {r r' : Reply} (caller : Run) → op ≡ op' → r ≡ r' → entry caller op r ≡ entry caller op' r'
entry_ext caller a b = cc

module _ {n : ℕ} {past : List Entry} {states : List ComponentState} {runs : List RunState} {over : Bool} where
  created_lit : (caller : Run) (alive : Bool) (name : Option (List ℕ)) (d : Comp) (runs' : List RunState) → IsKept n past states runs over → Reply.Made d ≡ answer n past caller.0 (Op.Create alive name) → d.0 ≡ length states → length states < COMPONENTS →
      length runs' ≡ length runs → ((b : ℕ) (v : RunState) → b < n → get_or runs' b v ≡ next_run (create caller alive name d) b (get_or runs b v)) →
      IsKept n (create caller alive name d ∷ past) (states ++ made_state alive ∷ []) runs' over
  created_lit caller alive name d runs' kept legal number few as_many_runs changed_runs =
      let e : Entry = create caller alive name d in
      let out : exists past d.0 ≡ false = exists_unless d.0 kept (omega arith) in
      let grown : comps (e ∷ past) ≡ comps past ++ d.0 ∷ [] = add_one d (comps past) (not_in past d.0 out) in
      let len : length (states ++ made_state alive ∷ []) ≡ length states + 1 = length-append states (made_state alive ∷ []) in
      record {
        behaviours = kept.behaviours;
        as_many_runs = as_many_runs ∙ kept.as_many_runs;
        numbered = grown ∙ numbered_more (length states) (length (states ++ made_state alive ∷ [])) d.0 (comps past) kept.numbered number len;
        some_state = omega arith;
        not_too_many = omega arith;
        each_state = λ c v h.
            below_more (λ k. (w : ComponentState) → get_or (states ++ made_state alive ∷ []) k w ≡ state_of (e ∷ past) k) (length states)
            (λ k less w.
            get_or_append_left states (made_state alive ∷ []) w k less
            ∙ (kept.each_state k w less
            ∙ (sym (quiet caller alive name d (comp_of past caller.0) k (state_of past k) (running_not_excused past k))
            ∙ sym (state_step past e k (exists_if k kept less) (kept.halted_if_killed k) (λ s. absurd cc)))))
            (λ w.
            get_or-append_seam states (made_state alive) [] w
            ∙ sym (fresh_step past e (length states) (exists_unless (length states) kept (omega arith)) refl
            (other_comp (comp_of past caller.0) (length states) (length states) (λ x. kept.on_existing caller.0 x) (omega arith))
            (kept.fresh (length states) (omega arith))
            ∙ ap (λ t. made_state (t && alive)) (same_number d.0 (length states) number)))
            c (omega arith) v;
        fresh = λ c h.
            fresh_step past e c (exists_unless c kept (omega arith)) refl
            (other_comp (comp_of past caller.0) c (length states) (λ x. kept.on_existing caller.0 x) (omega arith)) (kept.fresh c (omega arith))
            ∙ ap (λ t. made_state (t && alive)) (other_number d.0 c (omega arith));
        each_run = λ b v h. changed_runs b v h ∙ (ap (next_run e b) (kept.each_run b v h) ∙ sym (run_step past e b));
        no_other_run = λ b h. (no_more (comp_of past b) ∙ (kept.no_other_run b h).0, if_none (caller.0 == b) (waiting past b) (kept.no_other_run b h).1);
        on_existing = λ b v h. let k : v.0 < length states = kept.on_existing b v (sym (no_more (comp_of past b)) ∙ h) in omega arith;
        halted_if_killed = λ c. killed_same (exists past c) (was_killed past c) (was_halted past c) (kept.halted_if_killed c);
        waits_for_existing = λ b a w. still_exist past e (target_names a.target) (kept.waits_for_existing b a (waits_if (caller.0 == b) (waiting past b) a w));
        on_last = λ c r l. no_more (comp_of past r.0) ∙ kept.on_last c r l;
        over_is = kept.over_is;
        legal = (legal, kept.legal);
      }

-- the same, as a call has it: v is what is kept before the entry
pub makes_entry : (v k : Kept) (past : List Entry) (e : Entry) (d : Comp) (states' : List ComponentState) (runs' : List RunState) → v ≡ k → StandsFor k past →
    e.reply ≡ answer k.behaviours past e.caller.0 e.op → created e.op e.reply ≡ Some d →
    states' ≡ v.states ++ made_state (is_alive_create e.op) ∷ [] →
    length runs' ≡ length v.runs → ((b : ℕ) (w : RunState) → b < length v.runs → get_or runs' b w ≡ next_run e b (get_or v.runs b w)) →
    IsKept v.behaviours (e ∷ past) states' runs' v.over
unfolding StandsFor
makes_entry v k past e d states' runs' same stands legal made grown as_many_runs changed_runs =
    let kept : StandsFor v past = stands_by k v past (sym same) stands in
    let legal' : e.reply ≡ answer v.behaviours past e.caller.0 e.op = legal ∙ ap (λ (w : Kept). answer w.behaviours past e.caller.0 e.op) (sym same) in
    let f = next v.behaviours past e d legal' made in
    let l : e ≡ create e.caller (is_alive_create e.op) f.given_name d = entry_ext e.caller f.is_create f.is_made in
    let made_legal : Reply.Made d ≡ answer v.behaviours past e.caller.0 (Op.Create (is_alive_create e.op) f.given_name) = sym f.is_made ∙ legal' ∙ ap (answer v.behaviours past e.caller.0) f.is_create in
    let size : components past ≡ length v.states = components_kept kept in
    let number : d.0 ≡ length v.states = f.number ∙ size in
    let few : length v.states < COMPONENTS = omega (arith, f.few) in
    let as_many_kept : length v.runs ≡ v.behaviours = kept.as_many_runs in
    rw grown
    (subst (λ (x : Entry). IsKept v.behaviours (x ∷ past) (v.states ++ made_state (is_alive_create e.op) ∷ []) runs' v.over) (sym l)
    (created_lit e.caller (is_alive_create e.op) f.given_name d runs' kept made_legal number few as_many_runs
    (λ b w h. changed_runs b w (omega arith) ∙ ap (λ x. next_run x b (get_or v.runs b w)) l)))

no_run : (b n : ℕ) → 1 ≤ n → n ≤ b → comp_of [] b ≡ None
no_run b n h k = let e : (b == 0) ≡ false = grind (arith, nat_tests) in rw e

fresh_state : (c : ℕ) → 1 ≤ c → state_of [] c ≡ blank
unfolding phase local
fresh_state c h = let e : (c == 0) ≡ false = grind (arith, nat_tests) in rw e

main_is : (c : ℕ) → c < 1 → state_of [] c ≡ main_state
unfolding phase local
main_is c h = let e : c ≡ 0 = omega arith in rw e

get_only : (s d : ComponentState) (c : ℕ) → c < 1 → get_or (s ∷ []) c d ≡ s
get_only s d c h = let e : c ≡ 0 = omega arith in rw e

on_main : (b : ℕ) (c : Comp) → comp_of [] b ≡ Some c → c.0 < 1
on_main b c h = by_test (b == 0) h
  where
    by_test : (t : Bool) → (if t then Some (let z : Comp = record { 0 = 0 } in z) else None) ≡ Some c → c.0 < 1
    by_test true e = let q : record { 0 = 0 } ≡ c = cc in let k : c.0 ≡ 0 = sym (ap (λ (x : Comp). x.0) q) in omega arith
    by_test false e = absurd cc

on_opening : (c : ℕ) (r : Run) → last_run [] c ≡ Some r → comp_of [] r.0 ≡ Some (record { 0 = c })
on_opening c r h = by_test (c == 0) refl h
  where
    by_test : (t : Bool) → (c == 0) ≡ t → (if t then Some (let z : Run = record { 0 = 0 } in z) else None) ≡ Some r → comp_of [] r.0 ≡ Some (record { 0 = c })
    by_test true k e =
        let q : record { 0 = 0 } ≡ r = cc in
        let z : c ≡ 0 = grind (arith, nat_tests) in
        rw (← q) (ap (λ (x : ℕ). Some (let z : Comp = record { 0 = x } in z)) (sym z))
    by_test false k e = absurd cc

pub opening : (n : ℕ) (runs : List RunState) → 1 ≤ n → n ≤ BEHAVIOURS → length runs ≡ n → ((b : ℕ) (d : RunState) → b < n → get_or runs b d ≡ run_of [] b) → IsKept n [] (main_state ∷ []) runs false
opening n runs some few as_many each =
    record {
      behaviours = (some, few);
      as_many_runs = as_many;
      numbered = refl;
      some_state = omega arith;
      not_too_many = omega arith;
      each_state = λ c d h. get_only main_state d c (omega arith) ∙ sym (main_is c (omega arith));
      fresh = λ c h. fresh_state c (omega arith);
      each_run = each;
      no_other_run = λ b h. (no_run b n some h, refl);
      on_existing = λ b c h. on_main b c h;
      halted_if_killed = λ c h. absurd cc;
      waits_for_existing = λ b a h. absurd cc;
      on_last = on_opening;
      over_is = refl;
      legal = tt;
    }
