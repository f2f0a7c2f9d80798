-- What the table keeps is right after one more entry.
use Rattle.std.{proofs.Common.{ℕ, ◌≡◌, ◌<◌, ◌≤◌, ◌==◌, ◌&&◌, ◌||◌, not, if◌then◌else◌, Bool, true, false, Option, Some, None, is_some, List, ◌∷◌, length, get_or, refl, ap, subst, sym, ◌∙◌, arith}, specs.List.list_all}
use Rattle.tc_entry.specs.{declared.comp.Comp.Comp, declared.entry.Entry.Entry, Prelude.{is_ok}}
use Rattle.tc_rules.{specs.{Answers.answer, Faults.{all_exist, target_names}, History.{add_new, comp_of, comps, created, ends_case, exists, halts, is_comp, is_in, is_over, kills}, Inside.Words.{is_alive_create, first_some, starts_run}, Inside.Counts.made_state, Inside.Kept.{IsKept, numbers_from}, Inside.Step.{next_run, next_state}, Phases.{last_run, start_in, was_halted, was_killed}, Standing.{Kept, StandsFor}, Waiting.{parks, waiting}, declared.awaited.Awaited.Awaited, declared.component_state.ComponentState.ComponentState, declared.run_state.RunState.RunState}, proofs.{Lemmas.Deciding.{equal_if, other_comp}, Lemmas.Fresh.fresh_step, Lemmas.Kept.{existing, exists_if, exists_unless}, Lemmas.Sound.{no_parks, parked, runs_on, starts, starts_fresh}, Lemmas.Steps.{run_step, state_step}}}

pub kill_halts : (own : Option Comp) (e : Entry) (c : ℕ) → kills e c ≡ true → halts own e c ≡ true
kill_halts own e c h = rw h refl

pub halted_by : (ex k w s h was : Bool) → (k ≡ true → h ≡ true) → (w ≡ true → was ≡ true) → (s ≡ true → (k ≡ false) × (w ≡ false)) →
    ((ex && k) || w) ≡ true → (not s && (h || was)) ≡ true
halted_by ex true w true h was kh wh st g = let e = (st refl).0 in absurd cc
halted_by ex false true true h was kh wh st g = let e = (st refl).1 in absurd cc
halted_by true false false true h was kh wh st g = absurd cc
halted_by false false false true h was kh wh st g = absurd cc
halted_by ex true w false h was kh wh st g = let e = kh refl in rw e
halted_by ex false true false true was kh wh st g = refl
halted_by ex false true false false was kh wh st g = wh refl
halted_by true false false false h was kh wh st g = absurd cc
halted_by false false false false h was kh wh st g = absurd cc

not_some : {A : Type 0} (o : Option A) → (is_some o ≡ true → ⊥) → o ≡ None
not_some (Some x) h = absurd (h refl)
not_some None h = refl

first_none : {A : Type 0} (o p : Option A) → o ≡ None → ((x : A) → p ≡ Some x → ⊥) → first_some o p ≡ None
first_none o (Some x) e h = absurd (h x refl)
first_none o None e h = rw e

first_cases : {A : Type 0} (o p : Option A) (x : A) (P : Type 0) → (o ≡ Some x → P) → (p ≡ Some x → P) → first_some o p ≡ Some x → P
first_cases (Some y) p x P f g h = f h
first_cases None p x P f g h = g h

test_cases : {A : Type 0} (t : Bool) (x y z : A) (P : Type 0) → (x ≡ z → P) → (y ≡ z → P) → (if t then x else y) ≡ z → P
test_cases true x y z P f g h = f h
test_cases false x y z P f g h = g h

pub all_exist_same : (p q : List Entry) (cs : List Comp) → comps p ≡ comps q → all_exist p cs ≡ all_exist q cs
unfolding all_exist exists
all_exist_same p q cs e = ap (λ (ns : List ℕ). list_all (λ c. is_in c.0 ns) cs) e

none_waits : (past : List Entry) (e : Entry) (b : ℕ) → waiting past b ≡ None → (e.caller.0 ≡ b → parks e.op e.reply ≡ None) → waiting (e ∷ past) b ≡ None
none_waits past e b w p = waits_by (e.caller.0 == b) (parks e.op e.reply) (waiting past b) w (λ t. p (equal_if e.caller.0 b t))
  where
    waits_by : (t : Bool) (x y : Option Awaited) → y ≡ None → (t ≡ true → x ≡ None) → (if t then x else y) ≡ None
    waits_by true x y e h = h refl
    waits_by false x y e h = e

now_on : (ok : Bool) (o p : Option Comp) (c : ℕ) → ok ≡ true → o ≡ None → p ≡ Some (record { 0 = c }) → first_some o (if ok then p else None) ≡ Some (record { 0 = c })
now_on true None p c a b h = h
now_on false None p c a b h = absurd cc
now_on ok (Some d) p c a b h = absurd cc

still_on : (o p : Option Comp) (c : ℕ) → o ≡ Some (record { 0 = c }) → first_some o p ≡ Some (record { 0 = c })
still_on (Some d) p c h = h
still_on None p c h = absurd cc

or_swap : (a b x : Bool) → a ≡ b → (a || x) ≡ (x || b)
or_swap true b true h = refl
or_swap true b false h = h
or_swap false b true h = refl
or_swap false b false h = h

-- an entry that makes no component
module _ {n : ℕ} {past : List Entry} {states : List ComponentState} {runs : List RunState} {over : Bool} where
  pub keeps : (e : Entry) (states' : List ComponentState) (runs' : List RunState) → IsKept n past states runs over → e.reply ≡ answer n past e.caller.0 e.op →
      created e.op e.reply ≡ None →
      length states' ≡ length states → ((c : ℕ) (d : ComponentState) → c < length states → get_or states' c d ≡ next_state (comp_of past e.caller.0) e c (get_or states c d)) →
      length runs' ≡ length runs → ((b : ℕ) (d : RunState) → b < n → get_or runs' b d ≡ next_run e b (get_or runs b d)) →
      IsKept n (e ∷ past) states' runs' (over || ends_case e)
  keeps e states' runs' kept legal none as_many changed as_many_runs changed_runs =
      let same : comps (e ∷ past) ≡ comps past = ap (λ m. add_new m (comps past)) none in
      record {
        behaviours = kept.behaviours;
        as_many_runs = as_many_runs ∙ kept.as_many_runs;
        numbered = same ∙ (kept.numbered ∙ ap (numbers_from 0) (sym as_many));
        some_state = omega (arith, kept.some_state);
        not_too_many = omega (arith, kept.not_too_many);
        each_state = λ c d h.
            let k : c < length states = omega arith in
            changed c d k
            ∙ (ap (next_state (comp_of past e.caller.0) e c) (kept.each_state c d k)
            ∙ sym (state_step past e c (exists_if c kept k) (kept.halted_if_killed c) (λ s. (starts n past e c legal s).alive)));
        fresh = λ c h.
            let k : length states ≤ c = omega arith in
            let out : exists past c ≡ false = exists_unless c kept k in
            fresh_step past e c out
            (not_some (start_in e c) (λ s. let i = (starts n past e c legal s).known in absurd cc))
            (other_comp (comp_of past e.caller.0) c (length states) (λ d. kept.on_existing e.caller.0 d) k)
            (kept.fresh c k)
            ∙ ap (λ m. made_state (is_comp m c && is_alive_create e.op)) none;
        each_run = λ b d h. changed_runs b d h ∙ (ap (next_run e b) (kept.each_run b d h) ∙ sym (run_step past e b));
        no_other_run = λ b h. (
          first_none (comp_of past b) (if is_ok e.reply then starts_run e.op b else None) (kept.no_other_run b h).0
              (λ d s. let r = (runs_on n past e b d legal s).in_range in absurd (omega arith)),
          none_waits past e b (kept.no_other_run b h).1 (λ i. no_parks n past e legal ((kept.no_other_run e.caller.0 (omega arith)).0)),
        );
        on_existing = λ b d.
            first_cases (comp_of past b) (if is_ok e.reply then starts_run e.op b else None) d (d.0 < length states')
            (λ o. rw as_many (kept.on_existing b d o))
            (λ s. rw as_many (existing d.0 kept (runs_on n past e b d legal s).known));
        halted_if_killed = λ c.
            halted_by (exists past c) (kills e c) (was_killed past c) (is_some (start_in e c)) (halts (comp_of past e.caller.0) e c) (was_halted past c)
            (kill_halts (comp_of past e.caller.0) e c) (kept.halted_if_killed c)
            (λ s. let st = starts n past e c legal s in (st.no_kill, st.alive));
        waits_for_existing = λ b a w.
            all_exist_same (e ∷ past) past (target_names a.target) same
            ∙ test_cases (e.caller.0 == b) (parks e.op e.reply) (waiting past b) (Some a) (all_exist past (target_names a.target) ≡ true)
            (λ p. parked n past e a legal p) (λ p. kept.waits_for_existing b a p) w;
        on_last = λ c r.
            first_cases (start_in e c) (last_run past c) r (comp_of (e ∷ past) r.0 ≡ Some (record { 0 = c }))
            (λ s. let f = starts_fresh n past e c r legal s in now_on (is_ok e.reply) (comp_of past r.0) (starts_run e.op r.0) c f.0 f.1.free f.1.now)
            (λ l. still_on (comp_of past r.0) (if is_ok e.reply then starts_run e.op r.0 else None) c (kept.on_last c r l));
        over_is = or_swap over (is_over past) (ends_case e) kept.over_is;
        legal = (legal, kept.legal);
      }

pub stands_by : (v k : Kept) (past : List Entry) → v ≡ k → StandsFor v past → StandsFor k past
stands_by v k past same kept = subst (λ (w : Kept). StandsFor w past) same kept

-- the same, as a call has it: v is what is kept before the entry
pub keeps_entry : (v k : Kept) (past : List Entry) (e : Entry) (states' : List ComponentState) (runs' : List RunState) (own : Option Comp) (over' : Bool) → v ≡ k → StandsFor k past →
    e.reply ≡ answer k.behaviours past e.caller.0 e.op → own ≡ comp_of past e.caller.0 →
    created e.op e.reply ≡ None →
    length states' ≡ length v.states → ((c : ℕ) (d : ComponentState) → c < length v.states → get_or states' c d ≡ next_state own e c (get_or v.states c d)) →
    length runs' ≡ length v.runs → ((b : ℕ) (d : RunState) → b < length v.runs → get_or runs' b d ≡ next_run e b (get_or v.runs b d)) →
    over' ≡ (v.over || ends_case e) →
    IsKept v.behaviours (e ∷ past) states' runs' over'
unfolding StandsFor
keeps_entry v k past e states' runs' own over' same stands legal on none as_many changed as_many_runs changed_runs over_is =
    let kept : StandsFor v past = stands_by k v past (sym same) stands in
    let as_many_kept : length v.runs ≡ v.behaviours = kept.as_many_runs in
    rw over_is
    (keeps e states' runs' kept (legal ∙ ap (λ (w : Kept). answer w.behaviours past e.caller.0 e.op) (sym same)) none as_many
    (λ c d h. changed c d h ∙ ap (λ w. next_state w e c (get_or v.states c d)) on)
    as_many_runs (λ b d h. changed_runs b d (omega arith)))
