-- Lists that are changed place by place; a Stop of all if none is running, and a Kill of all if each is killed, leave
-- the states as they are.
use Rattle.std.{proofs.{Common.{ℕ, ◌≡◌, ◌≢◌, ◌+◌, ◌<◌, ◌≤◌, List, length, get_or, get_or-set_other, get_or-set_same, below_more, arith, ◌∙◌, ap, sym, zero, suc, ◌==◌, ◌&&◌, ◌||◌, not, if◌then◌else◌, Bool, true, false, Option, None, [], ◌∷◌, drop, refl}, Math.ListN.{set, length-set}, lemmas.Bool.Decides.nat_tests, lemmas.List.get_or_default}, specs.List.list_all}
use Rattle.tc_entry.specs.{Prelude.{Verdict, Run, is_ended, is_fault, is_ok}, declared.comp.Comp.Comp, declared.entry.Entry.Entry, declared.op.Group.Group, declared.op.Op.Op, declared.phase.Phase.Phase, declared.reply.Reply.Reply}
use Rattle.tc_rules.{specs.{History.{ends_case, halts, is_comp, is_kill_of, is_stop_of, kills}, Inside.Words.first_some, Inside.States.{all_killed, none_running}, Inside.Step.{IsSettled, finds, finds_none, halted, next_excused, next_local, next_phase, next_state}, Local.gives, Phases.start_in, Status.{is_killed, is_running}, declared.component_state.ComponentState.ComponentState}, proofs.Lemmas.Deciding.{and_left, and_no, and_right, gives_if, if_same}}

-- one more place has F of what was there
mapped_more : {A : Type 0} (F : ℕ → A → A) (old xs : List A) (i : ℕ) (x y e : A) → length xs ≡ length old → i < length old →
    ((k : ℕ) (d : A) → k < i → get_or xs k d ≡ F k (get_or old k d)) →
    ((k : ℕ) (d : A) → i ≤ k → get_or xs k d ≡ get_or old k d) →
    y ≡ get_or xs i e → x ≡ F i y →
    (k : ℕ) (d : A) → k < i + 1 → get_or (set xs i x) k d ≡ F k (get_or old k d)
mapped_more {A} F old xs i x y e as_many within below above read made k d h =
    below_more (λ j. (v : A) → get_or (set xs i x) j v ≡ F j (get_or old j v)) i
    (λ j less v. let ne : j ≢ i = omega arith in rw get_or-set_other (below j v less))
    (λ v. let k : i < length xs = omega arith in
    let r : y ≡ get_or old i v = read ∙ (above i e (omega arith) ∙ get_or_default old i e v within) in
    rw get_or-set_same (made ∙ ap (F i) r))
    k h d

-- the same, with the places from the next on as they were
pub mapped_step : {A : Type 0} (F : ℕ → A → A) (old xs new : List A) (i : ℕ) (x y e : A) → new ≡ set xs i x → length xs ≡ length old → i < length old →
    ((k : ℕ) (d : A) → k < i → get_or xs k d ≡ F k (get_or old k d)) →
    ((k : ℕ) (d : A) → i ≤ k → get_or xs k d ≡ get_or old k d) →
    y ≡ get_or xs i e → x ≡ F i y →
    (length new ≡ length old) × ((k : ℕ) (d : A) → k < i + 1 → get_or new k d ≡ F k (get_or old k d)) × ((k : ℕ) (d : A) → i + 1 ≤ k → get_or new k d ≡ get_or old k d)
mapped_step F old xs new i x y e is as_many within below above read made =
    rw is (
      length-set xs i x ∙ as_many,
      mapped_more F old xs i x y e as_many within below above read made,
      (λ k d h. let ne : k ≢ i = omega arith in rw get_or-set_other (above k d (omega arith))),
    )

-- the same, if F leaves what was at this place
pub mapped_past : {A : Type 0} (F : ℕ → A → A) (old xs : List A) (i : ℕ) → length xs ≡ length old →
    ((k : ℕ) (d : A) → k < i → get_or xs k d ≡ F k (get_or old k d)) →
    ((k : ℕ) (d : A) → i ≤ k → get_or xs k d ≡ get_or old k d) →
    ((d : A) → F i (get_or old i d) ≡ get_or old i d) →
    (length xs ≡ length old) × ((k : ℕ) (d : A) → k < i + 1 → get_or xs k d ≡ F k (get_or old k d)) × ((k : ℕ) (d : A) → i + 1 ≤ k → get_or xs k d ≡ get_or old k d)
mapped_past {A} F old xs i as_many below above same = (
  as_many,
  (λ k d h. below_more (λ j. (v : A) → get_or xs j v ≡ F j (get_or old j v)) i (λ j less v. below j v less) (λ v. above i v (omega arith) ∙ sym (same v)) k h d),
  (λ k d h. above k d (omega arith)),
)

not_true : (a : Bool) → not a ≡ true → a ≡ false
not_true true h = absurd cc
not_true false h = refl

-- what holds of all except the first holds at each place except the first
all_at : {A : Type 0} (p : A → Bool) (xs : List A) (i : ℕ) (d : A) → list_all p xs ≡ true → i < length xs → p (get_or xs i d) ≡ true
all_at p [] i d h k = absurd (omega arith)
all_at p (x ∷ xs) zero d h k = and_left (p x) (list_all p xs) h
all_at p (x ∷ xs) (suc i) d h k = all_at p xs i d (and_right (p x) (list_all p xs) h) (omega arith)

all_behind : {A : Type 0} (p : A → Bool) (xs : List A) (c : ℕ) (d : A) → list_all p (drop 1 xs) ≡ true → c < length xs → c ≢ 0 → p (get_or xs c d) ≡ true
all_behind p [] c d h k ne = absurd (omega arith)
all_behind p (x ∷ xs) zero d h k ne = absurd (ne refl)
all_behind p (x ∷ xs) (suc i) d h k ne = all_at p xs i d h (omega arith)

none_running_at : (states : List ComponentState) (c : ℕ) (d : ComponentState) → none_running (drop 1 states) ≡ true → c < length states → c ≢ 0 →
    is_running (get_or states c d).phase ≡ false
unfolding none_running
none_running_at states c d h k ne = not_true (is_running (get_or states c d).phase) (all_behind (λ s. not (is_running s.phase)) states c d h k ne)

killed_at : (states : List ComponentState) (c : ℕ) (d : ComponentState) → all_killed (drop 1 states) ≡ true → c < length states → c ≢ 0 →
    is_killed (get_or states c d).phase ≡ true
unfolding all_killed
killed_at states c d h k ne = all_behind (λ s. is_killed s.phase) states c d h k ne

halted_if : (t : Bool) (alive_type : Bool) (p : Phase) → (t ≡ true → is_running p ≡ false) → (if t then halted alive_type p else p) ≡ p
halted_if false alive_type p h = refl
halted_if true alive_type (Phase.Running r) h = let e = h refl in absurd cc
halted_if true alive_type Phase.Inactive h = refl
halted_if true alive_type Phase.Stopped h = refl
halted_if true alive_type Phase.Killed h = refl

killed_if : (t : Bool) (p : Phase) → (t ≡ true → is_killed p ≡ true) → (if t then Phase.Killed else p) ≡ p
killed_if false p h = refl
killed_if true (Phase.Running r) h = let e = h refl in absurd cc
killed_if true Phase.Inactive h = let e = h refl in absurd cc
killed_if true Phase.Stopped h = let e = h refl in absurd cc
killed_if true Phase.Killed h = refl

killed_is_still : (p : Phase) → is_killed p ≡ true → is_running p ≡ false
killed_is_still (Phase.Running r) h = absurd cc
killed_is_still _ h = refl

gives_none : (op : Op) (reply : Reply) (case fin stop kill : Bool) → gives op Reply.Ok ≡ [] → (not (is_ended reply) && (is_fault reply || case || fin || stop || kill)) ≡ false → gives op reply ≡ []
gives_none op (Reply.Fault f) case fin stop kill h k = absurd cc
gives_none op reply case fin stop kill h k = gives_if op reply refl h

-- what is known of an entry that finds component c in no phase that it changes
record Quiet (own : Option Comp) (e : Entry) (c : ℕ) (p : Phase) : Type 0 where
  kill : kills e c ≡ true → is_killed p ≡ true
  halt : halts own e c ≡ true → is_running p ≡ false
  start : start_in e c ≡ None
  given : gives e.op e.reply ≡ []

excused_by : (r halt a b excused : Bool) → (halt ≡ true → r ≡ false) → (r ≡ true → excused ≡ false) → (if r then halt && a && b else excused) ≡ excused
excused_by false halt a b excused h settled = refl
excused_by true false a b excused h settled = sym (settled refl)
excused_by true true a b excused h settled = let e = h refl in absurd cc

phase_by : (kill halt alive_type : Bool) (p : Phase) → (kill ≡ true → is_killed p ≡ true) → (halt ≡ true → is_running p ≡ false) → next_phase kill None halt alive_type p ≡ p
phase_by true halt alive_type p k h = killed_if true p k
phase_by false halt alive_type p k h = halted_if halt alive_type p h

state_by : (kill halt on off : Bool) (start : Option Run) (vs : List Verdict) (s : ComponentState) → start ≡ None → vs ≡ [] → (kill ≡ true → is_killed s.phase ≡ true) → (halt ≡ true → is_running s.phase ≡ false) →
    (is_running s.phase ≡ true → s.excused ≡ false) →
    record { phase = next_phase kill start halt s.alive_type s.phase; alive_type = s.alive_type; last = first_some start s.last; excused = next_excused start (halt && on && off) s.phase s.excused; local = next_local vs s.local } ≡ s
state_by kill halt on off start vs s a b k h settled =
    let p : next_phase kill None halt s.alive_type s.phase ≡ s.phase = phase_by kill halt s.alive_type s.phase k h in
    let x : (if is_running s.phase then halt && on && off else s.excused) ≡ s.excused = excused_by (is_running s.phase) halt on off s.excused h settled in
    rw (a, b) (ap (λ q. record s { phase = q; excused = if is_running s.phase then halt && on && off else s.excused }) p ∙ ap (λ y. record s { excused = y }) x)

unchanged_if : (own : Option Comp) (e : Entry) (c : ℕ) (s : ComponentState) → Quiet own e c s.phase → (is_running s.phase ≡ true → s.excused ≡ false) → next_state own e c s ≡ s
unfolding next_state
unchanged_if own e c s q settled =
    let g : (if is_comp own c then gives e.op e.reply else []) ≡ [] = rw q.given (if_same (is_comp own c) []) in
    state_by (kills e c) (halts own e c) (is_stop_of e.op c || is_kill_of e.op c) (not (is_comp own c)) (start_in e c) (if is_comp own c then gives e.op e.reply else []) s q.start g q.kill q.halt settled

quiet : (own : Option Comp) (caller : Run) (op : Op) (reply : Reply) (states : List ComponentState) (c : ℕ) (d : ComponentState) → ends_case (record { caller = caller; op = op; reply = reply }) ≡ false → finds_none op states ≡ true →
    c < length states → Quiet own (record { caller = caller; op = op; reply = reply }) c (get_or states c d).phase
quiet own caller (Op.Stop Group.All) reply states c d ends none within = record {
  kill = λ k. let e : kills (record { caller = caller; op = Op.Stop Group.All; reply = reply }) c ≡ false = rw ends (and_no (not (is_ended reply))) in absurd cc;
  halt = λ h. by_test (c == 0) refl h;
  start = if_same (is_ok reply) None;
  given = gives_none (Op.Stop Group.All) reply false false false false refl ends;
}
  where
    by_test : (t : Bool) → (c == 0) ≡ t → halts own (record { caller = caller; op = Op.Stop Group.All; reply = reply }) c ≡ true → is_running (get_or states c d).phase ≡ false
    by_test true z h = let e : halts own (record { caller = caller; op = Op.Stop Group.All; reply = reply }) c ≡ false = rw (ends, z, and_no (not (is_ended reply))) refl in absurd cc
    by_test false z h = let ne : c ≢ 0 = grind (arith, nat_tests) in none_running_at states c d none within ne
quiet own caller (Op.Kill Group.All) reply states c d ends none within = record {
  kill = λ k. by_kill (c == 0) refl k;
  halt = λ h. by_halt (c == 0) refl h;
  start = if_same (is_ok reply) None;
  given = gives_none (Op.Kill Group.All) reply false false false false refl ends;
}
  where
    by_kill : (t : Bool) → (c == 0) ≡ t → kills (record { caller = caller; op = Op.Kill Group.All; reply = reply }) c ≡ true → is_killed (get_or states c d).phase ≡ true
    by_kill true z h = let e : kills (record { caller = caller; op = Op.Kill Group.All; reply = reply }) c ≡ false = rw (ends, z) (and_no (not (is_ended reply))) in absurd cc
    by_kill false z h = let ne : c ≢ 0 = grind (arith, nat_tests) in killed_at states c d none within ne

    by_halt : (t : Bool) → (c == 0) ≡ t → halts own (record { caller = caller; op = Op.Kill Group.All; reply = reply }) c ≡ true → is_running (get_or states c d).phase ≡ false
    by_halt true z h = let e : halts own (record { caller = caller; op = Op.Kill Group.All; reply = reply }) c ≡ false = rw (ends, z, and_no (not (is_ended reply))) refl in absurd cc
    by_halt false z h = let ne : c ≢ 0 = grind (arith, nat_tests) in killed_is_still (get_or states c d).phase (killed_at states c d none within ne)
quiet own caller (Op.Stop (Group.One i)) reply states c d ends none within = absurd cc
quiet own caller (Op.Kill (Group.One i)) reply states c d ends none within = absurd cc
quiet own caller _ reply states c d ends none within = absurd cc

pub none_found : (own : Option Comp) (e : Entry) (states : List ComponentState) → IsSettled states → ends_case e ≡ false → finds_none e.op states ≡ true →
    (c : ℕ) (d : ComponentState) → c < length states → get_or states c d ≡ next_state own e c (get_or states c d)
none_found own e states settled ends none c d within =
    sym (unchanged_if own e c (get_or states c d) (quiet own e.caller e.op e.reply states c d ends none within) (settled.not_excused c d within))

not_false : (a : Bool) → not a ≡ false → a ≡ true
not_false true h = refl
not_false false h = absurd cc

not_found : (own : Option Comp) (caller : Run) (op : Op) (reply : Reply) (c : ℕ) (p : Phase) → ends_case (record { caller = caller; op = op; reply = reply }) ≡ false → finds op p ≡ false →
    Quiet own (record { caller = caller; op = op; reply = reply }) c p
not_found own caller (Op.Stop Group.All) reply c p ends none = record {
  kill = λ k. let e : kills (record { caller = caller; op = Op.Stop Group.All; reply = reply }) c ≡ false = rw ends (and_no (not (is_ended reply))) in absurd cc;
  halt = λ h. none;
  start = if_same (is_ok reply) None;
  given = gives_none (Op.Stop Group.All) reply false false false false refl ends;
}
not_found own caller (Op.Kill Group.All) reply c p ends none = record {
  kill = λ k. not_false (is_killed p) none;
  halt = λ h. killed_is_still p (not_false (is_killed p) none);
  start = if_same (is_ok reply) None;
  given = gives_none (Op.Kill Group.All) reply false false false false refl ends;
}
not_found own caller (Op.Stop (Group.One i)) reply c p ends none = absurd cc
not_found own caller (Op.Kill (Group.One i)) reply c p ends none = absurd cc
not_found own caller _ reply c p ends none = absurd cc

-- a component that is not found stays as it is
left_as_it_is : (own : Option Comp) (e : Entry) (states : List ComponentState) → IsSettled states → ends_case e ≡ false →
    (c : ℕ) (d : ComponentState) → c < length states → finds e.op (get_or states c d).phase ≡ false → next_state own e c (get_or states c d) ≡ get_or states c d
left_as_it_is own e states settled ends c d within none =
    unchanged_if own e c (get_or states c d) (not_found own e.caller e.op e.reply c (get_or states c d).phase ends none) (settled.not_excused c d within)

-- a pass depends on a component that is not found
pub passed_by : (own : Option Comp) (e : Entry) (old xs : List ComponentState) (i : ℕ) (s : ComponentState) → IsSettled old → ends_case e ≡ false → length xs ≡ length old → i < length old →
    ((k : ℕ) (d : ComponentState) → k < i → get_or xs k d ≡ next_state own e k (get_or old k d)) →
    ((k : ℕ) (d : ComponentState) → i ≤ k → get_or xs k d ≡ get_or old k d) →
    s ≡ get_or xs i s → finds e.op s.phase ≡ false →
    (length xs ≡ length old) × ((k : ℕ) (d : ComponentState) → k < i + 1 → get_or xs k d ≡ next_state own e k (get_or old k d)) × ((k : ℕ) (d : ComponentState) → i + 1 ≤ k → get_or xs k d ≡ get_or old k d)
passed_by own e old xs i s settled ends as_many within below above read none =
    mapped_past (next_state own e) old xs i as_many below above (λ d.
    let r : s ≡ get_or old i d = read ∙ (above i s (omega arith) ∙ get_or_default old i s d within) in
    left_as_it_is own e old settled ends i d within (ap (λ (t : ComponentState). finds e.op t.phase) (sym r) ∙ none))
