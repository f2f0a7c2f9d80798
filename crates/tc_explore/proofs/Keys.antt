-- Two states of one key are the same: what the keys of states say of them.
use Rattle.std.{proofs.{Common.{ℕ, zero, suc, ◌≡◌, ◌+◌, ◌==◌, ◌<◌, ◌≤◌, Bool, true, false, Option, Some, None, List, [], ◌∷◌, ◌++◌, ◌||◌, if◌then◌else◌, nat_eq, All, length, map, slice_get, refl, ap, sym, subst, ◌∙◌, arith, append-nil, append_assoc, ⊎_elim, nat_lt, length-append}, lemmas.{Bool.{Decides.nat_tests, cases_lt}, List.{length-map, map_push}, Option.{get_or_from_slice_get, slice_get_within}}}, specs.{Cmp.Lexicographic.{other_text, pointwise, same_text}, List.{AllByRecursion, IsDistinct, flat_map, list_any, range_with_len}}}
use Rattle.tc_rules.{specs.{Prelude.{level_of, Comp, Entry, Op, Case, past_of, components, is_alive_type, phase_if_any, overall, is_active, Verdict, phase, Phase, comp_of, exists, IsLegal, Target}, declared.component_state.ComponentState.ComponentState}, proofs.Lemmas.{Deciding.equal_if, Numbered.{exists_below, comps_numbered}}}
use Rattle.tc_step.specs.Prelude.{ScriptView}
use Rattle.tc_course.{specs.Prelude.{CourseState, stand, IsCourse}, proofs.Lemmas.{course_legal, run_in_range, stand_comp}}
use Rattle.tc_explore.{specs.{Inside.{Seen.{IsSame, IsSeen, IsState}, Simulation.IsAlike, Twins.{IsKnown, comp_code, comp_key, key_of, number_of, phase_code, run_key, run_key_of, wake_key}}, declared.search.Met.Met}, proofs.{Keeping.active_stays, Sameness.{same_comp, same_phase, same_verdict}, Simulation.some_if, Alike.{none_unless, fresh}}}

-- ---- lists that begin alike

pub append_same : (a b u v : List ℕ) → length a ≡ length b → a ++ u ≡ b ++ v → (a ≡ b) × (u ≡ v)
append_same [] [] u v size h = (refl, h)
append_same [] (y ∷ b) u v size h = absurd (omega (arith, size))
append_same (x ∷ a) [] u v size h = absurd (omega (arith, size))
append_same (x ∷ a) (y ∷ b) u v size h =
    let head : x ≡ y = cc in
    let tail : a ++ u ≡ b ++ v = cc in
    let rest = append_same a b u v (omega (arith, size)) tail in
    let front : a ≡ b = rest.0 in
    let whole : x ∷ a ≡ y ∷ b = cc in (whole, rest.1)

-- parts of which each ends where it says
abbrev pub Ends : (ℕ → List ℕ) → (ℕ → List ℕ) → Type 0
Ends f g = (b : ℕ) (u v : List ℕ) → f b ++ u ≡ g b ++ v → (f b ≡ g b) × (u ≡ v)

pub parts_same : (f g : ℕ → List ℕ) → Ends f g → (i n : ℕ) (u v : List ℕ) → flat_map f (range_with_len i n) ++ u ≡ flat_map g (range_with_len i n) ++ v →
    ((b : ℕ) → i ≤ b → b < i + n → f b ≡ g b) × (u ≡ v)
parts_same f g ends i zero u v h = (λ b low high. absurd (omega (arith, low, high)), h)
parts_same f g ends i (suc n) u v h =
    let one = ends i _ _ (sym (append_assoc (f i) (flat_map f (range_with_len (i + 1) n)) u) ∙ (h ∙ append_assoc (g i) (flat_map g (range_with_len (i + 1) n)) v)) in
    let rest = parts_same f g ends (i + 1) n u v one.1 in (λ b low high. by_place one.0 rest.0 b low high (b == i) refl, rest.1)
  where
    by_place : f i ≡ g i → ((b : ℕ) → i + 1 ≤ b → b < i + 1 + n → f b ≡ g b) → (b : ℕ) → i ≤ b → b < i + suc n → (t : Bool) → (b == i) ≡ t → f b ≡ g b
    by_place one rest b low high true k = let same : i ≡ b = sym (equal_if b i k) in subst (λ x. f x ≡ g x) same one
    by_place one rest b low high false k = rest b (grind (arith, nat_tests)) (omega (arith, high))

-- ---- keys

wake_length : (o : Option Op) → length (wake_key o) ≡ 2
wake_length (Some (Op.Wake killed (Target.One c))) = refl
wake_length o = refl

-- the Wake to come, if waits count
abbrev waits_of : Bool → CourseState → List ℕ
waits_of all s = if all then wake_key s.wake else []

waits_length : (all : Bool) (s t : CourseState) → length (waits_of all s) ≡ length (waits_of all t)
waits_length true s t = wake_length s.wake ∙ sym (wake_length t.wake)
waits_length false s t = refl

run_ends : (all x y : Bool) (s t : CourseState) (u v : List ℕ) → run_key all x s ++ u ≡ run_key all y t ++ v → (run_key all x s ≡ run_key all y t) × (u ≡ v)
run_ends all true true s t u v h =
    let on : comp_code s.comp ≡ comp_code t.comp = cc in
    let calls : s.called ≡ t.called = cc in
    let size : length s.bound ≡ length t.bound = cc in
    let tail : (map number_of s.bound ++ waits_of all s) ++ u ≡ (map number_of t.bound ++ waits_of all t) ++ v = cc in
    let sizes : length (map number_of s.bound ++ waits_of all s) ≡ length (map number_of t.bound ++ waits_of all t) =
    omega (arith, length-append (map number_of s.bound) (waits_of all s), length-append (map number_of t.bound) (waits_of all t), length-map s.bound number_of, length-map t.bound number_of, size, waits_length all s t) in
    let rest = append_same (map number_of s.bound ++ waits_of all s) (map number_of t.bound ++ waits_of all t) u v sizes tail in
    let bound : map number_of s.bound ++ waits_of all s ≡ map number_of t.bound ++ waits_of all t = rest.0 in
    let whole : run_key all true s ≡ run_key all true t = cc in (whole, rest.1)
run_ends all false false s t u v h =
    let on : comp_code s.comp ≡ comp_code t.comp = cc in
    let tail : u ≡ v = cc in
    let whole : run_key all false s ≡ run_key all false t = cc in (whole, tail)
run_ends all true false s t u v h = let no : ◌≡◌ {A = ℕ} 1 0 = cc in absurd (omega (arith, no))
run_ends all false true s t u v h = let no : ◌≡◌ {A = ℕ} 0 1 = cc in absurd (omega (arith, no))

comp_ends : (all : Bool) (p q : List Entry) → Ends (comp_key all p) (comp_key all q)
comp_ends true p q c u v h =
    let whole : comp_key true p c ≡ comp_key true q c = cc in
    let tail : u ≡ v = cc in (whole, tail)
comp_ends false p q c u v h =
    let whole : comp_key false p c ≡ comp_key false q c = cc in
    let tail : u ≡ v = cc in (whole, tail)

-- what two courses of one key have in common
pub record IsOneKey (all : Bool) (n : ℕ) (p q : List Entry) : Type 0 where
  pub verdict : level_of (overall p) ≡ level_of (overall q)
  pub count : components p ≡ components q
  pub comps : (c : ℕ) → c < components p → comp_key all p c ≡ comp_key all q c
  pub runs : (b : ℕ) → b < n → run_key_of all p b ≡ run_key_of all q b

pub one_key : (all : Bool) (n : ℕ) (p q : List Entry) → key_of all n p ≡ key_of all n q → IsOneKey all n p q
unfolding key_of
one_key all n p q h = record {
  verdict = cc;
  count = counts;
  comps = λ c near. parts.0 c (omega arith) (omega (arith, near));
  runs = λ b near. runs.0 b (omega arith) (omega (arith, near));
}
  where
    counts : components p ≡ components q
    counts = cc

    tail : flat_map (comp_key all p) (range_with_len 0 (components p)) ++ flat_map (run_key_of all p) (range_with_len 0 n) ≡ flat_map (comp_key all q) (range_with_len 0 (components q)) ++ flat_map (run_key_of all q) (range_with_len 0 n)
    tail = cc

    parts : ((c : ℕ) → 0 ≤ c → c < 0 + components p → comp_key all p c ≡ comp_key all q c) × (flat_map (run_key_of all p) (range_with_len 0 n) ≡ flat_map (run_key_of all q) (range_with_len 0 n))
    parts = parts_same (comp_key all p) (comp_key all q) (comp_ends all p q) 0 (components p) _ _
        (tail ∙ ap (λ m. flat_map (comp_key all q) (range_with_len 0 m) ++ flat_map (run_key_of all q) (range_with_len 0 n)) (sym counts))

    runs : ((b : ℕ) → 0 ≤ b → b < 0 + n → run_key_of all p b ≡ run_key_of all q b) × ◌≡◌ {A = List ℕ} [] []
    runs = parts_same (run_key_of all p) (run_key_of all q) (λ b u v. run_ends all (is_active p b) (is_active q b) (stand p b) (stand q b) u v) 0 n [] []
        (append-nil (flat_map (run_key_of all p) (range_with_len 0 n)) ∙ (parts.1 ∙ sym (append-nil (flat_map (run_key_of all q) (range_with_len 0 n)))))

-- ---- what is read off a key

numbers_same : (a b : List Comp) → map number_of a ≡ map number_of b → a ≡ b
numbers_same [] [] h = refl
numbers_same [] (d ∷ b) h = absurd cc
numbers_same (c ∷ a) [] h = absurd cc
numbers_same (c ∷ a) (d ∷ b) h =
    let one : c.0 ≡ d.0 = cc in
    let tail : map number_of a ≡ map number_of b = cc in
    let same : c ≡ d = ap (λ (m : ℕ). record { 0 = m }) one in
    let rest : a ≡ b = numbers_same a b tail in
    cc

kind_same : (a b : Bool) → ◌≡◌ {A = ℕ} (if a then 1 else 0) (if b then 1 else 0) → a ≡ b
kind_same true true h = refl
kind_same false false h = refl
kind_same _ _ h = absurd (omega (arith, h))

run_comp : (all x y : Bool) (s t : CourseState) → run_key all x s ≡ run_key all y t → comp_code s.comp ≡ comp_code t.comp
run_comp all true true s t h = cc
run_comp all true false s t h = cc
run_comp all false true s t h = cc
run_comp all false false s t h = cc

pub record CallsAs (all y : Bool) (s t : CourseState) : Type 0 where
  pub goes : y ≡ true
  pub called : s.called ≡ t.called
  pub bound : s.bound ≡ t.bound
  pub waits : waits_of all s ≡ waits_of all t

pub run_calls : (all y : Bool) (s t : CourseState) → run_key all true s ≡ run_key all y t → CallsAs all y s t
run_calls all true s t h =
    let size : length s.bound ≡ length t.bound = cc in
    let tail : map number_of s.bound ++ waits_of all s ≡ map number_of t.bound ++ waits_of all t = cc in
    let rest = append_same (map number_of s.bound) (map number_of t.bound) (waits_of all s) (waits_of all t) (length-map s.bound number_of ∙ (size ∙ sym (length-map t.bound number_of))) tail in
    record { goes = refl; called = cc; bound = numbers_same s.bound t.bound rest.0; waits = rest.1 }
run_calls all false s t h = let no : ◌≡◌ {A = ℕ} 1 0 = cc in absurd (omega (arith, no))

stand_of : Option Comp → List Comp → ℕ → Bool → Option Op → CourseState
stand_of comp bound called left wake = record { comp = comp; bound = bound; called = called; left = left; wake = wake }

some_same : (t : Bool) (x y : Phase) → t ≡ true → (if t then Some x else None) ≡ (if t then Some y else None) → x ≡ y
some_same true x y h e = cc
some_same false x y h e = absurd cc

-- two courses of one key
module _ (all : Bool) (scripts : List ScriptView) (p q : List Entry) (some : 1 ≤ length scripts) (cp : IsCourse scripts p) (cq : IsCourse scripts q) (h : key_of all (length scripts) p ≡ key_of all (length scripts) q) where
  pub k : IsOneKey all (length scripts) p q
  k = one_key all (length scripts) p q h

  lp : IsLegal (length scripts) p
  lp = course_legal scripts p cp

  lq : IsLegal (length scripts) q
  lq = course_legal scripts q cq

  -- a component is in both or in none
  pub there : (c : ℕ) (t : Bool) → nat_lt c (components p) ≡ t → (exists p c ≡ t) × (exists q c ≡ t)
  there c t j = (exists_below (length scripts) p c lp ∙ j, exists_below (length scripts) q c lq ∙ (ap (nat_lt c) (sym k.count) ∙ j))

  phases : (c : ℕ) (t : Bool) → nat_lt c (components p) ≡ t → phase p c ≡ phase q c
  unfolding phase_if_any
  phases c true j =
      let both : comp_key all p c ≡ comp_key all q c = k.comps c (grind (arith, nat_tests)) in
      let codes : phase_code (phase_if_any p c) ≡ phase_code (phase_if_any q c) = cc in
      let in_both = there c true j in
      some_same (exists p c) (phase p c) (phase q c) in_both.0 (same_phase (phase_if_any p c) (phase_if_any q c) codes ∙ ap (λ t. if t then Some (phase q c) else None) (in_both.1 ∙ sym in_both.0))
  phases c false j =
      let out = there c false j in
      ap (λ (x : ComponentState). x.phase) (fresh (length scripts) p c lp out.0) ∙ sym (ap (λ (x : ComponentState). x.phase) (fresh (length scripts) q c lq out.1))

  kinds : (c : ℕ) (t : Bool) → nat_lt c (components p) ≡ t → is_alive_type p c ≡ is_alive_type q c
  kinds c true j =
      let both : comp_key all p c ≡ comp_key all q c = k.comps c (grind (arith, nat_tests)) in
      let codes : ◌≡◌ {A = ℕ} (if is_alive_type p c then 1 else 0) (if is_alive_type q c then 1 else 0) = cc in
      kind_same (is_alive_type p c) (is_alive_type q c) codes
  kinds c false j =
      let out = there c false j in
      ap (λ (x : ComponentState). x.alive_type) (fresh (length scripts) p c lp out.0) ∙ sym (ap (λ (x : ComponentState). x.alive_type) (fresh (length scripts) q c lq out.1))

  comps : (b : ℕ) → b < length scripts → (stand p b).comp ≡ (stand q b).comp
  comps b near = same_comp (stand p b).comp (stand q b).comp (run_comp all (is_active p b) (is_active q b) (stand p b) (stand q b) (k.runs b near))

  beyond_range : (r : List Entry) (b : ℕ) → IsLegal (length scripts) r → length scripts ≤ b → comp_of r b ≡ None
  beyond_range r b legal far = none_unless (comp_of r b) (λ c on. let near = run_in_range (length scripts) r b c some legal on in omega (arith, near, far))

  -- are alike
  pub alike_by_key : IsAlike p q
  alike_by_key = record {
    comps_same = comps_numbered (length scripts) p lp ∙ (ap (range_with_len 0) k.count ∙ sym (comps_numbered (length scripts) q lq));
    phase_same = λ c. phases c (nat_lt c (components p)) refl;
    kind_same = λ c. kinds c (nat_lt c (components p)) refl;
    comp_same = λ b.
        ⊎_elim (λ near. sym (stand_comp scripts p b cp) ∙ (comps b near ∙ stand_comp scripts q b cq)) (λ far. beyond_range p b lp far ∙ sym (beyond_range q b lq far)) (cases_lt b (length scripts));
  }

  -- and of a run that continues the same is known, if it waits for the same
  pub stand_by_key : (b : ℕ) → is_active p b ≡ true → (stand p b).wake ≡ (stand q b).wake → stand p b ≡ stand q b
  unfolding stand_of
  stand_by_key b act wake = by_key (subst (λ x. run_key all x (stand p b) ≡ run_key_of all q b) act (k.runs b near))
    where
      near : b < length scripts
      near = let on = some_if p b act in run_in_range (length scripts) p b on.0 some (course_legal scripts p cp) on.1

      by_key : run_key all true (stand p b) ≡ run_key_of all q b → stand p b ≡ stand q b
      by_key one =
          let s = stand p b in
          let r = stand q b in
          let c = run_calls all (is_active q b) s r one in
          let on : s.comp ≡ r.comp = comps b near in
          let called : s.called ≡ r.called = c.called in
          let bound : s.bound ≡ r.bound = c.bound in
          let mine : s.left ≡ false = active_stays scripts p b cp act in
          let others : r.left ≡ false = active_stays scripts q b cq c.goes in
          let left : s.left ≡ r.left = mine ∙ sym others in
          let whole : stand_of s.comp s.bound s.called s.left s.wake ≡ stand_of r.comp r.bound r.called r.left r.wake = cc in whole

-- two states of one key are the same
pub same_by_key : {aim : Verdict} (scripts : List ScriptView) (t u : Case) → 1 ≤ length scripts → IsState aim scripts t → IsState aim scripts u → key_of false (length scripts) (past_of t) ≡ key_of false (length scripts) (past_of u) → IsSame (past_of t) (past_of u)
same_by_key scripts t u some st su h = record {
  alike = alike_by_key false scripts (past_of t) (past_of u) some st.opened.on.course su.opened.on.course h;
  overall_same = same_verdict (overall (past_of t)) (overall (past_of u)) (one_key false (length scripts) (past_of t) (past_of u) h).verdict;
  stands = λ b act.
      let none : (stand (past_of t) b).wake ≡ None = st.opened.no_wake b in
      let no_wake : (stand (past_of u) b).wake ≡ None = su.opened.no_wake b in (
        stand_by_key false scripts (past_of t) (past_of u) some st.opened.on.course su.opened.on.course h b act (none ∙ sym no_wake),
        no_wake,
      );
}

-- ---- the keys of a list of states

-- a key of the list is that of some state
pub key_found : {V : Type 0} (items : V → List ℕ) (key : Case → List ℕ) (k : List ℕ) (ks : List V) (ts : List Case) → map items ks ≡ map key ts → list_any (λ x. pointwise nat_eq k (items x)) ks ≡ true →
    (i : ℕ) × (t : Case) × (slice_get ts i ≡ Some t) × (k ≡ key t)
key_found items key k [] ts h is = absurd cc
key_found items key k (x ∷ ks) [] h is = absurd cc
key_found items key k (x ∷ ks) (t ∷ ts) h is =
    let first : items x ≡ key t = cc in
    let others : map items ks ≡ map key ts = cc in
    by_first (key_found items key k ks ts others) first (pointwise nat_eq k (items x)) refl
  where
    by_first : (list_any (λ y. pointwise nat_eq k (items y)) ks ≡ true → (i : ℕ) × (u : Case) × (slice_get ts i ≡ Some u) × (k ≡ key u)) → items x ≡ key t → (b : Bool) → pointwise nat_eq k (items x) ≡ b →
        (i : ℕ) × (u : Case) × (slice_get (t ∷ ts) i ≡ Some u) × (k ≡ key u)
    by_first later first true e = (0, t, refl, same_text k (items x) (sym e) ∙ first)
    by_first later first false e = let r = later (ap (λ b. b || list_any (λ y. pointwise nat_eq k (items y)) ks) (sym e) ∙ is) in (suc r.0, r.1, r.2, r.3)

-- one state more, and its key
pub keyed_more : {V : Type 0} (items : V → List ℕ) (of : Case → List ℕ) (ks : List V) (ts : List Case) (k : V) (t : Case) → map items ks ≡ map of ts → items k ≡ of t → map items (ks ++ k ∷ []) ≡ map of (ts ++ t ∷ [])
keyed_more items of ks ts k t all one = rw (map_push items ks k, map_push of ts t, all, one) refl

not_later : {V : Type 0} (items : V → List ℕ) (key : Case → List ℕ) (a : List ℕ) (ks : List V) (ts : List Case) (j : ℕ) (r : Case) → map items ks ≡ map key ts → AllByRecursion (λ y. pointwise nat_eq a (items y) ≡ false) ks →
    slice_get ts j ≡ Some r → a ≡ key r → ⊥
not_later items key a ks [] j r h all there same = absurd cc
not_later items key a [] (t ∷ ts) j r h all there same = absurd cc
not_later items key a (y ∷ ks) (t ∷ ts) zero r h all there same =
    let first : items y ≡ key t = cc in
    let is : r ≡ t = cc in
    other_text a (items y) (sym all.0) (same ∙ (ap key is ∙ sym first))
not_later items key a (y ∷ ks) (t ∷ ts) (suc j) r h all there same = let others : map items ks ≡ map key ts = cc in not_later items key a ks ts j r others all.1 there same

-- no two of the states are at one course
abbrev pub AreApart : List Case → Type 0
AreApart states = (i j : ℕ) (s t : Case) → slice_get states i ≡ Some s → slice_get states j ≡ Some t → past_of s ≡ past_of t → i ≡ j

-- no two states of distinct keys are at one course
pub keys_apart : {V : Type 0} (items : V → List ℕ) (key : List Entry → List ℕ) (ks : List V) (ts : List Case) → map items ks ≡ map (λ t. key (past_of t)) ts → IsDistinct (λ x y. pointwise nat_eq (items x) (items y)) ks → AreApart ts
unfolding IsDistinct
keys_apart items key ks [] h d i j s r here there same = absurd cc
keys_apart items key [] (t ∷ ts) h d i j s r here there same = absurd cc
keys_apart items key (x ∷ ks) (t ∷ ts) h d zero zero s r here there same = refl
keys_apart items key (x ∷ ks) (t ∷ ts) h d (suc i) (suc j) s r here there same =
    let others : map items ks ≡ map (λ u. key (past_of u)) ts = cc in ap suc (keys_apart items key ks ts others d.1 i j s r here there same)
keys_apart items key (x ∷ ks) (t ∷ ts) h d zero (suc j) s r here there same =
    let others : map items ks ≡ map (λ u. key (past_of u)) ts = cc in
    let first : items x ≡ key (past_of t) = cc in
    let is : t ≡ s = cc in
    absurd (not_later items (λ u. key (past_of u)) (items x) ks ts j r others d.0 there (first ∙ ap key (ap past_of is ∙ same)))
keys_apart items key (x ∷ ks) (t ∷ ts) h d (suc i) zero s r here there same =
    let others : map items ks ≡ map (λ u. key (past_of u)) ts = cc in
    let first : items x ≡ key (past_of t) = cc in
    let is : t ≡ r = cc in
    absurd (not_later items (λ u. key (past_of u)) (items x) ks ts i s others d.0 here (first ∙ ap key (ap past_of is ∙ sym same)))

-- what a key that is known leads to
pub seen_by_key : {aim : Verdict} (scripts : List ScriptView) (met : Met) (t : Case) → 1 ≤ length scripts → IsState aim scripts t → All (λ u. IsState aim scripts u) met.states.items →
    (met.is_whole ≡ true → IsKnown (key_of false (length scripts)) met.states.items (past_of t)) → IsSeen met (past_of t)
seen_by_key {aim} scripts met t some state each known = λ whole.
    let f = known whole in
    let there : IsState aim scripts f.1 = subst (IsState aim scripts) (get_or_from_slice_get met.states.items f.0 f.1 f.1 f.2) (each f.0 f.1 (slice_get_within met.states.items f.0 f.1 f.2)) in
    (f.0, f.1, f.2, same_by_key scripts t f.1 some state there f.3)
