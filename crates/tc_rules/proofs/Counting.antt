-- What is counted over states.
use Rattle.std.{proofs.{Common.{ℕ, zero, suc, ◌≡◌, ◌+◌, ◌<◌, ◌≤◌, ◌==◌, ◌&&◌, ◌||◌, not, if◌then◌else◌, nat_lt, Bool, true, false, is_some, List, [], ◌∷◌, ◌++◌, length, drop, get_or, refl, ap, sym, ◌∙◌, arith, length-append}, Math.ListN.{set, length-set}, lemmas.Bool.Decides.nat_tests}, specs.List.{list_any, list_all}}
use Rattle.tc_entry.specs.{declared.limits.TheConstants.COMPONENTS, Prelude.{Verdict, worse, level_of}}
use Rattle.tc_verdict.proofs.Lemmas.Order.{worse_later, worse_swap}
use Rattle.tc_rules.specs.{Inside.Counts.IsCounted, Inside.Counts.bit, Inside.Counts.count_of, Inside.Counts.is_lapsed, Inside.Counts.made_state, Inside.Counts.main_state, Inside.States.all_killed, Inside.States.any_done, Inside.States.any_killed, Inside.States.none_lapsed, Inside.States.none_running, Inside.States.worst_local, Status.is_done, Status.is_killed, Status.is_running, declared.component_state.ComponentState.ComponentState}

-- counts instead of searches

count_le : (p : ComponentState → Bool) (xs : List ComponentState) → count_of p xs ≤ length xs
count_le p [] = omega arith
count_le p (x ∷ xs) = by_test (p x) (count_of p xs) (length xs) (count_le p xs)
  where
    by_test : (t : Bool) (n m : ℕ) → n ≤ m → bit t + n ≤ suc m
    by_test true n m h = omega arith
    by_test false n m h = omega arith

any_is : (p : ComponentState → Bool) (xs : List ComponentState) → list_any p xs ≡ nat_lt 0 (count_of p xs)
any_is p [] = refl
any_is p (x ∷ xs) = by_test (p x) (list_any p xs) (count_of p xs) (any_is p xs)
  where
    by_test : (t b : Bool) (n : ℕ) → b ≡ nat_lt 0 n → (t || b) ≡ nat_lt 0 (bit t + n)
    by_test true b n h = grind (arith, nat_tests)
    by_test false b n h = grind (arith, nat_tests)

none_is : (p : ComponentState → Bool) (xs : List ComponentState) → list_all (λ s. not (p s)) xs ≡ (count_of p xs == 0)
none_is p [] = refl
none_is p (x ∷ xs) = by_test (p x) (list_all (λ s. not (p s)) xs) (count_of p xs) (none_is p xs)
  where
    by_test : (t b : Bool) (n : ℕ) → b ≡ (n == 0) → (not t && b) ≡ (bit t + n == 0)
    by_test true b n h = grind (arith, nat_tests)
    by_test false b n h = grind (arith, nat_tests)

all_is : (p : ComponentState → Bool) (xs : List ComponentState) → list_all p xs ≡ (count_of p xs == length xs)
all_is p [] = refl
all_is p (x ∷ xs) = by_test (p x) (list_all p xs) (count_of p xs) (length xs) (all_is p xs) (count_le p xs)
  where
    by_test : (t b : Bool) (n m : ℕ) → b ≡ (n == m) → n ≤ m → (t && b) ≡ (bit t + n == suc m)
    by_test true b n m h k = grind (arith, nat_tests)
    by_test false b n m h k = grind (arith, nat_tests)

lapsed_is : (xs : List ComponentState) → list_all (λ s. not (is_some s.last) || is_running s.phase || s.excused) xs ≡ (count_of is_lapsed xs == 0)
lapsed_is [] = refl
lapsed_is (x ∷ xs) = by_test (is_some x.last) (is_running x.phase) x.excused _ (count_of is_lapsed xs) (lapsed_is xs)
  where
    by_test : (s r e b : Bool) (n : ℕ) → b ≡ (n == 0) → ((not s || r || e) && b) ≡ (bit (s && not r && not e) + n == 0)
    by_test true true e b n h = grind (arith, nat_tests)
    by_test true false true b n h = grind (arith, nat_tests)
    by_test true false false b n h = grind (arith, nat_tests)
    by_test false r e b n h = grind (arith, nat_tests)

length-drop-one : (xs : List ComponentState) → 1 ≤ length xs → length (drop 1 xs) + 1 ≡ length xs
length-drop-one [] h = absurd (omega arith)
length-drop-one (x ∷ xs) h = omega arith

module _ {states : List ComponentState} {running done killed lapsed : ℕ} {w : Verdict} where
  pub none_running_is : IsCounted states running done killed lapsed w → none_running (drop 1 states) ≡ (running == 0)
  unfolding none_running
  none_running_is k = none_is (λ s. is_running s.phase) (drop 1 states) ∙ ap (λ n. n == 0) (sym k.running_is)

  pub any_killed_is : IsCounted states running done killed lapsed w → any_killed (drop 1 states) ≡ nat_lt 0 killed
  unfolding any_killed
  any_killed_is k = any_is (λ s. is_killed s.phase) (drop 1 states) ∙ ap (nat_lt 0) (sym k.killed_is)

  pub all_killed_is : IsCounted states running done killed lapsed w → all_killed (drop 1 states) ≡ (killed + 1 == length states)
  unfolding all_killed
  all_killed_is k =
      all_is (λ s. is_killed s.phase) (drop 1 states)
      ∙ (let e : length (drop 1 states) + 1 ≡ length states = length-drop-one states k.some in let f = k.killed_is in grind (arith, nat_tests))

  pub any_done_is : IsCounted states running done killed lapsed w → any_done (drop 1 states) ≡ nat_lt 0 done
  unfolding any_done
  any_done_is k = any_is (λ s. is_done s.phase) (drop 1 states) ∙ ap (nat_lt 0) (sym k.done_is)

  pub none_lapsed_is : IsCounted states running done killed lapsed w → none_lapsed (drop 1 states) ≡ (lapsed == 0)
  unfolding none_lapsed
  none_lapsed_is k = lapsed_is (drop 1 states) ∙ ap (λ n. n == 0) (sym k.lapsed_is)

-- one state is changed

count-set : (p : ComponentState → Bool) (xs : List ComponentState) (i : ℕ) (y d : ComponentState) → i < length xs → count_of p (set xs i y) + bit (p (get_or xs i d)) ≡ count_of p xs + bit (p y)
count-set p [] i y d h = absurd (omega arith)
count-set p (x ∷ xs) zero y d h = omega arith
count-set p (x ∷ xs) (suc i) y d h = omega (arith, count-set p xs i y d (omega arith))

count-at : (p : ComponentState → Bool) (xs : List ComponentState) (i : ℕ) (d : ComponentState) → i < length xs → bit (p (get_or xs i d)) ≤ count_of p xs
count-at p [] i d h = absurd (omega arith)
count-at p (x ∷ xs) zero d h = omega arith
count-at p (x ∷ xs) (suc i) d h = omega (arith, count-at p xs i d (omega arith))

-- a change of another state than the main one is counted
recounted : (p : ComponentState → Bool) (xs : List ComponentState) (i : ℕ) (old y : ComponentState) (n m : ℕ) → 0 < i → i < length xs → old ≡ get_or xs i old → n ≡ count_of p (drop 1 xs) →
    m + bit (p old) ≡ n + bit (p y) → m ≡ count_of p (drop 1 (set xs i y))
recounted p [] i old y n m other h is a b = absurd (omega arith)
recounted p (x ∷ xs) zero old y n m other h is a b = absurd (omega arith)
recounted p (x ∷ xs) (suc i) old y n m other h is a b =
    let e : bit (p old) ≡ bit (p (get_or xs i old)) = ap (λ s. bit (p s)) is in
    let f : count_of p (set xs i y) + bit (p (get_or xs i old)) ≡ count_of p xs + bit (p y) = count-set p xs i y old (omega arith) in
    omega arith

counted_at : (p : ComponentState → Bool) (xs : List ComponentState) (i : ℕ) (old : ComponentState) (n : ℕ) → 0 < i → i < length xs → old ≡ get_or xs i old → n ≡ count_of p (drop 1 xs) → bit (p old) ≤ n
counted_at p [] i old n other h is a = absurd (omega arith)
counted_at p (x ∷ xs) zero old n other h is a = absurd (omega arith)
counted_at p (x ∷ xs) (suc i) old n other h is a =
    let e : bit (p old) ≡ bit (p (get_or xs i old)) = ap (λ s. bit (p s)) is in
    let f : bit (p (get_or xs i old)) ≤ count_of p xs = count-at p xs i old (omega arith) in
    omega arith

drop_set_main : (xs : List ComponentState) (i : ℕ) (y : ComponentState) → i ≤ 0 → drop 1 (set xs i y) ≡ drop 1 xs
drop_set_main [] i y main = refl
drop_set_main (x ∷ xs) zero y main = refl
drop_set_main (x ∷ xs) (suc i) y main = absurd (omega arith)

few_counted : (p : ComponentState → Bool) (xs : List ComponentState) (n : ℕ) → length xs ≤ COMPONENTS → n ≡ count_of p (drop 1 xs) → n ≤ COMPONENTS
few_counted p [] n h e = omega arith
few_counted p (x ∷ xs) n h e = omega (arith, count_le p xs)

-- the worst verdict

worst-set : (xs : List ComponentState) (i : ℕ) (y d : ComponentState) → i < length xs → level_of (get_or xs i d).local ≤ level_of y.local → worst_local (set xs i y) ≡ worse (worst_local xs) y.local
unfolding worst_local
worst-set [] i y d h k = absurd (omega arith)
worst-set (x ∷ xs) zero y d h k = worse_later (worst_local xs) x.local y.local k
worst-set (x ∷ xs) (suc i) y d h k =
    ap (λ w. worse w x.local) (worst-set xs i y d (omega arith) k) ∙ worse_swap (worst_local xs) x.local y.local

worst-more : (xs : List ComponentState) (alive : Bool) → worst_local (xs ++ made_state alive ∷ []) ≡ worst_local xs
unfolding worst_local
worst-more [] alive = refl
worst-more (x ∷ xs) alive = ap (λ w. worse w x.local) (worst-more xs alive)

count-more : (p : ComponentState → Bool) (xs : List ComponentState) (y : ComponentState) → p y ≡ false → count_of p (xs ++ y ∷ []) ≡ count_of p xs
count-more p [] y h = rw h
count-more p (x ∷ xs) y h = ap (λ n. bit (p x) + n) (count-more p xs y h)

counted-more : (p : ComponentState → Bool) (xs : List ComponentState) (y : ComponentState) → 1 ≤ length xs → p y ≡ false → count_of p (drop 1 (xs ++ y ∷ [])) ≡ count_of p (drop 1 xs)
counted-more p [] y k h = absurd (omega arith)
counted-more p (x ∷ xs) y k h = count-more p xs y h

module _ {states : List ComponentState} {running done killed lapsed : ℕ} {w : Verdict} where
  counted_more : (alive : Bool) → IsCounted states running done killed lapsed w → length states < COMPONENTS → IsCounted (states ++ made_state alive ∷ []) running done killed lapsed w
  counted_more alive k h =
      let e = length-append states (made_state alive ∷ []) in
      record {
        some = omega (arith, k.some);
        few = omega arith;
        running_is = k.running_is ∙ sym (counted-more (λ s. is_running s.phase) states (made_state alive) k.some refl);
        done_is = k.done_is ∙ sym (counted-more (λ s. is_done s.phase) states (made_state alive) k.some refl);
        killed_is = k.killed_is ∙ sym (counted-more (λ s. is_killed s.phase) states (made_state alive) k.some refl);
        lapsed_is = k.lapsed_is ∙ sym (counted-more is_lapsed states (made_state alive) k.some refl);
        worst_is = k.worst_is ∙ sym (worst-more states alive);
      }

  pub counted_set : (i : ℕ) (old y : ComponentState) (r d k l : ℕ) (v : Verdict) → IsCounted states running done killed lapsed w → 0 < i → i < length states → old ≡ get_or states i old →
      level_of (get_or states i y).local ≤ level_of y.local →
      r + bit (is_running old.phase) ≡ running + bit (is_running y.phase) →
      d + bit (is_done old.phase) ≡ done + bit (is_done y.phase) →
      k + bit (is_killed old.phase) ≡ killed + bit (is_killed y.phase) →
      l + bit (is_lapsed old) ≡ lapsed + bit (is_lapsed y) →
      v ≡ worse w y.local → IsCounted (set states i y) r d k l v
  counted_set i old y r d k l v c other within is level a b e f g =
      let len = length-set states i y in
      record {
        some = omega (arith, c.some);
        few = omega (arith, c.few);
        running_is = recounted (λ s. is_running s.phase) states i old y running r other within is c.running_is a;
        done_is = recounted (λ s. is_done s.phase) states i old y done d other within is c.done_is b;
        killed_is = recounted (λ s. is_killed s.phase) states i old y killed k other within is c.killed_is e;
        lapsed_is = recounted is_lapsed states i old y lapsed l other within is c.lapsed_is f;
        worst_is = g ∙ (ap (λ z. worse z y.local) c.worst_is ∙ sym (worst-set states i y y within level));
      }

  -- a change of the main state is not counted
  pub main_set : (i : ℕ) (y : ComponentState) (v : Verdict) → IsCounted states running done killed lapsed w → i ≤ 0 → i < length states →
      level_of (get_or states i y).local ≤ level_of y.local → v ≡ worse w y.local → IsCounted (set states i y) running done killed lapsed v
  main_set i y v c main within level g =
      let len = length-set states i y in
      let same = drop_set_main states i y main in
      record {
        some = omega (arith, c.some);
        few = omega (arith, c.few);
        running_is = rw same c.running_is;
        done_is = rw same c.done_is;
        killed_is = rw same c.killed_is;
        lapsed_is = rw same c.lapsed_is;
        worst_is = g ∙ (ap (λ z. worse z y.local) c.worst_is ∙ sym (worst-set states i y y within level));
      }

  -- the same, if the growth was not refused
  pub counted_either : (alive ok : Bool) (after : List ComponentState) → IsCounted states running done killed lapsed w → length states < COMPONENTS →
      after ≡ (if ok then states ++ made_state alive ∷ [] else states) → IsCounted after running done killed lapsed w
  counted_either alive true after k h e = rw e (counted_more alive k h)
  counted_either alive false after k h e = rw e k

  pub some_counted : IsCounted states running done killed lapsed w → 1 ≤ length states
  some_counted k = k.some

  pub few_states : IsCounted states running done killed lapsed w → length states ≤ COMPONENTS
  few_states k = k.few

  pub running_at : (i : ℕ) (old : ComponentState) → IsCounted states running done killed lapsed w → 0 < i → i < length states → old ≡ get_or states i old → bit (is_running old.phase) ≤ running
  running_at i old k other h is = counted_at (λ s. is_running s.phase) states i old running other h is k.running_is

  pub done_at : (i : ℕ) (old : ComponentState) → IsCounted states running done killed lapsed w → 0 < i → i < length states → old ≡ get_or states i old → bit (is_done old.phase) ≤ done
  done_at i old k other h is = counted_at (λ s. is_done s.phase) states i old done other h is k.done_is

  pub killed_at : (i : ℕ) (old : ComponentState) → IsCounted states running done killed lapsed w → 0 < i → i < length states → old ≡ get_or states i old → bit (is_killed old.phase) ≤ killed
  killed_at i old k other h is = counted_at (λ s. is_killed s.phase) states i old killed other h is k.killed_is

  pub lapsed_at : (i : ℕ) (old : ComponentState) → IsCounted states running done killed lapsed w → 0 < i → i < length states → old ≡ get_or states i old → bit (is_lapsed old) ≤ lapsed
  lapsed_at i old k other h is = counted_at is_lapsed states i old lapsed other h is k.lapsed_is

  pub few_running : IsCounted states running done killed lapsed w → running ≤ COMPONENTS
  few_running k = few_counted (λ s. is_running s.phase) states running k.few k.running_is

  pub few_done : IsCounted states running done killed lapsed w → done ≤ COMPONENTS
  few_done k = few_counted (λ s. is_done s.phase) states done k.few k.done_is

  pub few_killed : IsCounted states running done killed lapsed w → killed ≤ COMPONENTS
  few_killed k = few_counted (λ s. is_killed s.phase) states killed k.few k.killed_is

  pub few_lapsed : IsCounted states running done killed lapsed w → lapsed ≤ COMPONENTS
  few_lapsed k = few_counted is_lapsed states lapsed k.few k.lapsed_is

  pub worst_counted : IsCounted states running done killed lapsed w → worst_local states ≡ w
  worst_counted k = sym k.worst_is

pub counted_main : IsCounted (main_state ∷ []) 0 0 0 0 Verdict.None
unfolding worst_local
counted_main = record { some = omega arith; few = omega arith; running_is = refl; done_is = refl; killed_is = refl; lapsed_is = refl; worst_is = refl }

pub ruleset counted_rules = (none_running_is, any_killed_is, all_killed_is, any_done_is, none_lapsed_is, some_counted, few_states, running_at, done_at, killed_at, lapsed_at, few_running, few_done, few_killed, few_lapsed, worst_counted)
