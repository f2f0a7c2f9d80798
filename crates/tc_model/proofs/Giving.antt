-- Components that runs are given, one after the other.
use Rattle.std.proofs.Common.{ℕ, ◌≡◌, ◌≢◌, ◌<◌, ◌+◌, ◌==◌, ◌||◌, ◌∙◌, if◌then◌else◌, Bool, true, false, List, [], ◌∷◌, ◌++◌, Some, fold, get_or, length, map, set, take, ap, arith, refl, sym}
use Rattle.std.proofs.lemmas.{Bool.Decides.nat_tests, List.{append-nil, get_or-map, get_or-set_other, length-map, map-append, map-set}, List.Elements.filter_more, List.Folds.list_any_more, List.Sums.fold_push, Grind.get_or-set_at}
use Rattle.std.specs.{Global.Vec, List.filter}
use Rattle.tc_rules.{specs.Prelude.{Comp, add_new, is_in}, proofs.Lemmas.Deciding.{equal_if, self_equal}}
use Rattle.tc_model.specs.{Inside.{AreAllGiven, AreGiven, given_in, is_run_in}, declared.given.{Lack.Lack, Starter.Starter}}

-- ---- numbers with one more

-- the last number is among them
in_end : (c : ℕ) (cs : List ℕ) → is_in c (cs ++ c ∷ []) ≡ true
in_end c [] = rw self_equal refl
in_end c (d ∷ cs) = by_test (c == d) (in_end c cs)
  where
    by_test : (t : Bool) → is_in c (cs ++ c ∷ []) ≡ true → (t || is_in c (cs ++ c ∷ [])) ≡ true
    by_test true h = refl
    by_test false h = h

-- a number that was added is not added again
add_twice : (c : Comp) (cs : List ℕ) → add_new (Some c) (add_new (Some c) cs) ≡ add_new (Some c) cs
add_twice c cs = by_test (is_in c.0 cs) refl
  where
    by_test : (t : Bool) → is_in c.0 cs ≡ t → add_new (Some c) (if t then cs else cs ++ c.0 ∷ []) ≡ (if t then cs else cs ++ c.0 ∷ [])
    by_test true k = rw k refl
    by_test false k = rw in_end refl

-- ---- one component

-- the numbers of one run
numbers_at : (all : List (Vec Comp)) (p : ℕ) (d : Vec Comp) → p < length all → given_in all p ≡ map (λ c. c.0) (get_or all p d).items
numbers_at all p d within = get_or-map (λ (v : Vec Comp). map (λ c. c.0) v.items) all p d [] within

-- one run is given what it lacks
given_one : (c : Comp) (s : Starter) (all : List (Vec Comp)) (own : Vec Comp) (p : ℕ) → p ≡ s.run.0 → p < length all →
    map (λ d. d.0) own.items ≡ add_new (Some c) (given_in all p) → AreGiven c (s ∷ []) all (set all p own)
given_one c s all own p at inside is = record { each = λ b within. rw map-set (by_test b (s.run.0 == b) refl) }
  where
    by_test : (b : ℕ) (t : Bool) → (s.run.0 == b) ≡ t →
        get_or (set (map (λ v. map (λ d. d.0) v.items) all) p (map (λ d. d.0) own.items)) b []
        ≡ (if t || false then add_new (Some c) (given_in all b) else given_in all b)
    by_test b true k =
        let same : b ≡ p = sym (at ∙ equal_if s.run.0 b k) in
        let many : p < length (map (λ (v : Vec Comp). map (λ (d : Comp). d.0) v.items) all) = simp length-map inside in
        get_or-set_at (map (λ (v : Vec Comp). map (λ d. d.0) v.items) all) p b (map (λ d. d.0) own.items) [] same many
        ∙ (is ∙ ap (λ r. add_new (Some c) (given_in all r)) (sym same))
    by_test b false k =
        let other : b ≢ p = grind (arith, nat_tests) in
        get_or-set_other (map (λ (v : Vec Comp). map (λ d. d.0) v.items) all) p b (map (λ d. d.0) own.items) [] other

-- a run that does not have it gets it
pub given_pushed : (c : Comp) (s : Starter) (all : List (Vec Comp)) (own d : Vec Comp) (p : ℕ) → p ≡ s.run.0 → p < length all →
    is_in c.0 (map (λ e. e.0) (get_or all p d).items) ≡ false → own.items ≡ (get_or all p d).items ++ c ∷ [] → AreGiven c (s ∷ []) all (set all p own)
given_pushed c s all own d p at inside lacks more =
    let here = numbers_at all p d inside in
    let lacking : is_in c.0 (given_in all p) ≡ false = rw here lacks in
    given_one c s all own p at inside (rw (lacking, more, map-append, ← here) refl)

-- a run that has it keeps what it has
pub given_kept : (c : Comp) (s : Starter) (all : List (Vec Comp)) (d : Vec Comp) (p : ℕ) → p ≡ s.run.0 → p < length all →
    is_in c.0 (map (λ e. e.0) (get_or all p d).items) ≡ true → AreGiven c (s ∷ []) all (set all p (get_or all p d))
given_kept c s all d p at inside has =
    let here = numbers_at all p d inside in
    let having : is_in c.0 (given_in all p) ≡ true = rw here has in
    given_one c s all (get_or all p d) p at inside (rw having (sym here))

-- what one more run is given, by whether it is among those before and is this one
more_by : (t u : Bool) (c : Comp) (old now new : List ℕ) → now ≡ (if t then add_new (Some c) old else old) →
    new ≡ (if u || false then add_new (Some c) now else now) → new ≡ (if t || u then add_new (Some c) old else old)
more_by true true c old now new was is = is ∙ (ap (add_new (Some c)) was ∙ add_twice c old)
more_by true false c old now new was is = is ∙ was
more_by false true c old now new was is = is ∙ ap (add_new (Some c)) was
more_by false false c old now new was is = is ∙ was

-- one more run is given the component
pub given_more : (c : Comp) (runs : List Starter) (i : ℕ) (s : Starter) (old now new : List (Vec Comp)) → AreGiven c (take i runs) old now →
    AreGiven c (get_or runs i s ∷ []) now new → i < length runs → length now ≡ length old → AreGiven c (take (i + 1) runs) old new
given_more c runs i s old now new was is inside many =
    record {
      each = λ b within.
          let within_now : b < length now = omega arith in
          rw (list_any_more (λ (r : Starter). r.run.0 == b) runs i s inside)
          (more_by (is_run_in (take i runs) b) ((get_or runs i s).run.0 == b) c (given_in old b) (given_in now b) (given_in new b)
          (was.each b within) (is.each b within_now));
    }

-- ---- components one after the other

-- what a run has after one more component, by whether it lacks that
next_by : (t : Bool) (ls : List Lack) (l : Lack) (old now new : List ℕ) → now ≡ fold (λ given k. add_new (Some k.comp) given) old ls →
    new ≡ (if t then add_new (Some l.comp) now else now) → new ≡ fold (λ given k. add_new (Some k.comp) given) old (ls ++ (if t then l ∷ [] else []))
next_by true ls l old now new was is = is ∙ ap (add_new (Some l.comp)) was ∙ sym (fold_push (λ given (k : Lack). add_new (Some k.comp) given) old ls l)
next_by false ls l old now new was is = rw append-nil (is ∙ was)

-- one more component is given
pub all_given_more : (all : List Lack) (i : ℕ) (l : Lack) (old now new : List (Vec Comp)) → AreAllGiven (take i all) old now →
    AreGiven l.comp l.runs.items now new → l ≡ get_or all i l → i < length all → length now ≡ length old → AreAllGiven (take (i + 1) all) old new
all_given_more all i l old now new was is at inside many =
    record {
      each = λ b within.
          let within_now : b < length now = omega arith in
          rw (filter_more (λ (k : Lack). is_run_in k.runs.items b) all i l inside, ← at)
          (next_by (is_run_in l.runs.items b) (filter (λ k. is_run_in k.runs.items b) (take i all)) l (given_in old b) (given_in now b) (given_in new b)
          (was.each b within) (is.each b within_now));
    }
