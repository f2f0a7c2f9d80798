-- The runs that lack a component, and what runs are given once they are known.
use Rattle.std.proofs.Common.{ℕ, zero, suc, ◌≡◌, ◌<◌, ◌||◌, ◌∙◌, if◌then◌else◌, Bool, true, false, Option, Some, None, List, [], ◌∷◌, fold, get_or, length, map, nat_le, nat_lt, ap, arith, inl, inr, refl, sym}
use Rattle.std.proofs.lemmas.List.Elements.{All-cons, All-head, All-nil, All-tail, All-take, All-weaker}
use Rattle.std.specs.{Global.Vec, List.{All, filter, list_any}}
use Rattle.tc_entry.specs.declared.limits.TheConstants.{ARGUMENTS}
use Rattle.tc_rules.specs.Prelude.{Comp, Entry, Run, add_new, names}
use Rattle.tc_model.specs.{Inside.{AreAllGiven, AreLacks, AreStartedWith, AreStarts, AreWays, AreWithin, IsStart, IsTaken, given_in, is_given_many, is_run_in, some_lack}, Naming.{given_to, lacking, starters}, Reasons.some_lacking, declared.{given.{Lack.Lack, Start.Start, Starter.Starter, Ways.Ways}, reason.Reason.Reason}}

-- ---- runs that lack a component are runs of the case

-- the run and those that started it are runs of the case
starters_within : (n : ℕ) (past : List Entry) (all : List Start) → AreStarts n past all → (k b : ℕ) → length (starters past b) < k → b < n →
    All (λ s. s.run.0 < n) (starters past b)
starters_within n past all are zero b less within = absurd (omega arith)
starters_within n past all are (suc k) b less within =
    by_start (get_or all b none).by (get_or all b none).there (are.each b none within) (starters_within n past all are k)
  where
    none : Start
    none = record { by = None; there = 0 }

    by_start : (o : Option Run) (there : ℕ) → IsStart n past b (record { by = o; there = there }) →
        ((c : ℕ) → length (starters past c) < k → c < n → All (λ s. s.run.0 < n) (starters past c)) → All (λ s. s.run.0 < n) (starters past b)
    by_start None there is before = rw is (All-cons (λ (s : Starter). s.run.0 < n) _ [] within (All-nil _))
    by_start (Some c) there is before =
        let shorter : length (starters past c.0) < k = omega (arith, ap length is.2) in
        rw is.2 (All-cons (λ (s : Starter). s.run.0 < n) _ (starters past c.0) within (before c.0 shorter is.0))

-- each run that lacks a component is one of the case
pub lacks_within : (n : ℕ) (past : List Entry) (e : Entry) (all : List Start) (lacks : List Lack) → AreStarts n past all →
    AreLacks past e lacks → e.caller.0 < n → AreWithin n lacks
lacks_within n past e all lacks are is within =
    All-weaker (λ (l : Lack). l.runs.items ≡ lacking past e.caller.0 l.comp.0) (λ (l : Lack). All (λ s. s.run.0 < n) l.runs.items)
    (λ l same. rw same (All-take (λ (s : Starter). s.run.0 < n) _ (starters past e.caller.0)
    (starters_within n past all are (suc (length (starters past e.caller.0))) e.caller.0 (omega arith) within)))
    lacks is.runs

-- ---- the components that are lacked are those that the entry names

-- a test of those who lack a component
some_by : (test : ℕ → Starter → Bool) (past : List Entry) (b : ℕ) (all : List Lack) → All (λ l. l.runs.items ≡ lacking past b l.comp.0) all →
    some_lack test all ≡ list_any (λ c. list_any (test c.0) (lacking past b c.0)) (map (λ l. l.comp) all)
some_by test past b [] runs = refl
some_by test past b (l ∷ all) runs =
    rw (All-head (λ (k : Lack). k.runs.items ≡ lacking past b k.comp.0) l all runs)
    (ap (λ t. list_any (test l.comp.0) (lacking past b l.comp.0) || t)
    (some_by test past b all (All-tail (λ (k : Lack). k.runs.items ≡ lacking past b k.comp.0) l all runs)))

-- the same of those that an entry names
some_same : (test : ℕ → Starter → Bool) (past : List Entry) (e : Entry) (all : List Lack) → AreLacks past e all →
    some_lack test all ≡ some_lacking past e test
some_same test past e all is =
    some_by test past e.caller.0 all is.runs ∙ ap (list_any (λ c. list_any (test c.0) (lacking past e.caller.0 c.0))) is.comps

-- what a run is given of those that it lacks if run b names them
lacked_by : (past : List Entry) (b a : ℕ) (all : List Lack) (given : List ℕ) → All (λ l. l.runs.items ≡ lacking past b l.comp.0) all →
    fold (λ cs l. add_new (Some l.comp) cs) given (filter (λ l. is_run_in l.runs.items a) all)
    ≡ fold (λ cs c. add_new (Some c) cs) given (filter (λ c. is_run_in (lacking past b c.0) a) (map (λ l. l.comp) all))
lacked_by past b a [] given runs = refl
lacked_by past b a (l ∷ all) given runs =
    by_test (is_run_in l.runs.items a) (is_run_in (lacking past b l.comp.0) a)
    (ap (λ rs. is_run_in rs a) (All-head (λ (k : Lack). k.runs.items ≡ lacking past b k.comp.0) l all runs))
    (λ cs. lacked_by past b a all cs (All-tail (λ (k : Lack). k.runs.items ≡ lacking past b k.comp.0) l all runs))
  where
    left : List Lack
    left = filter (λ k. is_run_in k.runs.items a) all

    named : List Comp
    named = filter (λ c. is_run_in (lacking past b c.0) a) (map (λ k. k.comp) all)

    by_test : (t u : Bool) → t ≡ u → ((cs : List ℕ) → fold (λ cs k. add_new (Some k.comp) cs) cs left ≡ fold (λ cs c. add_new (Some c) cs) cs named) →
        fold (λ cs k. add_new (Some k.comp) cs) given (if t then l ∷ left else left) ≡ fold (λ cs c. add_new (Some c) cs) given (if u then l.comp ∷ named else named)
    by_test true true k rest = rest (add_new (Some l.comp) given)
    by_test false false k rest = rest given
    by_test true false k rest = absurd cc
    by_test false true k rest = absurd cc

-- the same of those that an entry names
lacked_same : (past : List Entry) (e : Entry) (a : ℕ) (all : List Lack) (given : List ℕ) → AreLacks past e all →
    fold (λ cs l. add_new (Some l.comp) cs) given (filter (λ l. is_run_in l.runs.items a) all)
    ≡ fold (λ cs c. add_new (Some c) cs) given (filter (λ c. is_run_in (lacking past e.caller.0 c.0) a) (names e.op))
lacked_same past e a all given is =
    lacked_by past e.caller.0 a all given is.runs ∙ ap (λ cs. fold (λ ds c. add_new (Some c) ds) given (filter (λ c. is_run_in (lacking past e.caller.0 c.0) a) cs)) is.comps

-- ---- one more entry

-- two tests that agree at each element pass alike
list_any_agree : {X : Type 0} (p q : X → Bool) (xs : List X) → All (λ x. p x ≡ q x) xs → list_any p xs ≡ list_any q xs
list_any_agree p q [] all = refl
list_any_agree p q (x ∷ xs) all = rw (All-head (λ y. p y ≡ q y) x xs all) (ap (λ t. q x || t) (list_any_agree p q xs (All-tail (λ y. p y ≡ q y) x xs all)))

-- each run is given what it must be given after one more entry
pub ways_after : (n : ℕ) (past : List Entry) (e : Entry) (lacks : List Lack) (old new : Ways) (before mid : List (Vec Comp)) → AreWays n past old →
    before ≡ old.given.items → length mid ≡ length before → AreLacks past e lacks → AreAllGiven lacks before mid →
    AreStarts n (e ∷ past) new.starts.items → AreStartedWith past e mid new.given.items → AreWays n (e ∷ past) new
ways_after n past e lacks old new before mid was begin same is all starting with =
    let many : length before ≡ n = rw begin was.as_many in
    record {
      starts = starting;
      as_many = with.as_many ∙ (same ∙ many);
      given = λ b within.
          let in_old : b < length before = omega arith in
          let in_mid : b < length mid = omega arith in
          let here : given_in before b ≡ given_to past b = rw begin (was.given b within) in
          with.each b in_mid ∙ rw (all.each b in_old, lacked_same past e b lacks (given_in before b) is, here) refl;
    }

-- whether a run that lacks a component is given too much
over_same : (n : ℕ) (past : List Entry) (e : Entry) (lacks : List Lack) (w : Ways) → AreWithin n lacks → AreLacks past e lacks → AreWays n (e ∷ past) w →
    some_lack (λ c s. is_given_many w.given.items s.run.0) lacks ≡ some_lacking past e (λ c s. nat_lt ARGUMENTS (length (given_to (e ∷ past) s.run.0)))
over_same n past e lacks w within is ways =
    list_any_agree _ _ lacks
    (All-weaker (λ (l : Lack). All (λ s. s.run.0 < n) l.runs.items)
    (λ (l : Lack). list_any (λ (s : Starter). is_given_many w.given.items s.run.0) l.runs.items
    ≡ list_any (λ (s : Starter). nat_lt ARGUMENTS (length (given_to (e ∷ past) s.run.0))) l.runs.items)
    (λ l runs. list_any_agree _ _ l.runs.items
    (All-weaker (λ (s : Starter). s.run.0 < n) (λ (s : Starter). is_given_many w.given.items s.run.0 ≡ nat_lt ARGUMENTS (length (given_to (e ∷ past) s.run.0)))
    (λ s less. ap (λ cs. nat_lt ARGUMENTS (length cs)) (ways.given s.run.0 less)) l.runs.items runs))
    lacks within)
    ∙ some_same (λ c s. nat_lt ARGUMENTS (length (given_to (e ∷ past) s.run.0))) past e lacks is

-- the names are a reason if a component is too new
pub refused_new : (n : ℕ) (past : List Entry) (e : Entry) (lacks : List Lack) (w : Ways) → AreLacks past e lacks →
    some_lack (λ c s. nat_le s.there c) lacks ≡ true → IsTaken n past e w (Some Reason.NotGiven)
refused_new n past e lacks w is new = inl (refl, sym (some_same (λ c s. nat_le s.there c) past e lacks is) ∙ new)

-- what is false is not true
not_so : (a b : Bool) → a ≡ b → a ≡ false → b ≡ true → ⊥
not_so a b same k h = absurd cc

-- or if a run is given too much
pub refused_much : (n : ℕ) (past : List Entry) (e : Entry) (lacks : List Lack) (w : Ways) → AreWithin n lacks → AreLacks past e lacks → AreWays n (e ∷ past) w →
    some_lack (λ c s. nat_le s.there c) lacks ≡ false → some_lack (λ c s. is_given_many w.given.items s.run.0) lacks ≡ true →
    IsTaken n past e w (Some Reason.ManyArguments)
refused_much n past e lacks w within is ways old over =
    inr (not_so _ _ (some_same (λ c s. nat_le s.there c) past e lacks is) old, inl (refl, sym (over_same n past e lacks w within is ways) ∙ over))

-- and otherwise they are none
pub taken_in : (n : ℕ) (past : List Entry) (e : Entry) (lacks : List Lack) (w : Ways) → AreWithin n lacks → AreLacks past e lacks → AreWays n (e ∷ past) w →
    some_lack (λ c s. nat_le s.there c) lacks ≡ false → some_lack (λ c s. is_given_many w.given.items s.run.0) lacks ≡ false →
    IsTaken n past e w None
taken_in n past e lacks w within is ways old few =
    (ways, not_so _ _ (some_same (λ c s. nat_le s.there c) past e lacks is) old, not_so _ _ (over_same n past e lacks w within is ways) few)
