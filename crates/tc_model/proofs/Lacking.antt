-- The runs that lack a component, one after the other.
use Rattle.std.proofs.{Common.{ℕ, if◌then◌else◌, ◌≡◌, ◌≢◌, ◌==◌, ◌||◌, ◌<◌, ◌≤◌, ◌+◌, Bool, true, false, List, [], ◌∷◌, get_or, length, map, not, refl, ap, sym, ◌∙◌, append_assoc, arith, take}, lemmas.{Bool.Decides.nat_tests, List.{Folds.{list_any_at, list_any_more}, Sums.{take_while-cons}, take_all}}}
use Rattle.std.specs.List.{list_any, take_while}
use Rattle.tc_rules.specs.Prelude.{Comp, Entry, components, is_in}
use Rattle.tc_model.specs.{Naming.{can_name, lacking, starters, starts}, declared.given.Starter.Starter}

-- ---- whether a component is one of some

-- whether one of the components has this number
pub is_in_any : (c : ℕ) (cs : List Comp) → is_in c (map (λ d. d.0) cs) ≡ list_any (λ (d : Comp). c == d.0) cs
is_in_any c [] = refl
is_in_any c (d ∷ cs) = ap (λ t. (c == d.0) || t) (is_in_any c cs)

-- ---- who lacks a component

-- the runs before the first that can name component c
abbrev before_namer : List Entry → ℕ → List Starter → List Starter
before_namer now c runs = take_while (λ (x : Starter). not (can_name now x.run.0 c)) runs

-- there is none before a run that can name it
first_can : (now : List Entry) (c : ℕ) (s : Starter) (rest : List Starter) → can_name now s.run.0 c ≡ true → before_namer now c (s ∷ rest) ≡ []
first_can now c s rest can = take_while-cons (λ (x : Starter). not (can_name now x.run.0 c)) s rest ∙ rw can refl

-- the same of such a run and those that started it
none_lacks : (now past : List Entry) (b c : ℕ) → can_name now b c ≡ true → before_namer now c (starters past b) ≡ []
none_lacks now [] b c can = first_can now c (record { run = record { 0 = b }; there = 0 }) [] can
none_lacks now (e ∷ past) b c can = by_start (starts past e b) (none_lacks now past b c can)
  where
    by_start : (t : Bool) → before_namer now c (starters past b) ≡ [] →
        before_namer now c (if t then record { run = record { 0 = b }; there = components past } ∷ starters past e.caller.0 else starters past b) ≡ []
    by_start true before = first_can now c (record { run = record { 0 = b }; there = components past }) (starters past e.caller.0) can
    by_start false before = before

-- so none of them lacks it
pub lacking_none : (past : List Entry) (b c : ℕ) → can_name past b c ≡ true → lacking past b c ≡ []
lacking_none past b c can = none_lacks past past b c can

-- a run that cannot name it comes before those that started it
pub first_lacks : (past : List Entry) (c : ℕ) (s : Starter) (rest : List Starter) → can_name past s.run.0 c ≡ false →
    take_while (λ (x : Starter). not (can_name past x.run.0 c)) (s ∷ rest) ≡ s ∷ take_while (λ (x : Starter). not (can_name past x.run.0 c)) rest
first_lacks past c s rest cannot = take_while-cons (λ (x : Starter). not (can_name past x.run.0 c)) s rest ∙ rw cannot refl

pub ruleset lacking_rules = (append_assoc, first_lacks)
