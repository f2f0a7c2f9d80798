-- What is marked of the local verdicts of complete courses.
use Rattle.std.proofs.lemmas.Grind.{common_steps}
use Rattle.std.proofs.Common.{ℕ, zero, suc, ◌≡◌, ◌==◌, ◌+◌, ◌*◌, ◌<◌, ◌≤◌, ◌++◌, nat_lt, if◌then◌else◌, Bool, true, false, Some, None, List, [], ◌∷◌, length, set, get_or, refl, ap, sym, ◌∙◌, arith}
use Rattle.std.proofs.lemmas.{Bool.Decides.nat_tests}
use Rattle.tc_rules.{specs.Prelude.{Verdict, level_of, Entry, Case, past_of, components, exists, local_if_any}, proofs.Lemmas.{Deciding.{equal_if, self_equal}, Numbered.exists_below}}
use Rattle.tc_step.specs.Prelude.{ScriptView}
use Rattle.tc_course.{specs.Prelude.{IsComplete, IsOn}, proofs.Lemmas.{below_more, course_legal}}
use Rattle.tc_explore.{specs.{Found.{AreLocals, GivesLocal}, Inside.{Seen.HasSameLocals, Twins.{HasLocal, HasLocals, IsMarked, IsMore, IsPadded}}}, proofs.Sameness.{at_most_error, same_verdict}}

-- ---- one place

-- a place more in which nothing is found
pub padded : (xs : List Bool) (i : ℕ) → get_or (xs ++ false ∷ []) i false ≡ get_or xs i false
padded [] zero = refl
padded [] (suc i) = refl
padded (x ∷ xs) zero = refl
padded (x ∷ xs) (suc i) = padded xs i

pub padded_none : (f : List Bool) → IsPadded f f
padded_none f i = refl

pub padded_more : (before after : List Bool) → IsPadded before after → IsPadded before (after ++ false ∷ [])
padded_more before after h i = padded after i ∙ h i

pub marked : (before after : List Bool) (at : ℕ) → at < length after → IsPadded before after → IsMarked before (set after at true) at
marked before after at near padded i = grind (arith, common_steps)

-- ---- one component

pub marked_more : (before after : List Bool) (at : ℕ) → IsMarked before after at → IsMore before after
marked_more before after at m i h = grind (arith, common_steps)

pub known_has : (found : List Bool) (past : List Entry) (c : ℕ) (v : Verdict) (at : ℕ) → at ≡ c * 5 + level_of v → local_if_any past c ≡ Some v → get_or found at false ≡ true → HasLocal found past c
known_has found past c v at place is known w other = grind (arith, common_steps)

pub marked_has : (before after : List Bool) (past : List Entry) (c : ℕ) (v : Verdict) (at : ℕ) → at ≡ c * 5 + level_of v → local_if_any past c ≡ Some v → IsMarked before after at → HasLocal after past c
marked_has before after past c v at place is m = known_has after past c v at place is (m at ∙ ap (λ t. if t then true else get_or before at false) (self_equal at))

pub none_has : (found : List Bool) (past : List Entry) (c : ℕ) → local_if_any past c ≡ None → HasLocal found past c
none_has found past c none w other = absurd cc

pub marked_sound : (scripts : List ScriptView) (before after : List Bool) (t : Case) (c : ℕ) (v : Verdict) (at : ℕ) → at ≡ c * 5 + level_of v → IsOn scripts t → IsComplete scripts (past_of t) → local_if_any (past_of t) c ≡ Some v →
    IsMarked before after at → AreLocals scripts before → AreLocals scripts after
marked_sound scripts before after t c v at place on complete is m sound d w h = by_place ((d * 5 + level_of w) == at) refl
  where
    by_place : (s : Bool) → ((d * 5 + level_of w) == at) ≡ s → GivesLocal scripts d w
    by_place false k = sound d w (sym (m (d * 5 + level_of w) ∙ ap (λ s. if s then true else get_or before (d * 5 + level_of w) false) k) ∙ h)
    by_place true k =
        let one : d * 5 + level_of w ≡ c * 5 + level_of v = equal_if (d * 5 + level_of w) at k ∙ place in
        let comps : c ≡ d = omega (arith, one, at_most_error v, at_most_error w) in
        let levels : level_of v ≡ level_of w = omega (arith, one, at_most_error v, at_most_error w) in
        let verdicts : v ≡ w = same_verdict v w levels in
        (past_of t, on.course, complete, ap (local_if_any (past_of t)) (sym comps) ∙ (is ∙ ap Some verdicts))

-- ---- all components

-- the components below n
abbrev pub HasLocalsTo : List Bool → List Entry → ℕ → Type 0
HasLocalsTo found past n = (c : ℕ) → c < n → HasLocal found past c

has_more : (before after : List Bool) (past : List Entry) (c : ℕ) → IsMore before after → HasLocal before past c → HasLocal after past c
has_more before after past c more has v h = more (c * 5 + level_of v) (has v h)

pub locals_none : (found : List Bool) (past : List Entry) → HasLocalsTo found past 0
locals_none found past c less = absurd (omega arith)

pub locals_more : (before after : List Bool) (past : List Entry) (n : ℕ) → IsMore before after → HasLocalsTo before past n → HasLocal after past n → HasLocalsTo after past (n + 1)
locals_more before after past n more has last = below_more (HasLocal after past) n (λ c less. has_more before after past c more (has c less)) last

pub locals_all : (scripts : List ScriptView) (found : List Bool) (t : Case) (n : ℕ) → IsOn scripts t → components (past_of t) ≤ n → HasLocalsTo found (past_of t) n → HasLocals found (past_of t)
unfolding local_if_any
locals_all scripts found t n on whole has c = by_place (nat_lt c (components (past_of t))) refl
  where
    by_place : (s : Bool) → nat_lt c (components (past_of t)) ≡ s → HasLocal found (past_of t) c
    by_place true h = has c (let near : c < components (past_of t) = grind (arith, nat_tests) in omega arith)
    by_place false h =
        let out : exists (past_of t) c ≡ false = exists_below (length scripts) (past_of t) c (course_legal scripts (past_of t) on.course) ∙ h in
        let none : local_if_any (past_of t) c ≡ None = rw out refl in
        none_has found (past_of t) c none

-- as at the end of a course that has the same local verdicts
pub has_same : (found : List Bool) (p q : List Entry) → HasSameLocals p q → HasLocals found q → HasLocals found p
has_same found p q same has c v h = has c v (same c ∙ h)

pub more_none : (f : List Bool) → IsMore f f
more_none f i h = h

pub more_next : (f g h : List Bool) → IsMore f g → IsMore g h → IsMore f h
more_next f g h one two i k = two i (one i k)

pub ruleset marking_rules = (padded_none, padded_more, marked, marked_more, marked_has, known_has, none_has, marked_sound, locals_none, locals_more, locals_all, has_same, more_none, more_next)

-- nothing is found yet
pub none_sound : (scripts : List ScriptView) (found : List Bool) → found ≡ [] → AreLocals scripts found
none_sound scripts found none c v h = grind (arith, common_steps)
