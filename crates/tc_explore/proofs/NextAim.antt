-- Searches for verdicts, each up to a better one: what they have found together.
use Rattle.std.proofs.lemmas.Grind.{common_steps}
use Rattle.std.proofs.lemmas.Grind.{common_steps}
use Rattle.std.proofs.{lemmas.Bool.{and_parts, Decides.nat_tests, cases_lt}, Common.{ℕ, suc, ◌≡◌, ◌<◌, ◌≤◌, nat_le, if◌then◌else◌, Bool, true, false, Option, Some, None, List, refl, ap, sym, subst, ◌∙◌, arith, [], length, reverse, slice_get, ⊎_elim}}
use Rattle.tc_rules.specs.Prelude.{Verdict, level_of, Case, past_of, overall}
use Rattle.tc_step.specs.Prelude.{ScriptView}
use Rattle.tc_course.specs.{declared.witness.Witness.Witness, Prelude.{is_found, AllFound}}
use Rattle.tc_explore.{specs.{Inside.{Seen.{AllTold, AreFoundAbove, IsClosedFrom, IsLonger, IsSeen, IsToldBy, is_found_within, next_aim}, Simulation.IsCovered}, declared.search.Search.Search}, proofs.{Closing.{SeenIsClosed, complete_is_told}, Sameness.{at_most_error, same_for, same_verdict}, Seeing.found_longer}}

-- if a verdict as bad is found of one that is worse than this one, if there is one, it is found itself
abbrev IsDecided : List Witness → Verdict → Option Verdict → Type 0
IsDecided found aim (Some a) = (v : Verdict) → level_of a < level_of v → IsToldBy aim found v → is_found found v ≡ true
IsDecided found aim None = (v : Verdict) → IsToldBy aim found v → is_found found v ≡ true

-- no verdict from this level on is found within
abbrev IsNoneFrom : List Witness → Verdict → ℕ → Type 0
IsNoneFrom found aim n = (w : Verdict) → n ≤ level_of w → is_found_within found aim w ≡ false

within_if : (found : List Witness) (aim w : Verdict) → is_found found w ≡ true → level_of w ≤ level_of aim → is_found_within found aim w ≡ true
within_if found aim w h l = let near : nat_le (level_of w) (level_of aim) ≡ true = grind (arith, nat_tests) in rw (near, h) refl

-- a verdict of which one as bad is found is no worse than the worst of these
told_below : (found : List Witness) (aim v : Verdict) (n : ℕ) → IsNoneFrom found aim (suc n) → IsToldBy aim found v → level_of v ≤ n
told_below found aim v n none told = grind (arith, common_steps)

decided_if : (found : List Witness) (aim m a : Verdict) (rest : Option Verdict) → level_of m ≡ suc (level_of a) → IsNoneFrom found aim (suc (level_of m)) →
    (IsNoneFrom found aim (level_of m) → IsDecided found aim rest) → IsDecided found aim (if is_found_within found aim m then Some a else rest)
decided_if found aim m a rest next none later = by_test (is_found_within found aim m) refl
  where
    still : (w : Verdict) → level_of m ≤ level_of w → is_found_within found aim m ≡ false → is_found_within found aim w ≡ false
    still w l k = grind (arith, common_steps)

    by_test : (t : Bool) → is_found_within found aim m ≡ t → IsDecided found aim (if t then Some a else rest)
    by_test true k = λ v less told.
        let low = told_below found aim v (level_of m) none told in
        let same : level_of v ≡ level_of m = omega (arith, less, low, next) in
        ap (is_found found) (same_verdict v m same) ∙ (and_parts (nat_le (level_of m) (level_of aim)) (is_found found m) k).1
    by_test false k = later (λ w l. still w l k)

abbrev from_pass : List Witness → Verdict → Option Verdict
from_pass found aim = if is_found_within found aim Verdict.Pass then Some Verdict.None else None

abbrev from_inconc : List Witness → Verdict → Option Verdict
from_inconc found aim = if is_found_within found aim Verdict.Inconc then Some Verdict.Pass else from_pass found aim

abbrev from_fail : List Witness → Verdict → Option Verdict
from_fail found aim = if is_found_within found aim Verdict.Fail then Some Verdict.Inconc else from_inconc found aim

decided : (found : List Witness) (aim : Verdict) → IsDecided found aim (next_aim found aim)
decided found aim = grind (arith, common_steps)

abbrev verdict_of : Option Verdict → Verdict
verdict_of (Some v) = v
verdict_of None = Verdict.None

lower_if : (found : List Witness) (aim m b a : Verdict) (rest : Option Verdict) → level_of m ≡ suc (level_of b) → (Some a ≡ rest → level_of a < level_of aim)
    → Some a ≡ (if is_found_within found aim m then Some b else rest) → level_of a < level_of aim
lower_if found aim m b a rest next later is = grind (arith, common_steps)

-- the next aim is a better verdict
pub lower : (found : List Witness) (aim a : Verdict) → Some a ≡ next_aim found aim → level_of a < level_of aim
lower found aim a = grind (arith, common_steps)

-- one search more
pub above_next : (scripts : List ScriptView) (f g : List Witness) (aim a : Verdict) → IsLonger f g → AreFoundAbove aim scripts f → AllTold aim scripts g → Some a ≡ next_aim g aim → AreFoundAbove a scripts g
above_next scripts f g aim a more above told is v worse gives =
    let here : IsDecided g aim (Some a) = subst (IsDecided g aim) (sym is) (decided g aim) in
    ⊎_elim (λ high. found_longer f g v more (above v high gives)) (λ low. here v worse (told v low gives)) (cases_lt (level_of aim) (level_of v))

-- the last search
pub above_all : (scripts : List ScriptView) (f g : List Witness) (aim : Verdict) → IsLonger f g → AreFoundAbove aim scripts f → AllTold aim scripts g → None ≡ next_aim g aim → AllFound scripts g
above_all scripts f g aim more above told is history v one =
    let here : IsDecided g aim None = subst (IsDecided g aim) (sym is) (decided g aim) in
    ⊎_elim (λ high. found_longer f g v more (above v high (history, one))) (λ low. here v (told v low (history, one))) (cases_lt (level_of aim) (level_of v))

-- no verdict is worse than error
pub above_error : (scripts : List ScriptView) (found : List Witness) → AreFoundAbove Verdict.Error scripts found
above_error scripts found v worse gives = let most = at_most_error v in absurd (omega (arith, worse, most))

pub closed_is_complete : (s : Search) → s.met.is_whole ≡ true → 1 ≤ length s.met.scripts.now → IsCovered s.aim s.met.scripts.now (IsSeen s.met) [] →
    ((i : ℕ) (t : Case) → slice_get s.met.states.items i ≡ Some t → IsClosedFrom s (past_of t)) → AllTold s.aim s.met.scripts.now s.found.witnesses.items
closed_is_complete s whole some start closed v within gives =
    let is : v ≡ overall (reverse gives.0) = gives.1.verdict in
    subst (λ x. IsToldBy s.aim s.found.witnesses.items x) (sym is)
    (complete_is_told s.aim s.met.scripts.now (IsSeen s.met) s.found.witnesses.items some seen_closed start (reverse gives.0) gives.1.course gives.1.complete (let same = ap level_of is in omega (arith, same, within)))
  where
    seen_closed : SeenIsClosed s.aim s.met.scripts.now (IsSeen s.met) s.found.witnesses.items
    seen_closed r p seen course for =
        let there = seen whole in
        (past_of there.1, closed there.0 there.1 there.2, same_for s.met.scripts.now r (past_of there.1) p there.3 for)
