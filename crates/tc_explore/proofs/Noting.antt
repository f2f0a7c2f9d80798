-- Witnesses of which no verdict has two. Each is a legal history.
use Rattle.std.proofs.lemmas.Grind.{common_steps}
use Rattle.std.proofs.lemmas.Grind.{common_steps}
use Rattle.std.{proofs.{lemmas.{Bool.{Decides.nat_tests, cases_order}, List.{Sorted.{All-permutation, list_any-IsPermutation}}, Map.Keys.{IsDistinct-IsPermutation, IsDistinct-from_apart, apart_from_distinct}}, Common.{ℕ, ◌≡◌, ◌==◌, ◌<◌, ◌≤◌, Bool, true, false, List, [], ◌∷◌, ◌++◌, length, reverse, get_or, ap, sym, ◌∙◌, arith, ⊎_elim}}, specs.List.{IsDistinct, Sorted.{IsNonDecreasingBy, IsPermutation}}}
use Rattle.tc_rules.{specs.Prelude.{Verdict, level_of}, proofs.Lemmas.Deciding.{self_equal}}
use Rattle.tc_step.specs.Prelude.{ScriptView}
use Rattle.tc_course.{specs.{declared.witness.Witness.Witness, Prelude.{IsWitness, AllFound, is_found, AreLegal, AreWitnesses}}, proofs.Lemmas.course_legal}
use Rattle.tc_explore.{specs.{Found.{AreCovered, AreFromBest, Covers}, Inside.Seen.{AreNoted, IsOnce}}}

-- the verdict of one of them is found
found_at : (found : List Witness) (i : ℕ) (d : Witness) (v : Verdict) → i < length found → (get_or found i d).verdict ≡ v → is_found found v ≡ true
found_at found i d v near is = grind (arith, common_steps)

pub some_found : (found : List Witness) (v : Verdict) → is_found found v ≡ true → 1 ≤ length found
some_found [] v is = absurd cc
some_found (w ∷ ws) v is = omega arith

-- one more, whose verdict is new
once_more : (found : List Witness) (w : Witness) → IsOnce found → is_found found w.verdict ≡ false → IsOnce (found ++ w ∷ [])
once_more found w once new = grind (arith, common_steps)

pub noted_more : (scripts : List ScriptView) (found : List Witness) (w : Witness) → AreNoted scripts found → IsWitness scripts w.history w.verdict → is_found found w.verdict ≡ false → AreNoted scripts (found ++ w ∷ [])
noted_more scripts found w noted one new = grind (arith, common_steps)

pub once_none : IsOnce []
once_none i j d near_i near_j same = absurd (omega arith)

pub noted_none : (scripts : List ScriptView) → AreNoted scripts []
noted_none scripts = record { sound = λ k d near. absurd (omega arith); once = once_none }

-- ---- in another order

has_same : Witness → Witness → Bool
has_same x y = level_of x.verdict == level_of y.verdict

flip_equal : (m n : ℕ) → (m == n) ≡ (n == m)
flip_equal m n = grind (arith, nat_tests)

apart_if_once : (found : List Witness) → IsOnce found → (i j : ℕ) (d : Witness) → i < j → j < length found → has_same (get_or found i d) (get_or found j d) ≡ false
unfolding has_same
apart_if_once found once i j d less near = grind (arith, common_steps)

once_if_distinct : (found : List Witness) → IsDistinct has_same found → IsOnce found
unfolding has_same
once_if_distinct found distinct i j d near_i near_j same =
    ⊎_elim (λ is. is) (⊎_elim (λ less. never i j less near_j same) (λ more. never j i more near_i (sym same))) (cases_order i j)
  where
    never : (k l : ℕ) → k < l → l < length found → (get_or found k d).verdict ≡ (get_or found l d).verdict → i ≡ j
    never k l less near one =
        let off : (level_of (get_or found k d).verdict == level_of (get_or found l d).verdict) ≡ false = apart_from_distinct has_same found k l d distinct less near in
        let on : (level_of (get_or found k d).verdict == level_of (get_or found l d).verdict) ≡ true = ap (λ v. level_of v == level_of (get_or found l d).verdict) one ∙ self_equal (level_of (get_or found l d).verdict) in
        absurd cc

flip_same : (x y : Witness) → has_same x y ≡ has_same y x
unfolding has_same
flip_same x y = flip_equal (level_of x.verdict) (level_of y.verdict)

pub noted_moved : (scripts : List ScriptView) (before after : List Witness) → IsPermutation before after → AreNoted scripts before → AreNoted scripts after
noted_moved scripts before after moved noted = record {
  sound = All-permutation (λ w. IsWitness scripts w.history w.verdict) before after moved noted.sound;
  once = once_if_distinct after (IsDistinct-IsPermutation has_same flip_same before after moved (IsDistinct-from_apart has_same before (apart_if_once before noted.once)));
}

pub covered_moved : (reached : List ℕ) (before after : List Witness) → IsPermutation before after → AreCovered reached before → AreCovered reached after
covered_moved reached before after moved covered = All-permutation (λ w. Covers reached (reverse w.history)) before after moved covered

pub all_found_moved : (scripts : List ScriptView) (before after : List Witness) → IsPermutation before after → AllFound scripts before → AllFound scripts after
all_found_moved scripts before after moved all history v is = sym (list_any-IsPermutation (λ w. level_of w.verdict == level_of v) before after moved) ∙ all history v is

-- in their order, and each verdict once
pub from_best : (found : List Witness) → IsNonDecreasingBy (λ w. level_of w.verdict) found → IsOnce found → AreFromBest found
unfolding has_same
from_best found ordered once i j d less near = grind (arith, common_steps)

pub best_none : AreFromBest []
best_none i j d less near = absurd (omega arith)

pub ruleset noting_rules = (noted_more, once_none, noted_none)

-- so is each that was found
pub witnesses_legal : (scripts : List ScriptView) (found : List Witness) → AreWitnesses scripts found → AreLegal scripts found
witnesses_legal scripts found h = λ k d lt. course_legal scripts _ (h k d lt).course
