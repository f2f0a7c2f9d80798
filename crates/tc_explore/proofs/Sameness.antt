-- What two courses of which the same is known represent.
use Rattle.std.proofs.Common.{ℕ, ◌≡◌, ◌≤◌, true, Option, Some, None, List, length, refl, ap, sym, subst, ◌∙◌, arith, ⊎_elim, inl, inr}
use Rattle.tc_rules.specs.Prelude.{Run, Verdict, level_of, Comp, Entry, Phase, is_active}
use Rattle.tc_step.specs.Prelude.{ScriptView}
use Rattle.tc_course.specs.Prelude.{stand}
use Rattle.tc_explore.{specs.Inside.{Seen.IsSame, Simulation.{IsFollowed, IsFor}, Twins.{comp_code, phase_code}}, proofs.{Ahead.{KeepsQuiet, ahead_after}, Alike.{active_alike, alike_sym}, Ordered.order_alike, Simulation.{followed_later, quiet_alike}}}

-- ---- levels

pub same_verdict : (a b : Verdict) → level_of a ≡ level_of b → a ≡ b
same_verdict Verdict.None Verdict.None h = refl
same_verdict Verdict.Pass Verdict.Pass h = refl
same_verdict Verdict.Inconc Verdict.Inconc h = refl
same_verdict Verdict.Fail Verdict.Fail h = refl
same_verdict Verdict.Error Verdict.Error h = refl
same_verdict _ _ h = absurd (omega arith)

pub at_most_error : (w : Verdict) → level_of w ≤ 4
at_most_error Verdict.None = omega arith
at_most_error _ = omega arith

-- what represents a history, and is the same as another, so does that
pub same_for : {aim : Verdict} (scripts : List ScriptView) (q r p : List Entry) → IsSame q r → IsFor aim scripts q p → IsFor aim scripts r p
same_for scripts q r p s f = record {
  ahead = ahead_after scripts p q r f.ahead s.alike keeps (let same = ap level_of s.overall_same in omega (arith, same));
  runs = λ b act.
      let was : is_active q b ≡ true = active_alike s.alike b ∙ act in
      subst (λ t. IsFollowed scripts r b (stand p b) t) (s.stands b was).0
      (followed_later scripts q r b (stand p b) (stand q b) keeps (f.runs b was));
  order = ⊎_elim inl (λ o. inr (order_alike scripts p q r (alike_sym q r s.alike) o)) f.order;
}
  where
    keeps : KeepsQuiet (length scripts) q r
    keeps = quiet_alike (length scripts) q r (sym s.overall_same) (alike_sym q r s.alike)

-- ---- numbers of phases and components

pub same_phase : (a b : Option Phase) → phase_code a ≡ phase_code b → a ≡ b
same_phase None None h = refl
same_phase (Some Phase.Inactive) (Some Phase.Inactive) h = refl
same_phase (Some Phase.Stopped) (Some Phase.Stopped) h = refl
same_phase (Some Phase.Killed) (Some Phase.Killed) h = refl
same_phase (Some (Phase.Running r)) (Some (Phase.Running s)) h = same_run r s (omega arith)
  where
    same_run : (x y : Run) → x.0 ≡ y.0 → Some (Phase.Running x) ≡ Some (Phase.Running y)
    same_run x y e = ap (λ (m : ℕ). Some (Phase.Running (record { 0 = m }))) e
same_phase None (Some Phase.Inactive) h = absurd (omega arith)
same_phase _ _ h = absurd (omega arith)

pub same_comp : (a b : Option Comp) → comp_code a ≡ comp_code b → a ≡ b
same_comp None None h = refl
same_comp (Some c) (Some d) h = let e : c.0 ≡ d.0 = omega arith in ap (λ (m : ℕ). Some (record { 0 = m })) e
same_comp _ _ h = absurd (omega arith)
