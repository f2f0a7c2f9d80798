-- What a stop or kill does that nobody can see: of a component whose run can only set a verdict worse than is looked for.
use Rattle.std.proofs.lemmas.Grind.{common_steps}
use Rattle.std.proofs.{Common.{◌≡◌, ◌<◌, ◌==◌, inl, true, false, Some, None, List, ◌∷◌, length, refl, ap, sym, subst, ◌∙◌, arith, inr}}
use Rattle.tc_rules.{specs.Prelude.{Verdict, UserVerdict, given, level_of, Comp, Entry, is_ended, is_fault, comp_of, is_active, is_run_of, IsLegal, created, is_wake}, proofs.Lemmas.{Deciding.{self_equal}, Over.{on_existing, stays}, Sound.plain_if}}
use Rattle.tc_step.specs.Prelude.{ScriptView}
use Rattle.tc_course.{specs.{Prelude.{stand, IsCourse}, Inside.{ends, wake_if}}, proofs.Lemmas.{course_legal, stand_own, stand_comp}}
use Rattle.tc_explore.{specs.Inside.Simulation.{is_barred, is_late, IsQuietAt, IsFollowed, IsFor, IsFelling}, proofs.{Ahead.{KeepsQuiet, active_if}, Late.{HaltsOne, IsGone, halt_not_ending, late_if, late_special, halted, ahead_halted}, Leaving.barred_leaves, Ordered.was_active, Places.{ahead, barred_sets, keeps_quiet, spent_by, still_no_fault_by, next_of}, Simulation.{followed_later, some_if, lead_by}}}

-- a quiet call of q, after which its run is where p has it or ahead
pub followed_call : (scripts : List ScriptView) (p q : List Entry) (e : Entry) → IsCourse scripts (e ∷ q) → IsFollowed scripts q e.caller.0 (stand p e.caller.0) (stand q e.caller.0) → IsQuietAt (length scripts) (e ∷ q) e.caller.0 e.op →
    created e.op e.reply ≡ None → ends (stand q e.caller.0).comp e ≡ false → is_wake e.op ≡ false → wake_if e.op e.reply ≡ None → IsFollowed scripts (e ∷ q) e.caller.0 (stand p e.caller.0) (stand (e ∷ q) e.caller.0)
followed_call scripts p q e cq fol now made stays_on plain no_wake =
    subst (λ s. IsFollowed scripts (e ∷ q) e.caller.0 (stand p e.caller.0) s) (sym (stand_own q e e.caller.0 refl))
    (ahead scripts q e.caller.0 (stand p e.caller.0) (stand q e.caller.0) e
    (followed_later scripts q (e ∷ q) e.caller.0 (stand p e.caller.0) (stand q e.caller.0) (keeps_quiet (length scripts) q e (course_legal scripts (e ∷ q) cq)) fol)
    (subst (λ op. IsQuietAt (length scripts) (e ∷ q) e.caller.0 op) (sym (next_of scripts q e.caller.0 e.op fol.no_wake cq.0.turn)) now)
    made stays_on plain no_wake)

-- a user sets no error
below_error : (v : UserVerdict) → level_of (given v) < 4
below_error UserVerdict.None = omega arith
below_error _ = omega arith

pub felling_halts : {aim : Verdict} (scripts : List ScriptView) (q : List Entry) (e : Entry) → IsCourse scripts (e ∷ q) → is_fault e.reply ≡ false → is_ended e.reply ≡ false → (h : IsFelling aim scripts q e.caller.0 e.op) → HaltsOne q e h.comp.0
felling_halts scripts q e cq plain goes h = grind (arith, common_steps)

module _ {aim : Verdict} (scripts : List ScriptView) (p q : List Entry) (e : Entry) (cq : IsCourse scripts (e ∷ q)) (plain : is_fault e.reply ≡ false) (goes : is_ended e.reply ≡ false)
    (h : IsFelling aim scripts q e.caller.0 e.op) (f : IsFor aim scripts q p) where
  lq : IsLegal (length scripts) (e ∷ q)
  lq = course_legal scripts (e ∷ q) cq

  keeps : KeepsQuiet (length scripts) q (e ∷ q)
  keeps = keeps_quiet (length scripts) q e lq

  one : HaltsOne q e h.comp.0
  one = felling_halts scripts q e cq plain goes h

  on : comp_of q h.felled.run.0 ≡ Some h.comp
  on = sym (stand_comp scripts q h.felled.run.0 cq.1) ∙ h.felled.on

  fol : IsFollowed scripts q h.felled.run.0 (stand p h.felled.run.0) (stand q h.felled.run.0)
  fol = f.runs h.felled.run.0 (active_if q h.felled.run.0 h.comp on (ap (is_run_of h.felled.run.0) h.felled.running ∙ self_equal h.felled.run.0))

  gone : IsGone (e ∷ q) h.comp.0
  gone = record {
    there = stays q e h.comp.0 (on_existing (length scripts) q h.felled.run.0 h.comp lq.1 on);
    dead = halted scripts p q e h.comp.0 h.felled.run lq keeps f.ahead one h.felled.running on h.felled.not_main_run h.felled.ordinary;
  }

  better : level_of aim < level_of Verdict.Error
  better = let s = barred_sets aim h.felled.barred.op h.felled.barred.bars in let worse = s.worse in let below = below_error s.verdict in omega (arith, worse, below)

  -- its caller is on another component
  caller_other : (me : Comp) → comp_of q e.caller.0 ≡ Some me → is_active q e.caller.0 ≡ true → (h.comp.0 == me.0) ≡ false
  unfolding is_active
  caller_other me at act = grind (arith, common_steps)

  own : IsFollowed scripts (e ∷ q) e.caller.0 (stand p e.caller.0) (stand (e ∷ q) e.caller.0)
  own =
      let is = plain_if (length scripts) q e.caller.0 e.op e.reply goes plain cq.0.reply in
      let me = some_if q e.caller.0 is.active in
      let late : is_late (e ∷ q) e.op ≡ true = late_if (e ∷ q) e.op h.comp (record { halts_it = h.halts_it; other = h.felled.not_main; gone = gone }) in
      let now : IsQuietAt (length scripts) (e ∷ q) e.caller.0 e.op = record {
        quiet = spent_by (e ∷ q) e.op (inr (inl late));
        no_fault = still_no_fault_by (length scripts) q e e.caller.0 e.op (late_special (length scripts) (e ∷ q) (e ∷ q) e.op late) is.no_fault;
      } in
      followed_call scripts p q e cq (f.runs e.caller.0 is.active) now one.made
      (halt_not_ending one (stand q e.caller.0).comp me.0 (stand_comp scripts q e.caller.0 cq.1 ∙ me.1) me.1 (caller_other me.0 me.1 is.active)) one.plain one.no_wake

  pub lead_felling : IsFor aim scripts (e ∷ q) p
  lead_felling =
      lead_by scripts p q e cq f
      (ahead_halted scripts p q e h.comp.0 h.felled.run lq keeps f.ahead one h.felled.running on h.felled.not_main_run h.felled.ordinary
      (barred_leaves scripts q h.felled.run.0 (stand p h.felled.run.0) (stand q h.felled.run.0) fol (ap (is_barred aim) (next_of scripts q h.felled.run.0 h.felled.barred.op fol.no_wake h.felled.barred.turns) ∙ h.felled.barred.bars)))
      (inl better) (was_active (length scripts) q e lq one.no_run) (λ act. own)
