-- What one more quiet call of a search represents.
use Rattle.std.proofs.{lemmas.{Bool.{and_parts, or_parts, not-true, or_cases}, List.length-reverse}, Common.{ℕ, ◌≡◌, ◌==◌, ◌&&◌, not, nat_lt, Option, inl, inr, true, false, None, Some, List, [], ◌∷◌, ◌++◌, length, refl, ap, sym, subst, ◌∙◌, append_assoc, length-append, arith, ◌≤◌, ⊎_elim}}
use Rattle.tc_rules.{specs.Prelude.{Run, Comp, Entry, Op, Phase, phase, phase_if_any, created, is_ended, is_fault, is_wake, Case, past_of, comp_of, is_alive_type, is_comp, exists, overall, answer, Verdict, Group, Reply, entry_made, IsLegal}, proofs.Lemmas.{Deciding.{equal_if, test_by}, Sound.{plain_if, IsPlain}}}
use Rattle.tc_step.specs.Prelude.{ScriptView}
use Rattle.tc_course.{specs.{Inside.{ends, wake_if}, Prelude.{stand, IsTurn, IsCourse, turn, IsOn}}, proofs.Lemmas.{course_legal, stand_comp}}
use Rattle.tc_explore.{specs.Inside.{Seen.StandsOn, Simulation.{IsAlike, IsBarredNow, IsEnd, IsFelled, IsFelling, IsFor, IsQuietAt, IsSilent, bars_next, is_end, is_felled, is_felling, is_quiet, is_silent, is_spent}}, proofs.{Alike.{alike_unchanged, fault_alike}, Felling.{lead_felling, followed_call}, Late.{alike_late, halt_not_ending, late_for, late_halts, late_reply, met_for, met_reply, other_than_gone}, Leaving.{Ends, lead_end, running_on}, Places.{Spent, how_spent, keeps_quiet, not_ending, quiet_no_wake, quiet_sets_no_wake, spent_by, next_of}, Simulation.{lead, quiet_made, some_if, unchanged_quiet, unchanged_wait}}}

module _ {aim : Verdict} (scripts : List ScriptView) (p q : List Entry) (e : Entry) (cq : IsCourse scripts (e ∷ q)) (plain : is_fault e.reply ≡ false) (goes : is_ended e.reply ≡ false) (f : IsFor aim scripts q p) where
  legal : IsLegal (length scripts) (e ∷ q)
  legal = course_legal scripts (e ∷ q) cq

  is : IsPlain (length scripts) q e.caller.0 e.op e.reply
  is = plain_if (length scripts) q e.caller.0 e.op e.reply goes plain cq.0.reply

  me : (c : Comp) × (comp_of q e.caller.0 ≡ Some c)
  me = some_if q e.caller.0 is.active

  on : (stand q e.caller.0).comp ≡ Some me.0
  on = stand_comp scripts q e.caller.0 cq.1 ∙ me.1

  -- a call that is quiet once it is made, and does not end its run
  lead_own : IsAlike (e ∷ q) q → IsQuietAt (length scripts) (e ∷ q) e.caller.0 e.op → created e.op e.reply ≡ None → ends (stand q e.caller.0).comp e ≡ false → is_wake e.op ≡ false → wake_if e.op e.reply ≡ None → IsFor aim scripts (e ∷ q) p
  lead_own after now made stays_on no_wake sets_none = lead scripts p q e cq f after (followed_call scripts p q e cq (f.runs e.caller.0 is.active) now made stays_on no_wake sets_none)

  -- it asks a question or sets a verdict that is no worse than this one
  lead_quiet : (w : Verdict) → is_quiet w e.op ≡ true → IsFor aim scripts (e ∷ q) p
  lead_quiet w quiet =
      let u = unchanged_quiet w q e quiet plain in
      let after : IsAlike (e ∷ q) q = alike_unchanged (length scripts) q e legal u in
      let now : IsQuietAt (length scripts) (e ∷ q) e.caller.0 e.op = record {
        quiet = spent_by (e ∷ q) e.op (inl (quiet_made w (length scripts) q e.caller.0 e legal quiet is.is));
        no_fault = fault_alike after (length scripts) e.caller.0 e.op ∙ is.no_fault;
      } in
      lead_own after now u.made (not_ending q e (stand q e.caller.0).comp me.0 u on me.1 goes) (quiet_no_wake w e.op quiet) (quiet_sets_no_wake w e.op e.reply quiet)

  -- it changes nothing: it is quiet, or stops or kills what is killed already, or waits for that
  lead_spent : is_spent q e.op ≡ true → IsFor aim scripts (e ∷ q) p
  lead_spent spent = by_kind (how_spent q e.op spent)
    where
      now : IsQuietAt (length scripts) (e ∷ q) e.caller.0 e.op
      now = keeps_quiet (length scripts) q e legal e.caller.0 e.op (record { quiet = spent; no_fault = is.no_fault })

      by_kind : Spent q e.op → IsFor aim scripts (e ∷ q) p
      by_kind (inl quiet) = lead_quiet (overall q) quiet
      by_kind (inr (inl late)) =
          let l = late_for q e.op late in
          let h = late_halts q q e late (is.is ∙ late_reply q q e.caller.0 e.op late) in
          lead_own (alike_late (length scripts) legal h l.1.gone) now h.made
          (halt_not_ending h (stand q e.caller.0).comp me.0 on me.1 (other_than_gone q e.caller.0 l.0.0 me.0 is.active me.1 l.1.gone.dead)) h.plain h.no_wake
      by_kind (inr (inr met)) =
          let m = met_for q e.op met in
          let matched : e.reply ≡ Reply.Matched = is.is ∙ met_reply q e.caller.0 e.op met in
          let u = unchanged_wait q e m.wake m.wake_of plain in
          lead_own (alike_unchanged (length scripts) q e legal u) now u.made (not_ending q e (stand q e.caller.0).comp me.0 u on me.1 goes) (rw m.waits refl) (rw matched refl)

  -- it ends its run, on a component that nothing can start again
  lead_finish : IsEnd q e.caller.0 e.op → IsFor aim scripts (e ∷ q) p
  lead_finish h =
      let here : comp_of q e.caller.0 ≡ Some h.comp = sym (stand_comp scripts q e.caller.0 cq.1) ∙ h.on in
      let ends : Ends q e h.comp = record {
        op = h.finish;
        reply = is.is ∙ rw h.finish refl;
        not_main = h.not_main;
        on = here;
        runs = running_on q e h.comp is.active here;
        ordinary = h.ordinary;
      } in
      lead_end scripts p q e h.comp cq f ends is.active (next_of scripts q e.caller.0 e.op (f.runs e.caller.0 is.active).no_wake cq.0.turn ∙ h.finish)

pub lead_call : {aim : Verdict} (scripts : List ScriptView) (t u : Case) (run : Run) (op : Op) → IsOn scripts t → IsTurn scripts (past_of t) (entry_made t.behaviours (past_of t) run op) →
    is_fault (answer t.behaviours (past_of t) run.0 op) ≡ false → is_ended (answer t.behaviours (past_of t) run.0 op) ≡ false → IsSilent aim scripts (past_of t) run.0 op →
    past_of u ≡ entry_made t.behaviours (past_of t) run op ∷ past_of t → StandsOn aim scripts t u
lead_call {aim} scripts t u run op on turn plain goes h is =
    record {
      further = (entry_made t.behaviours (past_of t) run op ∷ [], is);
      stands = λ p cp f. subst (λ x. IsFor aim scripts x p) (sym is) (by_call p cp f h);
    }
  where
    by_call : (p : List Entry) → IsCourse scripts p → IsFor aim scripts (past_of t) p → IsSilent aim scripts (past_of t) run.0 op → IsFor aim scripts (entry_made t.behaviours (past_of t) run op ∷ past_of t) p
    by_call p cp f (inl spent) = lead_spent scripts p (past_of t) (entry_made t.behaviours (past_of t) run op) (turn, on.course) plain goes f spent
    by_call p cp f (inr (inr (inr felling))) = lead_felling scripts p (past_of t) (entry_made t.behaviours (past_of t) run op) (turn, on.course) plain goes felling f
    by_call p cp f (inr (inr (inl quiet))) = lead_quiet scripts p (past_of t) (entry_made t.behaviours (past_of t) run op) (turn, on.course) plain goes f aim quiet
    by_call p cp f (inr (inl end)) = lead_finish scripts p (past_of t) (entry_made t.behaviours (past_of t) run op) (turn, on.course) plain goes f end

-- ---- what the search finds of a call

end_if : (q : List Entry) (b : ℕ) (on : Option Comp) (op : Op) → (stand q b).comp ≡ on → is_end q b on op ≡ true → IsEnd q b op
end_if q b (Some c) Op.Finish on h =
    let both = and_parts (not (b == 0)) (not (is_alive_type q c.0)) h in
    record { finish = refl; not_main = not-true (b == 0) both.0; comp = c; on = on; ordinary = not-true (is_alive_type q c.0) both.1 }
end_if q b (Some c) op on h = absurd cc
end_if q b None op on h = absurd cc

barred_if : (aim : Verdict) (scripts : List ScriptView) (q : List Entry) (b : ℕ) (o : Option Op) → turn scripts q b ≡ o → bars_next aim o ≡ true → IsBarredNow aim scripts q b
barred_if aim scripts q b (Some op) turns h = record { op = op; turns = turns; bars = h }
barred_if aim scripts q b None turns h = absurd cc

on_if : (o : Option Comp) (c : Comp) → is_comp o c.0 ≡ true → o ≡ Some c
on_if (Some d) c h = ap (λ (m : ℕ). Some (record { 0 = m })) (equal_if d.0 c.0 h)
on_if None c h = absurd cc

felled_if : (aim : Verdict) (scripts : List ScriptView) (q : List Entry) (b : ℕ) (comp : Comp) (at : Option Phase) → phase_if_any q comp.0 ≡ at → is_felled aim scripts q b comp at ≡ true → IsFelled aim scripts q b comp
unfolding phase_if_any
felled_if aim scripts q b comp (Some (Phase.Running run)) there h =
    let both = and_parts (nat_lt run.0 (length scripts) && (not (comp.0 == 0) && (not (run.0 == 0) && not (b == run.0)))) _ h in
    let front = and_parts (nat_lt run.0 (length scripts)) _ both.0 in
    let comps = and_parts (not (comp.0 == 0)) _ front.1 in
    let runs = and_parts (not (run.0 == 0)) (not (b == run.0)) comps.1 in
    let back = and_parts (is_comp (stand q run.0).comp comp.0) _ both.1 in
    let last = and_parts (not (is_alive_type q comp.0)) (bars_next aim (turn scripts q run.0)) back.1 in
    record {
      not_main = not-true (comp.0 == 0) comps.0;
      run = run;
      running = (test_by (exists q comp.0) (phase q comp.0) (Phase.Running run) there).1;
      on = on_if (stand q run.0).comp comp back.0;
      other = not-true (b == run.0) runs.1;
      not_main_run = not-true (run.0 == 0) runs.0;
      ordinary = not-true (is_alive_type q comp.0) last.0;
      barred = barred_if aim scripts q run.0 (turn scripts q run.0) refl last.1;
    }
felled_if aim scripts q b comp at there h = absurd cc

felling_if : (aim : Verdict) (scripts : List ScriptView) (q : List Entry) (b : ℕ) (op : Op) → is_felling aim scripts q b op ≡ true → IsFelling aim scripts q b op
felling_if aim scripts q b (Op.Stop (Group.One comp)) h = record { comp = comp; halts_it = inl refl; felled = felled_if aim scripts q b comp (phase_if_any q comp.0) refl h }
felling_if aim scripts q b (Op.Kill (Group.One comp)) h = record { comp = comp; halts_it = inr refl; felled = felled_if aim scripts q b comp (phase_if_any q comp.0) refl h }
felling_if aim scripts q b op h = absurd cc

pub silent_if : (aim : Verdict) (scripts : List ScriptView) (q : List Entry) (b : ℕ) (op : Op) → is_silent aim scripts q b op ≡ true → IsSilent aim scripts q b op
silent_if aim scripts q b op h =
    ⊎_elim inl (λ rest. inr (⊎_elim (λ end. inl (end_if q b (stand q b).comp op refl end)) (λ last. inr (⊎_elim inl (λ felling. inr (felling_if aim scripts q b op felling))
    (or_cases (is_quiet aim op) _ last))) (or_cases (is_end q b (stand q b).comp op) _ rest))) (or_cases (is_spent q op) _ h)

-- what can be seen changes something
pub loud_spent : (aim : Verdict) (scripts : List ScriptView) (q : List Entry) (b : ℕ) (op : Op) → is_silent aim scripts q b op ≡ false → is_spent q op ≡ false
loud_spent aim scripts q b op h = (or_parts (is_spent q op) _ h).0

pub ruleset silent_rules = (silent_if, loud_spent)

-- a quiet call and then more
pub stands_then : {aim : Verdict} (scripts : List ScriptView) (t u v : Case) → StandsOn aim scripts t u → StandsOn aim scripts u v → StandsOn aim scripts t v
stands_then scripts t u v a b = record {
  further = (
    b.further.0 ++ a.further.0,
    b.further.1 ∙ (ap (λ x. b.further.0 ++ x) a.further.1 ∙ sym (append_assoc b.further.0 a.further.0 (past_of t))),
  );
  stands = λ p cp f. b.stands p cp (a.stands p cp f);
}

pub stands_self : {aim : Verdict} (scripts : List ScriptView) (t : Case) → StandsOn aim scripts t t
stands_self scripts t = record { further = ([], refl); stands = λ p cp f. f }

none_more : (more p q : List Entry) → q ≡ more ++ p → length q ≤ length p → q ≡ p
none_more [] p q is short = is
none_more (e ∷ more) p q is short = absurd (omega (arith, ap length is, length-append (e ∷ more) p, short))

-- a course that is no longer is the same
pub same_length : {aim : Verdict} (scripts : List ScriptView) (t u : Case) → StandsOn aim scripts t u → length u.history ≡ length t.history → past_of u ≡ past_of t
same_length scripts t u a size = none_more a.further.0 (past_of t) (past_of u) a.further.1 (omega (arith, size, length-reverse t.history, length-reverse u.history))

-- one between two that are the same is the same
pub same_between : {aim : Verdict} (scripts : List ScriptView) (t u v : Case) → StandsOn aim scripts t u → StandsOn aim scripts u v → past_of v ≡ past_of t → past_of u ≡ past_of t
same_between scripts t u v a b same =
    none_more a.further.0 (past_of t) (past_of u) a.further.1 (omega (arith, ap length same, ap length b.further.1, length-append b.further.0 (past_of u)))

pub ruleset searching_rules = (stands_then, stands_self)
