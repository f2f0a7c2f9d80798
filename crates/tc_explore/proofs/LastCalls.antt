-- The last calls of a case that is over: they are replied Ended, and after them no run has a call left.
use Rattle.std.proofs.{lemmas.Bool.or_right, Common.{ℕ, ◌≡◌, ◌<◌, ◌≤◌, ◌+◌, ◌==◌, inl, inr, Bool, true, false, Some, None, List, [], ◌∷◌, length, refl, ap, sym, subst, ◌∙◌, arith}}
use Rattle.tc_rules.{specs.Prelude.{Run, Comp, Entry, Op, Case, past_of, comp_of, is_comp, ends_case, ends_pass, is_over, IsLegal, local, local_if_any, overall, gives, answer, Reply, entry_made}, proofs.Lemmas.{Deciding.{equal_if, gives_nothing, if_same}, Over.all_over, Decided.overall_more}}
use Rattle.tc_step.specs.Prelude.{ScriptView}
use Rattle.tc_course.{specs.Prelude.{CourseState, stand, after_own, turn, turn_on, steps_of, is_idle, IsTurn, IsCourse, IsComplete, IsOn, CannotGo}, proofs.Lemmas.{course_legal, has_turn, stand_own, below_more}}
use Rattle.tc_explore.{specs.Inside.Seen.{IsStepped, HasSameLocals}, proofs.{Alike.{alike_unchanged, exists_same, local_next, none_unless}, Simulation.unchanged_ended, Places.stand_still}}

-- ---- local verdicts

-- no verdict is given
pub local_kept : (past : List Entry) (e : Entry) (c : ℕ) → gives e.op e.reply ≡ [] → local (e ∷ past) c ≡ local past c
local_kept past e c none = local_next past e c ∙ (rw none refl ∙ if_same (is_comp (comp_of past e.caller.0) c) (local past c))

-- a local verdict stays after a call that is replied Ended
pub locals_ended : (n : ℕ) (past : List Entry) (e : Entry) → IsLegal n (e ∷ past) → e.reply ≡ Reply.Ended → (c : ℕ) → local_if_any (e ∷ past) c ≡ local_if_any past c
unfolding local_if_any
locals_ended n past e legal r c = rw (exists_same (alike_unchanged n past e legal (unchanged_ended past e r)) c, local_kept past e c (ap (gives e.op) r ∙ gives_nothing e.op Reply.Ended refl refl)) refl

-- ---- one step

pub stepped_none : (scripts : List ScriptView) (t : Case) (b : ℕ) → CannotGo scripts (past_of t) b → IsStepped scripts (past_of t) (past_of t) b
stepped_none scripts t b cannot = inl (refl, cannot)

pub stepped_one : (scripts : List ScriptView) (t u : Case) (run : Run) (op : Op) → IsTurn scripts (past_of t) (entry_made t.behaviours (past_of t) run op) → past_of u ≡ entry_made t.behaviours (past_of t) run op ∷ past_of t →
    IsStepped scripts (past_of t) (past_of u) run.0
stepped_one scripts t u run op turn is = inr (entry_made t.behaviours (past_of t) run op, is, refl, turn)

pub ruleset step_rules = (stepped_none, stepped_one)

-- ---- after the end

turn_left : (scripts : List ScriptView) (past : List Entry) (b : ℕ) (me : Comp) → (stand past b).comp ≡ Some me → (stand past b).left ≡ true → turn scripts past b ≡ None
unfolding turn
turn_left scripts past b me on left = rw (on, left) refl

pub turn_by : (scripts : List ScriptView) (p q : List Entry) (b : ℕ) → stand p b ≡ stand q b → turn scripts p b ≡ turn scripts q b
unfolding turn
turn_by scripts p q b same = ap (λ (s : CourseState). turn_on s.comp (steps_of scripts b) s) same

own_done : (scripts : List ScriptView) (q : List Entry) (e : Entry) → IsTurn scripts q e → e.reply ≡ Reply.Ended → turn scripts (e ∷ q) e.caller.0 ≡ None
unfolding ends_pass
own_done scripts q e mine r =
    let t = has_turn scripts q e.caller.0 e.op mine.turn in
    let own = stand_own q e e.caller.0 refl in
    let left : (after_own e (stand q e.caller.0)).left ≡ true = rw (t.on, r) (or_right (stand q e.caller.0).left true refl) in
    turn_left scripts (e ∷ q) e.caller.0 t.me (ap (λ (s : CourseState). s.comp) own ∙ t.on) (ap (λ (s : CourseState). s.left) own ∙ left)

other_done : (scripts : List ScriptView) (q : List Entry) (e : Entry) (b : ℕ) → (e.caller.0 == b) ≡ false → e.reply ≡ Reply.Ended → turn scripts (e ∷ q) b ≡ turn scripts q b
other_done scripts q e b other r = turn_by scripts (e ∷ q) q b (stand_still q e b other (rw r refl))

no_turn : (scripts : List ScriptView) (past : List Entry) (b : ℕ) → ((op : Op) → answer (length scripts) past b op ≡ Reply.Ended) → CannotGo scripts past b → turn scripts past b ≡ None
no_turn scripts past b ended cannot = none_unless (turn scripts past b) (λ op k.
    let not_idle : is_idle op (answer (length scripts) past b op) ≡ false = rw (ended op) refl in
    cannot (record { caller = record { 0 = b }; op = op; reply = answer (length scripts) past b op }) refl (record { turn = k; reply = refl; not_idle = not_idle }))

-- the case is over still, with the verdict that it had, and neither run b nor who had no call left has one
pub record IsOverAfter (scripts : List ScriptView) (p q : List Entry) (b : ℕ) : Type 0 where
  pub over : is_over q ≡ true
  pub verdict : overall q ≡ overall p
  pub locals : HasSameLocals p q
  pub done : turn scripts q b ≡ None
  pub others : (k : ℕ) → turn scripts p k ≡ None → turn scripts q k ≡ None

over_entry : (scripts : List ScriptView) (p : List Entry) (e : Entry) (b : ℕ) → IsCourse scripts p → is_over p ≡ true → e.caller.0 ≡ b → IsTurn scripts p e → IsOverAfter scripts p (e ∷ p) b
over_entry scripts p e b course over own mine = record {
  over = rw (none, over) refl;
  verdict = overall_more (length scripts) p e (course_legal scripts (e ∷ p) (mine, course)) ∙ rw (r, gives_nothing e.op Reply.Ended refl refl) refl;
  locals = locals_ended (length scripts) p e (course_legal scripts (e ∷ p) (mine, course)) r;
  done = ap (turn scripts (e ∷ p)) (sym own) ∙ own_done scripts p e mine r;
  others = λ k had. by_caller k had (e.caller.0 == k) refl;
}
  where
    r : e.reply ≡ Reply.Ended
    r = mine.reply ∙ (all_over (length scripts) p (course_legal scripts p course) over).ended e.caller.0 e.op

    none : ends_case e ≡ false
    none = rw r refl

    by_caller : (k : ℕ) → turn scripts p k ≡ None → (t : Bool) → (e.caller.0 == k) ≡ t → turn scripts (e ∷ p) k ≡ None
    by_caller k had true j = ap (turn scripts (e ∷ p)) (sym (equal_if e.caller.0 k j)) ∙ own_done scripts p e mine r
    by_caller k had false j = other_done scripts p e k j r ∙ had

over_step : (scripts : List ScriptView) (p q : List Entry) (b : ℕ) → IsCourse scripts p → is_over p ≡ true → IsStepped scripts p q b → IsOverAfter scripts p q b
over_step scripts p q b course over (inl h) =
    let ended = (all_over (length scripts) p (course_legal scripts p course) over).ended in
    subst (λ r. IsOverAfter scripts p r b) (sym h.0) (record { over = over; verdict = refl; locals = λ c. refl; done = no_turn scripts p b (λ op. ended b op) h.1; others = λ k none. none })
over_step scripts p q b course over (inr s) = subst (λ x. IsOverAfter scripts p x b) (sym s.1) (over_entry scripts p s.0 b course over s.2 s.3)

-- that many runs have no call left after the end of a case
pub record AreOver (scripts : List ScriptView) (t u : Case) (n : ℕ) : Type 0 where
  pub over : is_over (past_of u) ≡ true
  pub verdict : overall (past_of u) ≡ overall (past_of t)
  pub locals : HasSameLocals (past_of t) (past_of u)
  pub done : (b : ℕ) → b < n → turn scripts (past_of u) b ≡ None

pub over_more : (scripts : List ScriptView) (t u v : Case) (n : ℕ) → IsOn scripts u → AreOver scripts t u n → IsStepped scripts (past_of u) (past_of v) n → AreOver scripts t v (n + 1)
over_more scripts t u v n on h step =
    let s = over_step scripts (past_of u) (past_of v) n on.course h.over step in
    record { over = s.over; verdict = s.verdict ∙ h.verdict; locals = λ c. s.locals c ∙ h.locals c; done = below_more (λ b. turn scripts (past_of v) b ≡ None) n (λ b near. s.others b (h.done b near)) s.done }

pub over_none : (scripts : List ScriptView) (t : Case) → is_over (past_of t) ≡ true → AreOver scripts t t 0
over_none scripts t over = record { over = over; verdict = refl; locals = λ c. refl; done = λ b less. absurd (omega arith) }

pub over_complete : (scripts : List ScriptView) (t u : Case) (n : ℕ) → length scripts ≤ n → AreOver scripts t u n → IsComplete scripts (past_of u)
over_complete scripts t u n whole h b near = h.done b (omega arith)

pub over_verdict : (scripts : List ScriptView) (t u : Case) (n : ℕ) → AreOver scripts t u n → overall (past_of u) ≡ overall (past_of t)
over_verdict scripts t u n h = h.verdict

pub over_locals : (scripts : List ScriptView) (t u : Case) (n : ℕ) → AreOver scripts t u n → HasSameLocals (past_of t) (past_of u)
over_locals scripts t u n h = h.locals

pub ruleset ending_rules = (over_more, over_none, over_complete, over_verdict, over_locals)
