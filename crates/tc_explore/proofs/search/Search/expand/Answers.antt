use Rattle.std.proofs.Common.{rules, ℕ, List, ◌≡◌, ◌+◌, ◌<◌, ◌≤◌, ◌⊎◌, ◌∙◌, true, false, length, reverse, slice_index_or, inl, inr, ap, sym, subst, arith}
use Rattle.tc_rules.specs.Prelude.{Case, past_of, Verdict, level_of}
use Rattle.tc_course.{specs.Prelude.{carried_on, is_found}, proofs.Lemmas.below_more}
use Rattle.tc_explore.{specs.{Found.{AreReached, Covers}, Inside.{Seen.{AreHeld, AreStill, IsFurther, IsRunClosed, IsSearch, IsState, IsStillAt}, Simulation.GoesOn}, declared.search.Search.Search}, proofs.{Closed.{run_further, still_more}, Kept.{further_then, noted_further, on_ok}, Parking.{held_if, never_held, reached_main}, States.closed_state, search.Search.expand.Goals.{else-goes_on, then-goes_on, then-goes_on-2-via-else-goes_on-2+then-level, then-goes_on-2-via-then-goes_on-2}}}
use Rattle.tc_explore.proofs.search.Search.expand.Goals as goal

pub loop-run-preserved : goal.loop-run-preserved
loop-run-preserved c =
    let was = c.loop-run.invariant in
    let is = c.in_ok-is_on.ensures in
    let q = past_of c.args.course.now in
    let goes : c.if-goes_on.goes_on ≡ true → GoesOn c.args.self.now.met.scripts.now (past_of c.args.course.now) = elim c.if-goes_on.branch [
      | then-goes_on w ↦ search rules
      | else-goes_on w ↦ λ h. let now : c.in_ok-is_on.is_on ≡ true = search rules in subst (λ sc. GoesOn sc (past_of c.args.course.now)) was.further.met.scripts (is.goes_on now)
    ] in
    let still : c.if-goes_on.goes_on ≡ false → AreStill c.args.self.now.met.scripts.now (past_of c.args.course.now) (c.loop-run.run + 1) = elim c.if-goes_on.branch [
      | then-goes_on w ↦ λ h. absurd cc
      | else-goes_on w ↦ λ h.
          let before : c.loop-run.goes_on ≡ false = search rules in
          let now : c.in_ok-is_on.is_on ≡ false = search rules in
          still_more c.args.self.now.met.scripts.now q c.loop-run.run (was.still before) (subst (λ sc. IsStillAt sc (past_of c.args.course.now) c.loop-run.run) was.further.met.scripts (is.still now))
    ] in
    record {
      further = further_then c.args.self.now c.loop-run.self c.try_run.new.self was.further is.further;
      closed = below_more (IsRunClosed c.try_run.new.self q) c.loop-run.run (λ b near. run_further c.loop-run.self c.try_run.new.self q b is.further (was.closed b near)) is.closed;
      goes_on = goes;
      still = still;
    }

pub returns-then-goes_on-2-clause-closed : goal.returns-then-goes_on-2-clause-closed
returns-then-goes_on-2-clause-closed c =
    let s = c.loop-run.self in
    let was = c.loop-run.invariant in
    let f = was.further in
    let state : IsState c.loop-run.self.aim c.loop-run.self.met.scripts.now c.args.course.now = rw (f.aim, f.met.scripts) c.requires.state in
    let whole : length c.loop-run.self.met.scripts.now ≤ c.loop-run.run = rw f.met.scripts c.loop-run-test.false in
    let goes : GoesOn c.loop-run.self.met.scripts.now (past_of c.args.course.now) ⊎ (level_of c.loop-run.self.aim < level_of Verdict.Error) = elim c.then-goes_on-2.branch [
      | then-goes_on-2-via-then-goes_on-2 w ↦ let on : c.loop-run.goes_on ≡ true = search rules in inl (rw f.met.scripts (was.goes_on on))
      | then-goes_on-2-via-else-goes_on-2+then-level w ↦ inr (search rules)
    ] in
    closed_state s c.args.course.now state (λ b near. was.closed b (omega (arith, near, whole))) (inr goes)

pub returns-then-goes_on-2-clause-stuck : goal.returns-then-goes_on-2-clause-stuck
returns-then-goes_on-2-clause-stuck c is held =
    let was = c.loop-run.invariant in
    elim c.then-goes_on-2.branch [
      | then-goes_on-2-via-then-goes_on-2 w ↦
          let on : c.loop-run.goes_on ≡ true = search rules in
          absurd (never_held c.args.self.now.met.scripts.now (past_of c.args.course.now) c.requires.search.met.some c.requires.state.opened.on.course (was.goes_on on) held)
      | then-goes_on-2-via-else-goes_on-2+then-level w ↦
          let low : level_of c.loop-run.self.aim < level_of Verdict.Error = search rules in
          let error : c.loop-run.self.aim ≡ Verdict.Error = was.further.aim ∙ is in
          absurd (omega (arith, low, ap level_of error))
    ]

pub returns-then-is_found-clause-closed : goal.returns-then-is_found-clause-closed
returns-then-is_found-clause-closed c =
    let s = c.loop-run.self in
    let f = c.loop-run.invariant.further in
    let state : IsState c.loop-run.self.aim c.loop-run.self.met.scripts.now c.args.course.now = rw (f.aim, f.met.scripts) c.requires.state in
    let whole : length c.loop-run.self.met.scripts.now ≤ c.loop-run.run = rw f.met.scripts c.loop-run-test.false in
    let error : is_found c.loop-run.self.found.witnesses.items Verdict.Error ≡ true = search rules in
    closed_state s c.args.course.now state (λ b near. c.loop-run.invariant.closed b (omega (arith, near, whole))) (inl error)

-- no call of a run continues, nor in a copy of the course
all_held : (a s : Search) (t u : Case) (n : ℕ) → IsFurther a s → u.history ≡ t.history → IsState a.aim a.met.scripts.now t → length a.met.scripts.now ≤ n → AreStill a.met.scripts.now (past_of t) n → ((b : ℕ) → b < n → IsRunClosed s (past_of t) b) →
    is_found s.found.witnesses.items Verdict.Error ≡ false → AreHeld s.met.scripts.now (past_of u)
all_held a s t u n f same state whole still closed none =
    let past : past_of u ≡ past_of t = ap reverse same in
    subst (AreHeld s.met.scripts.now) (sym past) (held_if s (past_of t) (rw f.met.scripts state.opened.on.course)
    (rw f.met.scripts (λ b near. still b (omega (arith, near, whole)))) (λ b near. closed b (let l = ap length f.met.scripts in omega (arith, near, whole, l))) none)

pub note-requires-clause-over : goal.note-requires-clause-over
note-requires-clause-over c =
    let was = c.loop-run.invariant in
    let stays : c.loop-run.goes_on ≡ false = search rules in
    let none : is_found c.loop-run.self.found.witnesses.items Verdict.Error ≡ false = search rules in
    c.in_ok-stuck.ensures.over (all_held c.args.self.now c.loop-run.self c.args.course.now c.in_ok-copied.field-0 c.loop-run.run was.further c.in_ok-copied.ensures.entries c.requires.state c.loop-run-test.false (was.still stays) was.closed none)

pub returns-clause-further : goal.returns-clause-further
returns-clause-further c =
    let s = c.loop-run.self in
    let e = c.note.ensures in
    on_ok c.note.result (λ told. further_then c.args.self.now s _ c.loop-run.invariant.further (noted_further s c.note.new.found c.loop-run.invariant.further.search e.found e.more_found e.more)) e.told

pub returns-clause-closed : goal.returns-clause-closed
returns-clause-closed c =
    let s = c.loop-run.self in
    let was = c.loop-run.invariant in
    let f = was.further in
    let e = c.note.ensures in
    let now : Search = record { aim = c.loop-run.self.aim; met = c.loop-run.self.met; found = c.note.new.found } in
    let more = noted_further s c.note.new.found f.search e.found e.more_found e.more in
    let stays : c.loop-run.goes_on ≡ false = search rules in
    let none : is_found c.loop-run.self.found.witnesses.items Verdict.Error ≡ false = search rules in
    let held = all_held c.args.self.now s c.args.course.now c.in_ok-copied.field-0 c.loop-run.run f c.in_ok-copied.ensures.entries c.requires.state c.loop-run-test.false (was.still stays) was.closed none in
    let state : IsState c.loop-run.self.aim c.loop-run.self.met.scripts.now c.args.course.now = rw (f.aim, f.met.scripts) c.requires.state in
    let whole : length c.loop-run.self.met.scripts.now ≤ c.loop-run.run = rw f.met.scripts c.loop-run-test.false in
    on_ok c.note.result (λ told.
    let error : is_found c.note.new.found.witnesses.items Verdict.Error ≡ true = ap (is_found c.note.new.found.witnesses.items) (sym (c.in_ok-stuck.ensures.error held)) ∙ told in
    closed_state now c.args.course.now state (λ b near. run_further s now (past_of c.args.course.now) b more (was.closed b (omega (arith, near, whole)))) (inl error)) e.told

-- the main run carries out one call more
counted : (a s : Search) (reached : List ℕ) (t u v : Case) → IsFurther a s → IsSearch a → u.history ≡ t.history → AreReached s.met.scripts.now reached → Covers reached (past_of v) → (AreHeld s.met.scripts.now (past_of u) → carried_on (past_of v) 0 ≡ carried_on (past_of u) 0 + 1) →
    AreHeld a.met.scripts.now (past_of t) → carried_on (past_of t) 0 < slice_index_or reached 0 0
counted a s reached t u v f is same are covers main held =
    let past : past_of u ≡ past_of t = ap reverse same in
    reached_main s.met.scripts.now reached (past_of t) (past_of v) (rw f.met.scripts is.met.some) are.as_many (main (rw (f.met.scripts, past) held) ∙ ap (λ x. carried_on x 0 + 1) past) covers

pub returns-then-is_found-clause-stuck : goal.returns-then-is_found-clause-stuck
returns-then-is_found-clause-stuck c is =
    counted c.args.self.now c.loop-run.self c.reach.new.reached.items c.args.course.now c.in_ok-copied.field-0 c.in_ok-stuck.stuck c.loop-run.invariant.further c.requires.search c.in_ok-copied.ensures.entries c.reach.ensures.reached c.reach.ensures.covers c.in_ok-stuck.ensures.main

pub returns-clause-stuck : goal.returns-clause-stuck
returns-clause-stuck c =
    on_ok c.note.result (λ told is.
    counted c.args.self.now c.loop-run.self c.note.new.found.reached.items c.args.course.now c.in_ok-copied.field-0 c.in_ok-stuck.stuck c.loop-run.invariant.further c.requires.search c.in_ok-copied.ensures.entries c.note.ensures.found.1 c.note.ensures.covers c.in_ok-stuck.ensures.main) c.note.ensures.told
