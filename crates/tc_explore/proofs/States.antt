-- When a state is closed, and when all are.
use Rattle.std.proofs.{Common.{ℕ, ◌≡◌, ◌+◌, ◌<◌, ◌≤◌, ◌⊎◌, inl, inr, true, Some, List, [], length, reverse, slice_get, get_or, refl, ap, sym, subst, ◌∙◌, arith, ⊎_elim}, lemmas.Option.{slice_get_within, slice_get-get_or}}
use Rattle.tc_rules.specs.Prelude.{Entry, Case, past_of, Verdict, level_of}
use Rattle.tc_course.{specs.Prelude.is_found, proofs.Lemmas.below_more}
use Rattle.tc_explore.{specs.{Inside.{Seen.{AllTold, AreClosed, IsClosedFrom, IsFurther, IsRunClosed, IsSeen, IsState}, Simulation.{GoesOn, IsCovered}}, declared.search.Search.Search}, proofs.{Keeping.{active_stays, main_goes}, NextAim.closed_is_complete, Seeing.{at_longer, closed_for_further, covered_further, found_longer}}}

pub closed_state : (s : Search) (t : Case) → IsState s.aim s.met.scripts.now t → ((b : ℕ) → b < length s.met.scripts.now → IsRunClosed s (past_of t) b) →
    (is_found s.found.witnesses.items Verdict.Error ≡ true) ⊎ (GoesOn s.met.scripts.now (past_of t) ⊎ (level_of s.aim < level_of Verdict.Error)) → IsClosedFrom s (past_of t)
closed_state s t state runs stuck =
    let main = main_goes s.met.scripts.now (past_of t) state.opened.on.course state.opened.going in
    record {
      course = state.opened.on.course;
      going = state.opened.going;
      within = state.within;
      main = main;
      main_stays = active_stays s.met.scripts.now (past_of t) 0 state.opened.on.course main;
      each = λ e near turn on. runs e.caller.0 near e refl turn on;
      stuck = stuck;
    }

closed_further : (a b : Search) (q : List Entry) → IsFurther a b → IsClosedFrom a q → IsClosedFrom b q
closed_further a b q h c = rw (h.aim, h.met.scripts) (record {
  course = c.course;
  going = c.going;
  within = c.within;
  main = c.main;
  main_stays = c.main_stays;
  each = λ e near t on. closed_for_further a.met.scripts.now a.met b.met a.found.witnesses.items b.found.witnesses.items q e h.met h.witnesses (c.each e near t on);
  stuck = ⊎_elim (λ o. inl (found_longer a.found.witnesses.items b.found.witnesses.items Verdict.Error h.witnesses o)) inr c.stuck;
})

-- one state more, of which a copy is closed
pub closed_more : (a b : Search) (n : ℕ) (u v : Case) → IsFurther a b → n < length a.met.states.items → u.history ≡ v.history → v ≡ get_or a.met.states.items n v → AreClosed a n → IsClosedFrom b (past_of u) → AreClosed b (n + 1)
closed_more a b n u v h within same at closed last = below_more (λ i. (t : Case) → slice_get b.met.states.items i ≡ Some t → IsClosedFrom b (past_of t)) n
    (λ i near t here.
    let inside : i < length a.met.states.items = omega (arith, near, within) in
    let was = slice_get-get_or a.met.states.items i t inside ∙ ap Some (sym (at_longer a.met.states.items b.met.states.items i t t h.met.states inside here)) in
    closed_further a b (past_of t) h (closed i near t was))
    (λ t here.
    let is = at_longer a.met.states.items b.met.states.items n v t h.met.states within here in
    let past : past_of u ≡ past_of t = ap reverse (same ∙ ap (λ (x : Case). x.history) (at ∙ sym is)) in
    subst (IsClosedFrom b) past last)

-- a search that began with what represents the opening, and whose states are closed, has come to its end
pub all_told : (z a s : Search) (t : Case) (n : ℕ) → IsFurther z s → IsFurther a s → 1 ≤ length s.met.scripts.now → past_of t ≡ [] → IsCovered z.aim z.met.scripts.now (IsSeen a.met) (past_of t) →
    length s.met.states.items ≤ n → AreClosed s n → s.met.is_whole ≡ true → AllTold z.aim z.met.scripts.now s.found.witnesses.items
all_told z a s t n h k some is seen whole closed w =
    let start : IsCovered s.aim s.met.scripts.now (IsSeen s.met) [] = rw (h.aim, h.met.scripts) (covered_further z.met.scripts.now a.met s.met [] k.met (subst (IsCovered z.aim z.met.scripts.now (IsSeen a.met)) is seen)) in
    rw (← h.aim, ← h.met.scripts) (closed_is_complete s w some start (λ i t here. let near = slice_get_within s.met.states.items i t here in closed i (omega arith) t here))
