-- If what comes after each state that a search for local verdicts has seen is seen, or found, it has found the local
-- verdicts of each complete course.
use Rattle.std.proofs.lemmas.Grind.{common_steps}
use Rattle.std.proofs.Common.{ℕ, ◌≡◌, ◌+◌, ◌*◌, ◌<◌, ◌≤◌, nat_eq, Bool, true, false, Some, None, List, [], ◌∷◌, length, map, reverse, slice_get, get_or, refl, ap, sym, subst, ◌∙◌, arith}
use Rattle.std.{specs.{Cmp.Lexicographic.pointwise, List.IsDistinct, Option.unwrap_or}, proofs.lemmas.{List.Elements.All-weaker, Option.{get_or_from_slice_get, slice_get-get_or, slice_get_within}}}
use Rattle.tc_entry.specs.declared.limits.TheConstants.{BEHAVIOURS}
use Rattle.tc_rules.{specs.Prelude.{Run, level_of, Comp, Entry, Op, Case, past_of, ends_case, is_over, is_active, Reply, entry_made}, proofs.Lemmas.Over.all_over}
use Rattle.tc_step.specs.Prelude.{ScriptView}
use Rattle.tc_course.{specs.{Prelude.{stand, steps_of, turn, IsTurn, IsCourse, IsComplete, is_local}, Inside.call_of}, proofs.Lemmas.{below_more, course_legal, run_in_range, stand_comp, turn_of}}
use Rattle.tc_explore.{specs.{Found.{AllLocalsFound, AreLocals, HasCourses}, Inside.{Locals.{AreLocalsClosed, AreLocalsRuns, IsLocalFurther, IsLocalSearch, IsLocalsAfter, IsLocalsRun, IsTwinSeen}, Seen.{IsMetFurther, IsPlaced, IsSameCase}, Twins.{HasLocals, IsGoing, IsMore, IsTwin, key_of}}, declared.{marks.Marks.Marks, search.Met.Met, search_locals.LocalSearch.LocalSearch}}, proofs.{Alike.active_alike, Closed.{on_copied, same_entry, with_copied}, Closing.answer_inactive, Keeping.{active_stays, comp_main, main_goes}, Kept.{all_with, courses_of, no_courses, placed_further, placed_met}, LastCalls.locals_ended, Seeing.{at_longer, get_longer, met_self}, Simulation.some_if, TwinKeys.seen_by_twin_key, Twins.{locals_twin, matched, twin_ended, twin_then}}}

-- ---- all courses

has_twin : (found : List Bool) (r p : List Entry) → IsTwin r p → HasLocals found r → HasLocals found p
has_twin found r p t has c v h = has c v (locals_twin r p t c ∙ h)

-- after this course the local verdicts are found, or the state is seen, if so it was before its last entry
module _ (z : LocalSearch) (search : IsLocalSearch z) (whole : z.met.is_whole ≡ true) (closed : AreLocalsClosed z (length z.met.states.items)) where
  some : 1 ≤ length z.met.scripts.now
  some = search.met.some

  going : (i : ℕ) (t : Case) → slice_get z.met.states.items i ≡ Some t → IsGoing z.met.scripts.now t
  going i t here = subst (IsGoing z.met.scripts.now) (get_or_from_slice_get z.met.states.items i t t here) (search.met.each i t (slice_get_within z.met.states.items i t here))

  told_over : (p : List Entry) (e : Entry) → IsCourse z.met.scripts.now (e ∷ p) → is_over p ≡ true → HasLocals z.marks.found.items p → IsLocalsAfter z (e ∷ p)
  told_over p e course over has =
      let r : e.reply ≡ Reply.Ended = course.0.reply ∙ (all_over (length z.met.scripts.now) p (course_legal z.met.scripts.now p course.1) over).ended e.caller.0 e.op in
      let ends : ends_case e ≡ false = rw r refl in
      let over_e : is_over (e ∷ p) ≡ true = rw (ends, over) refl in
      record { over = λ o c v h. has c v (sym (locals_ended (length z.met.scripts.now) p e (course_legal z.met.scripts.now (e ∷ p) course) r c) ∙ h); more = λ o. absurd cc }

  told_still : (p : List Entry) (e : Entry) (i : ℕ) (t : Case) → IsCourse z.met.scripts.now (e ∷ p) → is_over p ≡ false → slice_get z.met.states.items i ≡ Some t → IsTwin (past_of t) p → is_active p e.caller.0 ≡ false → IsLocalsAfter z (e ∷ p)
  told_still p e i t course going here twin off =
      let r : e.reply ≡ Reply.Ended = course.0.reply ∙ answer_inactive (length z.met.scripts.now) p e.caller.0 e.op off in
      let ends : ends_case e ≡ false = rw r refl in
      let going_e : is_over (e ∷ p) ≡ false = rw (ends, going) refl in
      record { over = λ o. absurd cc; more = λ o w. (i, t, here, twin_ended z.met.scripts.now (past_of t) p e course off twin) }

  told_turn : (p : List Entry) (e : Entry) (i : ℕ) (t : Case) → IsCourse z.met.scripts.now (e ∷ p) → is_over p ≡ false → slice_get z.met.states.items i ≡ Some t → IsTwin (past_of t) p → is_active p e.caller.0 ≡ true → IsLocalsAfter z (e ∷ p)
  told_turn p e i t course on_p here twin act =
      let q = past_of t in
      let c = closed i (slice_get_within z.met.states.items i t here) t here in
      let going_q = going i t here in
      let on : is_active q e.caller.0 ≡ true = active_alike twin.alike e.caller.0 ∙ act in
      let me = some_if p e.caller.0 act in
      let near = run_in_range (length z.met.scripts.now) p e.caller.0 me.0 some (course_legal z.met.scripts.now p course.1) me.1 in
      let m = matched z.met.scripts.now q p e some going_q.on.course course twin (going_q.going ∙ sym on_p) on in
      let after = c e.caller.0 near m.entry m.own m.turn on in
      record {
        over = λ o. has_twin z.marks.found.items (m.entry ∷ q) (e ∷ p) m.twin (after.over (m.over ∙ o));
        more = λ o w. let s = after.more (m.over ∙ o) w in (s.0, s.1, s.2, twin_then (past_of s.1) (m.entry ∷ q) (e ∷ p) s.3 m.twin);
      }

  told_next : (p : List Entry) (e : Entry) → IsCourse z.met.scripts.now (e ∷ p) → IsLocalsAfter z p → (s : Bool) → is_over p ≡ s → IsLocalsAfter z (e ∷ p)
  told_next p e course told true k = told_over p e course k (told.over k)
  told_next p e course told false k = let s = told.more k whole in by_active s.0 s.1 s.2 s.3 (is_active p e.caller.0) refl
    where
      by_active : (i : ℕ) (t : Case) → slice_get z.met.states.items i ≡ Some t → IsTwin (past_of t) p → (a : Bool) → is_active p e.caller.0 ≡ a → IsLocalsAfter z (e ∷ p)
      by_active i t here twin false off = told_still p e i t course k here twin off
      by_active i t here twin true on = told_turn p e i t course k here twin on

  told_course : IsTwinSeen z.met [] → (p : List Entry) → IsCourse z.met.scripts.now p → IsLocalsAfter z p
  told_course start [] course = record { over = λ o. absurd cc; more = λ o. start }
  told_course start (e ∷ p) course = told_next p e course (told_course start p course.1) (is_over p) refl

  -- a course in which no run has a call left is over
  complete_over : (p : List Entry) → IsCourse z.met.scripts.now p → IsComplete z.met.scripts.now p → is_over p ≡ false → ⊥
  complete_over p course done going =
      let act = main_goes z.met.scripts.now p course going in
      let main : Comp = record { 0 = 0 } in
      let on : (stand p 0).comp ≡ Some main = stand_comp z.met.scripts.now p 0 course ∙ comp_main p in
      let stays = active_stays z.met.scripts.now p 0 course act in
      let has : turn z.met.scripts.now p 0 ≡ Some (unwrap_or (stand p 0).wake (call_of main (stand p 0).bound (slice_get (steps_of z.met.scripts.now 0) (stand p 0).called))) =
      turn_of z.met.scripts.now p 0 _ (record { me = main; on = on; stays = stays; calls = refl }) in
      let none : turn z.met.scripts.now p 0 ≡ None = done 0 some in
      absurd cc

  pub all_locals_found : IsTwinSeen z.met [] → AllLocalsFound z.met.scripts.now z.marks.found.items
  all_locals_found start c v gives = by_over (is_over gives.0) refl
    where
      by_over : (s : Bool) → is_over gives.0 ≡ s → is_local z.marks.found.items c v ≡ true
      by_over true k = (told_course start gives.0 gives.1).over k c v gives.3
      by_over false k = absurd (complete_over gives.0 gives.1 gives.2 k)

-- ---- what is found or seen stays so

pub more_then : (f g h : List Bool) → IsMore f g → IsMore g h → IsMore f h
more_then f g h one two i k = two i (one i k)

pub twin_further : (a b : Met) (r : List Entry) → IsMetFurther a b → IsTwinSeen a r → IsTwinSeen b r
twin_further a b r h seen = λ w. let s = seen (h.whole w) in (s.0, s.1, get_longer a.states.items b.states.items s.0 s.1 h.states s.2, s.3)

after_further : (a b : LocalSearch) (r : List Entry) → IsLocalFurther a b → IsLocalsAfter a r → IsLocalsAfter b r
after_further a b r h after = record {
  over = λ o c v k. h.found (c * 5 + level_of v) (after.over o c v k);
  more = λ o. twin_further a.met b.met r h.met (after.more o);
}

pub run_further : (a b : LocalSearch) (q : List Entry) (k : ℕ) → IsLocalFurther a b → IsLocalsRun a q k → IsLocalsRun b q k
run_further a b q k h run e own t act = after_further a b (e ∷ q) h (run e own (subst (λ sc. IsTurn sc q e) h.met.scripts t) act)

-- one state more, of which a copy is closed
pub locals_more : (a b : LocalSearch) (n : ℕ) (u v : Case) → IsLocalFurther a b → n < length a.met.states.items → u.history ≡ v.history → v ≡ get_or a.met.states.items n v → AreLocalsClosed a n →
    AreLocalsRuns b (past_of u) (length b.met.scripts.now) → AreLocalsClosed b (n + 1)
locals_more a b n u v h within same at closed last = below_more (λ i. (t : Case) → slice_get b.met.states.items i ≡ Some t → AreLocalsRuns b (past_of t) (length b.met.scripts.now)) n
    (λ i near t here.
    let inside : i < length a.met.states.items = omega (arith, near, within) in
    let was = slice_get-get_or a.met.states.items i t inside ∙ ap Some (sym (at_longer a.met.states.items b.met.states.items i t t h.met.states inside here)) in
    subst (λ sc. AreLocalsRuns b (past_of t) (length sc)) (sym h.met.scripts) (λ k less. run_further a b (past_of t) k h (closed i near t was k less)))
    (λ t here.
    let is = at_longer a.met.states.items b.met.states.items n v t h.met.states within here in
    let past : past_of u ≡ past_of t = ap reverse (same ∙ ap (λ (x : Case). x.history) (at ∙ sym is)) in
    subst (λ p. AreLocalsRuns b p (length b.met.scripts.now)) past last)

-- ---- one call

locals_run : (z : LocalSearch) (n : ℕ) (q : List Entry) (run : Run) (op : Op) → IsTurn z.met.scripts.now q (entry_made n q run op) → IsLocalsAfter z (entry_made n q run op ∷ q) → IsLocalsRun z q run.0
locals_run z n q run op t after = λ e own h act. subst (λ x. IsLocalsAfter z (x ∷ q)) (sym (same_entry z.met.scripts.now q e (entry_made n q run op) h t own)) after

-- ---- states

pub going_same : (scripts : List ScriptView) (t u : Case) → u.behaviours ≡ t.behaviours → u.history ≡ t.history → IsGoing scripts t → IsGoing scripts u
going_same scripts t u n h g = grind (arith, common_steps)

pub local_self : (z : LocalSearch) → IsLocalSearch z → IsLocalFurther z z
local_self z is = record { search = is; met = met_self z.met; found = λ i h. h }

pub local_then : (a b c : LocalSearch) → IsLocalFurther a b → IsLocalFurther b c → IsLocalFurther a c
local_then a b c h k = grind (arith, common_steps)

-- more is found
pub local_noted : (z : LocalSearch) (m : Marks) → IsLocalSearch z → AreLocals z.met.scripts.now m.found.items → IsMore z.marks.found.items m.found.items → IsLocalFurther z (record { met = z.met; marks = m })
local_noted z m is sound more = record { search = record { met = is.met; sound = sound }; met = met_self z.met; found = more }

-- one state more, that is seen
pub local_placed : (z : LocalSearch) (t : Case) (after : Met) → IsLocalSearch z → IsGoing z.met.scripts.now t → IsPlaced true t z.met after →
    IsLocalFurther z (record { met = after; marks = z.marks }) × IsTwinSeen after (past_of t)
local_placed z t after is going p = (
  record {
    search = record { met = placed_met true IsGoing t z.met after same is.met going p; sound = rw p.scripts is.sound };
    met = placed_further true t z.met after p;
    found = λ i h. h;
  },
  seen_by_twin_key z.met.scripts.now after t is.met.some going (all_with (IsGoing z.met.scripts.now) z.met.states.items after.states.items t same p.states is.met.each going) (p.known is.met.keyed),
)
  where
    same : (u : Case) → IsSameCase t u → IsGoing z.met.scripts.now t → IsGoing z.met.scripts.now u
    same u one = going_same z.met.scripts.now t u one.behaviours one.entries

-- after the next call of a run
pub local_next : (z : LocalSearch) (t copy u : Case) (run : Run) (op : Op) (after : Met) → IsLocalSearch z → IsGoing z.met.scripts.now t → IsTurn z.met.scripts.now (past_of t) (entry_made t.behaviours (past_of t) run op) →
    IsSameCase t copy → u.behaviours ≡ copy.behaviours → past_of u ≡ entry_made copy.behaviours (past_of copy) run op ∷ past_of copy → is_over (past_of u) ≡ false → IsPlaced true u z.met after →
    IsLocalFurther z (record { met = after; marks = z.marks }) × IsLocalsRun (record { met = after; marks = z.marks }) (past_of t) run.0
local_next z t copy u run op after search state turn one number is going p = (
  placed.0,
  locals_run (record { met = after; marks = z.marks }) t.behaviours (past_of t) run op (rw p.scripts turn) (record {
    over = λ o. let off = ap is_over (sym added) ∙ going in absurd cc;
    more = λ o. subst (IsTwinSeen after) added placed.1;
  }),
)
  where
    added : past_of u ≡ entry_made t.behaviours (past_of t) run op ∷ past_of t
    added = with_copied t copy u run op one.behaviours one.entries is

    placed : IsLocalFurther z (record { met = after; marks = z.marks }) × IsTwinSeen after (past_of u)
    placed = local_placed z u after search (record { on = on_copied z.met.scripts.now t copy u run op state.on one.behaviours one.entries number is turn; going = going }) p

pub local_none : (z : LocalSearch) → 1 ≤ length z.met.scripts.now → length z.met.scripts.now ≤ BEHAVIOURS → z.met.states.items ≡ [] → z.met.keys.keys ≡ [] → z.met.is_whole ≡ true → z.marks.found.items ≡ [] → IsLocalSearch z
local_none z some few none no_key whole nothing = grind (arith, common_steps)

pub courses_met : (z : LocalSearch) → IsLocalSearch z → IsDistinct (λ x y. pointwise nat_eq x.items y.items) z.met.keys.keys → HasCourses z.met.scripts.now (length z.met.keys.keys)
courses_met z is distinct = (
  map past_of z.met.states.items,
  courses_of z.met.scripts.now (key_of true (length z.met.scripts.now)) z.met is.met.keyed distinct
      (All-weaker (λ t. IsGoing z.met.scripts.now t) (λ t. IsCourse z.met.scripts.now (past_of t)) (λ t g. g.on.course) z.met.states.items is.met.each),
)

-- a search that has met none
pub courses_none : (scripts : List ScriptView) → HasCourses scripts 0
courses_none scripts = ([], no_courses scripts)
