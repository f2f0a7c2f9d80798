-- The log of a run of a script is what the run calls, one turn after the other, until its pass has ended.
use Rattle.std.{proofs.{Common.{ℕ, ◌≡◌, ◌∙◌, ◌+◌, ◌++◌, ◌||◌, ◌==◌, inl, inr, Bool, true, false, Option, Some, None, List, [], ◌∷◌, length, slice_get, refl, sym, ap, subst, arith, append_assoc}, lemmas.{List.{Folds.list_any-append, append-nil, length-append}, Option.slice_get_past}}, specs.Option.{unwrap_or, option_to_list}}
use Rattle.tc_rules.{specs.Prelude.{Run, Comp, Entry, Op, Target, Reply, is_ended, is_fault, is_ok, is_parked, is_wake, created, ends_pass}, proofs.Lemmas.Deciding.self_equal}
use Rattle.tc_step.specs.{declared.{place.{Place.Place, TargetPlace.TargetPlace}, step.{Status.Status, Step.Step}}, Prelude.{operation, target, ScriptView}}
use Rattle.tc_book.specs.Prelude.{PassState, LeftState, has_ended, with_own_entry, entry_of}
use Rattle.tc_exec.specs.{declared.job.{Back.Back, Ending.Ending}, Prelude.HasLeft}
use Rattle.tc_course.{specs.{Prelude.{CourseState, after_own, is_idle, turn_on}, Inside.{call_of, wake_for, wake_if}}, proofs.Lemmas.other_not_idle}
use Rattle.tc_script.specs.Calls.{MakesItsCalls, Calls, HasCalled, bound_after, ending, none, one_more}

-- ---- a run and its own entries

-- a run that is on this component, of which these components are bound and that many steps called, with no Wake to come
abbrev pub standing : Comp → List Comp → ℕ → Bool → CourseState
standing me bound k left = record { comp = Some me; bound = bound; called = k; left = left; wake = None }

-- a run that was started on this component with these arguments
abbrev pub fresh : Comp → List Comp → CourseState
fresh me args = standing me args 0 false

-- what is known of it after these entries of its own, the oldest first
abbrev pub after_all : CourseState → List Entry → CourseState
after_all s [] = s
after_all s (e ∷ log) = after_all (after_own e s) log

pub after_append : (s : CourseState) (xs ys : List Entry) → after_all s (xs ++ ys) ≡ after_all (after_all s xs) ys
after_append s [] ys = refl
after_append s (x ∷ xs) ys = after_append (after_own x s) xs ys

pub after_comp : (s : CourseState) (xs : List Entry) → (after_all s xs).comp ≡ s.comp
after_comp s [] = refl
after_comp s (x ∷ xs) = after_comp (after_own x s) xs

-- the entry is what the run calls next, and no idle Wake
pub record IsOwnTurn (steps : List Step) (s : CourseState) (e : Entry) : Type 0 where
  pub turn : turn_on s.comp steps s ≡ Some e.op
  pub not_idle : is_idle e.op e.reply ≡ false

-- each of these entries is, one after the other
abbrev pub AreTurns : List Step → CourseState → List Entry → Type 0
AreTurns steps s [] = Unit {0}
AreTurns steps s (e ∷ log) = IsOwnTurn steps s e × AreTurns steps (after_own e s) log

turns_append : (steps : List Step) (s : CourseState) (xs ys : List Entry) → AreTurns steps s xs → AreTurns steps (after_all s xs) ys → AreTurns steps s (xs ++ ys)
turns_append steps s [] ys one two = two
turns_append steps s (x ∷ xs) ys one two = (one.0, turns_append steps (after_own x s) xs ys one.1 two)

pub turn_at : (steps : List Step) (s : CourseState) (xs : List Entry) (e : Entry) (ys : List Entry) → AreTurns steps s (xs ++ e ∷ ys) → IsOwnTurn steps (after_all s xs) e
turn_at steps s [] e ys are = are.0
turn_at steps s (x ∷ xs) e ys are = turn_at steps (after_own x s) xs e ys are.1

-- ---- one call

or_nothing : (b : Bool) → (b || false) ≡ b
or_nothing true = refl
or_nothing false = refl

slice_get_seam : {A : Type 0} (xs : List A) (y : A) (ys : List A) → slice_get (xs ++ y ∷ ys) (length xs) ≡ Some y
slice_get_seam [] y ys = refl
slice_get_seam (x ∷ xs) y ys = slice_get_seam xs y ys

ended_added : (p : PassState) (op : Op) (r : Reply) → has_ended p ≡ false → has_ended (with_own_entry p op r) ≡ ends_pass p.me (entry_of p.run op r)
ended_added p op r on =
    list_any-append (ends_pass p.me) p.log (entry_of p.run op r ∷ [])
    ∙ (ap (λ b. b || (ends_pass p.me (entry_of p.run op r) || false)) on ∙ or_nothing (ends_pass p.me (entry_of p.run op r)))

-- after a reply that is not Parked no Wake is to come
not_parked : (op : Op) (r : Reply) → is_parked r ≡ false → wake_if op r ≡ None
not_parked op Reply.Parked h = absurd cc
not_parked op _ h = refl

-- nor after a call that does not wait
no_wait : (op : Op) (r : Reply) → wake_for op ≡ None → wake_if op r ≡ None
no_wait op Reply.Parked h = h
no_wait op _ h = refl

create_binds : (alive : Bool) (name : Option (List ℕ)) (r : Reply) (bound : List Comp) → bound_after (Step.Create alive name) r bound ≡ bound ++ option_to_list (created (Op.Create alive name) r)
create_binds alive name (Reply.Made c) bound = refl
create_binds alive name _ bound = sym (append-nil bound)

own_call : (me : Comp) (bound bound-new : List Comp) (k : ℕ) (run : Run) (op : Op) (r : Reply) → is_wake op ≡ false → wake_if op r ≡ None → bound-new ≡ bound ++ option_to_list (created op r)
    → after_own (entry_of run op r) (standing me bound k false) ≡ standing me bound-new (k + 1) (ends_pass me (entry_of run op r))
own_call me bound bound-new k run op r call still binds = rw (call, still, binds) refl

-- ---- the calls of a script

-- A pass whose log is that of the calls up to the steps that are left: each entry is the run's turn, and the run is
-- before these.
pub record IsAt (steps left : List Step) (bound : List Comp) (p : PassState) : Type 0 where
  pub front : List Step
  pub steps_are : steps ≡ front ++ left
  pub stands : after_all (fresh p.me p.args) p.log ≡ standing p.me bound (length front) (has_ended p)
  pub turns : AreTurns steps (fresh p.me p.args) p.log

module _ (steps : List Step) (s : Step) (left : List Step) (bound : List Comp) (p : PassState) (is : IsAt steps (s ∷ left) bound p) (on : has_ended p ≡ false) where
  here : after_all (fresh p.me p.args) p.log ≡ standing p.me bound (length is.front) false
  here = is.stands ∙ ap (standing p.me bound (length is.front)) on

  step_here : slice_get steps (length is.front) ≡ Some s
  step_here = ap (λ l. slice_get l (length is.front)) is.steps_are ∙ slice_get_seam is.front s left

  longer : steps ≡ (is.front ++ s ∷ []) ++ left
  longer = is.steps_are ∙ sym (append_assoc is.front (s ∷ []) left)

  one_longer : length (is.front ++ s ∷ []) ≡ length is.front + 1
  one_longer = omega (arith, length-append is.front (s ∷ []))

  -- the call of the step is the run's turn
  own_turn : (op : Op) (r : Reply) → op ≡ operation p.me bound s → is_wake op ≡ false → IsOwnTurn steps (after_all (fresh p.me p.args) p.log) (entry_of p.run op r)
  own_turn op r same calls =
      let turn : turn_on (Some p.me) steps (standing p.me bound (length is.front) false) ≡ Some op = ap (λ o. Some (unwrap_or None (call_of p.me bound o))) step_here ∙ ap Some (sym same) in
      let own : IsOwnTurn steps (standing p.me bound (length is.front) false) (entry_of p.run op r) = record { turn = turn; not_idle = other_not_idle op r calls } in
      subst (λ st. IsOwnTurn steps st (entry_of p.run op r)) (sym here) own

  -- a call that is not parked
  plain_at : (bound-new : List Comp) (q : PassState) (op : Op) (r : Reply) → op ≡ operation p.me bound s → is_wake op ≡ false → wake_if op r ≡ None → bound-new ≡ bound ++ option_to_list (created op r)
      → q ≡ with_own_entry p op r → IsAt steps left bound-new q
  plain_at bound-new q op r same calls still binds is-new =
      let e : Entry = entry_of p.run op r in
      let k : ℕ = length is.front in
      let stands : after_all (fresh p.me p.args) (p.log ++ e ∷ []) ≡ standing p.me bound-new (k + 1) (ends_pass p.me e) =
      after_append (fresh p.me p.args) p.log (e ∷ []) ∙ (ap (after_own e) here ∙ own_call p.me bound bound-new k p.run op r calls still binds) in
      let now : IsAt steps left bound-new (with_own_entry p op r) = record {
        front = is.front ++ s ∷ [];
        steps_are = longer;
        stands = stands ∙ (ap (λ n. standing p.me bound-new n (ends_pass p.me e)) (sym one_longer)
            ∙ ap (standing p.me bound-new (length (is.front ++ s ∷ []))) (sym (ended_added p op r on)));
        turns = turns_append steps (fresh p.me p.args) p.log (e ∷ []) is.turns (own_turn op r same calls, tt);
      } in
      subst (IsAt steps left bound-new) (sym is-new) now

  -- a call that binds nothing, and does not wait
  calm_at : (q : PassState) (op : Op) (r : Reply) → op ≡ operation p.me bound s → is_wake op ≡ false → wake_for op ≡ None → option_to_list (created op r) ≡ [] → q ≡ with_own_entry p op r → IsAt steps left bound q
  calm_at q op r same calls waits makes is-new = plain_at bound q op r same calls (no_wait op r waits) (sym (append-nil bound) ∙ ap (λ l. bound ++ l) (sym makes)) is-new

-- a run whose Wait was parked, before its Wake
waits_at : Comp → List Comp → ℕ → Op → CourseState
waits_at me bound k wake = record { comp = Some me; bound = bound; called = k; left = false; wake = Some wake }

parked_own : (me : Comp) (bound : List Comp) (k : ℕ) (run : Run) (killed : Bool) (t : Target)
    → after_own (entry_of run (Op.Wait killed t) Reply.Parked) (standing me bound k false) ≡ waits_at me bound (k + 1) (Op.Wake killed t)
unfolding ends_pass waits_at
parked_own me bound k run killed t = ap (λ b. waits_at me b (k + 1) (Op.Wake killed t)) (append-nil bound)

woken_own : (me : Comp) (bound : List Comp) (k : ℕ) (run : Run) (killed : Bool) (t : Target) (r : Reply) → is_parked r ≡ false
    → after_own (entry_of run (Op.Wake killed t) r) (waits_at me bound k (Op.Wake killed t)) ≡ standing me bound k (ends_pass me (entry_of run (Op.Wake killed t) r))
unfolding waits_at
woken_own me bound k run killed t r awake =
    rw (not_parked (Op.Wake killed t) r awake) (ap (λ b. standing me b k (ends_pass me (entry_of run (Op.Wake killed t) r))) (append-nil bound))

awake_not_idle : (op : Op) (r : Reply) → is_parked r ≡ false → is_idle op r ≡ false
awake_not_idle op Reply.Parked h = absurd cc
awake_not_idle op _ h = refl

wake_turn : (steps : List Step) (me : Comp) (bound : List Comp) (k : ℕ) (run : Run) (wake : Op) (r : Reply) → is_parked r ≡ false → IsOwnTurn steps (waits_at me bound k wake) (entry_of run wake r)
unfolding waits_at
wake_turn steps me bound k run wake r awake = record { turn = refl; not_idle = awake_not_idle wake r awake }

parked_goes_on : (me : Comp) (run : Run) (killed : Bool) (t : Target) → ends_pass me (entry_of run (Op.Wait killed t) Reply.Parked) ≡ false
unfolding ends_pass
parked_goes_on me run killed t = refl

module _ (steps : List Step) (killed : Bool) (t : TargetPlace (Place ℕ)) (left : List Step) (bound : List Comp) (p : PassState)
    (is : IsAt steps (Step.Wait killed t ∷ left) bound p) (on : has_ended p ≡ false) where
  -- a wait that was parked, and its Wake
  wait_at : (q : PassState) (r : Reply) → is_parked r ≡ false → q ≡ with_own_entry (with_own_entry p (Op.Wait killed (target p.me bound t)) Reply.Parked) (Op.Wake killed (target p.me bound t)) r → IsAt steps left bound q
  wait_at q r awake is-new =
      let wait : Op = Op.Wait killed (target p.me bound t) in
      let wake : Op = Op.Wake killed (target p.me bound t) in
      let parked : Entry = entry_of p.run wait Reply.Parked in
      let woken : Entry = entry_of p.run wake r in
      let k : ℕ = length is.front in
      let start : CourseState = fresh p.me p.args in
      let waits : after_all start (p.log ++ parked ∷ []) ≡ waits_at p.me bound (k + 1) wake =
      after_append start p.log (parked ∷ []) ∙ (ap (after_own parked) (here steps (Step.Wait killed t) left bound p is on) ∙ parked_own p.me bound k p.run killed (target p.me bound t)) in
      let stands : after_all start ((p.log ++ parked ∷ []) ++ woken ∷ []) ≡ standing p.me bound (k + 1) (ends_pass p.me woken) =
      after_append start (p.log ++ parked ∷ []) (woken ∷ []) ∙ (ap (after_own woken) waits ∙ woken_own p.me bound (k + 1) p.run killed (target p.me bound t) r awake) in
      let goes_on : has_ended (with_own_entry p wait Reply.Parked) ≡ false = ended_added p wait Reply.Parked on ∙ parked_goes_on p.me p.run killed (target p.me bound t) in
      let one : AreTurns steps start (p.log ++ parked ∷ []) =
      turns_append steps start p.log (parked ∷ []) is.turns (own_turn steps (Step.Wait killed t) left bound p is on wait Reply.Parked refl refl, tt) in
      let turn : IsOwnTurn steps (after_all start (p.log ++ parked ∷ [])) woken =
      subst (λ st. IsOwnTurn steps st woken) (sym waits) (wake_turn steps p.me bound (k + 1) p.run wake r awake) in
      let now : IsAt steps left bound (with_own_entry (with_own_entry p wait Reply.Parked) wake r) = record {
        front = is.front ++ Step.Wait killed t ∷ [];
        steps_are = longer steps (Step.Wait killed t) left bound p is on;
        stands = stands ∙ (ap (λ n. standing p.me bound n (ends_pass p.me woken)) (sym (one_longer steps (Step.Wait killed t) left bound p is on))
            ∙ ap (standing p.me bound (length (is.front ++ Step.Wait killed t ∷ []))) (sym (ended_added (with_own_entry p wait Reply.Parked) wake r goes_on)));
        turns = turns_append steps start (p.log ++ parked ∷ []) (woken ∷ []) one (turn, tt);
      } in
      subst (IsAt steps left bound) (sym is-new) now

step_at : (steps : List Step) (s : Step) (left : List Step) (bound : List Comp) (p q : PassState) (r : Reply) → IsAt steps (s ∷ left) bound p → has_ended p ≡ false → Calls bound s p q r
    → IsAt steps left (bound_after s r bound) q
step_at steps (Step.Create alive name) left bound p q r is on calls =
    plain_at steps (Step.Create alive name) left bound p is on (bound_after (Step.Create alive name) r bound) q (Op.Create alive name) r refl refl (no_wait (Op.Create alive name) r refl) (create_binds alive name r bound) calls
step_at steps (Step.Start c run args) left bound p q r is on calls =
    calm_at steps (Step.Start c run args) left bound p is on q (operation p.me bound (Step.Start c run args)) r refl refl refl refl calls
step_at steps (Step.Ask Status.Running t) left bound p q r is on calls = calm_at steps (Step.Ask Status.Running t) left bound p is on q (Op.Running (target p.me bound t)) r refl refl refl refl calls
step_at steps (Step.Ask Status.Alive t) left bound p q r is on calls = calm_at steps (Step.Ask Status.Alive t) left bound p is on q (Op.Alive (target p.me bound t)) r refl refl refl refl calls
step_at steps (Step.Ask Status.Done t) left bound p q r is on calls = calm_at steps (Step.Ask Status.Done t) left bound p is on q (Op.Done (target p.me bound t)) r refl refl refl refl calls
step_at steps (Step.Ask Status.Killed t) left bound p q r is on calls = calm_at steps (Step.Ask Status.Killed t) left bound p is on q (Op.Killed (target p.me bound t)) r refl refl refl refl calls
step_at steps (Step.Wait killed t) left bound p q r is on (inl one, awake) =
    plain_at steps (Step.Wait killed t) left bound p is on bound q (Op.Wait killed (target p.me bound t)) r refl refl (not_parked (Op.Wait killed (target p.me bound t)) r awake) (sym (append-nil bound)) one
step_at steps (Step.Wait killed t) left bound p q r is on (inr two, awake) = wait_at steps killed t left bound p is on q r awake two
step_at steps (Step.SetVerdict v) left bound p q r is on calls = calm_at steps (Step.SetVerdict v) left bound p is on q (Op.SetVerdict v) r refl refl refl refl calls
step_at steps Step.StopCase left bound p q r is on calls = calm_at steps Step.StopCase left bound p is on q Op.StopCase r refl refl refl refl calls
step_at steps Step.GetVerdict left bound p q r is on calls = calm_at steps Step.GetVerdict left bound p is on q Op.GetVerdict r refl refl refl refl calls
step_at steps step left bound p q r is on calls = calm_at steps step left bound p is on q (operation p.me bound step) r refl refl refl refl calls

calls_at : (steps : List Step) (start : PassState) (left : List Step) (bound : List Comp) (now : PassState) → start.log ≡ [] → HasCalled steps start left bound now → IsAt steps left bound now
calls_at steps start _ _ _ new none = record { front = []; steps_are = refl; stands = rw new refl; turns = rw new tt }
calls_at steps start _ _ _ new (one_more s left bound before after reply called on calls) = step_at steps s left bound before after reply (calls_at steps start (s ∷ left) bound before new called) on calls

-- ---- the end of a pass

-- the log of a run of these steps on this component with these arguments: each entry is its turn, and at its end the pass has ended
pub record IsLogOf (steps : List Step) (me : Comp) (args : List Comp) (log : List Entry) : Type 0 where
  pub turns : AreTurns steps (fresh me args) log
  pub left : (after_all (fresh me args) log).left ≡ true

all_called : (left : List Step) → Ending.Returned ≡ ending false left → left ≡ []
all_called [] h = refl
all_called (s ∷ left) h = absurd cc

-- a Finish ends the pass
finish_ends : (me : Comp) (run : Run) (r : Reply) → (is_ok r || is_ended r || is_fault r) ≡ true → ends_pass me (entry_of run Op.Finish r) ≡ true
unfolding ends_pass
finish_ends me run Reply.Ended h = refl
finish_ends me run (Reply.Fault f) h = refl
finish_ends me run Reply.Ok h = by (run.0 == 0) refl
  where
    by : (t : Bool) → (run.0 == 0) ≡ t → ends_pass me (entry_of run Op.Finish Reply.Ok) ≡ true
    by true is = rw is refl
    by false is = rw (is, self_equal me.0) refl
finish_ends me run _ h = absurd cc

-- the log that a run of a script has left
pub log_left : (s : ScriptView) (p : PassState) (b : Back) (l : LeftState) → p.log ≡ [] → MakesItsCalls s p b → Ending.Returned ≡ b.ending → HasLeft b.pass l
    → IsLogOf s.steps b.pass.me b.pass.args l.log
log_left s p b l new makes back left = by (has_ended b.pass) refl
  where
    me : Comp
    me = b.pass.me

    start : CourseState
    start = fresh b.pass.me b.pass.args

    at : IsAt s.steps makes.calls.left makes.calls.bound b.pass
    at = calls_at s.steps p makes.calls.left makes.calls.bound b.pass new makes.calls.called

    by : (t : Bool) → has_ended b.pass ≡ t → IsLogOf s.steps b.pass.me b.pass.args l.log
    by true is = record {
      turns = subst (AreTurns s.steps start) (sym (left.ended is)) at.turns;
      left = ap (λ log. (after_all start log).left) (left.ended is) ∙ (ap (λ (st : CourseState). st.left) at.stands ∙ is);
    }
    by false is =
        let f = left.finished is in
        let e : Entry = entry_of b.pass.run Op.Finish f.0 in
        let none_left : makes.calls.left ≡ [] = all_called makes.calls.left (back ∙ (makes.calls.ending_is ∙ ap (λ t. ending t makes.calls.left) is)) in
        let front : s.steps ≡ at.front = at.steps_are ∙ (ap (λ x. at.front ++ x) none_left ∙ append-nil at.front) in
        let no_step : slice_get s.steps (length at.front) ≡ None = slice_get_past s.steps (length at.front) (omega (arith, ap length front)) in
        let stands : after_all start b.pass.log ≡ standing me makes.calls.bound (length at.front) false = at.stands ∙ ap (standing me makes.calls.bound (length at.front)) is in
        let turn : turn_on (Some me) s.steps (standing me makes.calls.bound (length at.front) false) ≡ Some Op.Finish = ap (λ o. Some (unwrap_or None (call_of me makes.calls.bound o))) no_step in
        let own : IsOwnTurn s.steps (after_all start b.pass.log) e =
        subst (λ st. IsOwnTurn s.steps st e) (sym stands) (record { turn = turn; not_idle = other_not_idle Op.Finish f.0 refl }) in
        let ends : (after_own e (standing me makes.calls.bound (length at.front) false)).left ≡ true = finish_ends me b.pass.run f.0 f.2 in
        record {
          turns = subst (AreTurns s.steps start) (sym f.1) (turns_append s.steps start b.pass.log (e ∷ []) at.turns (own, tt));
          left = ap (λ log. (after_all start log).left) f.1
              ∙ (ap (λ (st : CourseState). st.left) (after_append start b.pass.log (e ∷ [])) ∙ (ap (λ st. (after_own e st).left) stands ∙ ends));
        }
