-- Each Start that a script makes gives as many arguments as the behaviour of its run has parameters, if its steps say
-- so.
use Rattle.std.{proofs.{Common.{◌≡◌, ◌∙◌, ◌==◌, inl, inr, Bool, true, false, Some, List, [], ◌∷◌, All, length, refl, sym, ap, subst, arith}, lemmas.{Bool.Decides.nat_tests, List.{Elements.{All-append, All-cons, All-nil, All-tail}, length-map}}}, specs.{Prelude.slice_get, Option.option_map}}
use Rattle.tc_rules.specs.Prelude.{Run, Comp, Entry, Op, Target, Reply}
use Rattle.tc_step.specs.{declared.step.{Status.Status, Step.Step}, Prelude.{operation, question, target, component, ScriptView}}
use Rattle.tc_reader.specs.Prelude.{Head, StartsOne}
use Rattle.tc_book.specs.Prelude.{PassState, LeftState, has_ended, with_own_entry, entry_of}
use Rattle.tc_exec.specs.{declared.job.Back.Back, Prelude.{HasLeft, IsLeftBy}}
use Rattle.tc_script.specs.Calls.{Acts, Calls, HasCalled, none, one_more}

-- a Start is of a behaviour with as many parameters as it gives arguments
abbrev pub GivesAll : List Head → Op → Type 0
GivesAll hs (Op.Start on run args) = option_map (λ h. h.1) (slice_get hs run.0) ≡ Some (length args)
GivesAll hs _ = Unit {0}

-- each Start among these entries is
abbrev pub GiveAll : List Head → List Entry → Type 0
GiveAll hs entries = All (λ e. GivesAll hs e.op) entries

pub give_none : (hs : List Head) → GiveAll hs []
give_none hs = All-nil (λ e. GivesAll hs e.op)

question_gives : (hs : List Head) (status : Status) (t : Target) → GivesAll hs (question status t)
question_gives hs Status.Running t = tt
question_gives hs _ t = tt

operation_gives : (hs : List Head) (me : Comp) (bound : List Comp) (s : Step) → StartsOne hs s → GivesAll hs (operation me bound s)
operation_gives hs me bound (Step.Start on run args) one = one ∙ ap Some (sym (length-map args (component me bound)))
operation_gives hs me bound (Step.Ask status t) one = question_gives hs status (target me bound t)
operation_gives hs me bound _ one = tt

-- one entry more
added_gives : (hs : List Head) (p q : PassState) (op : Op) (r : Reply) → q ≡ with_own_entry p op r → GivesAll hs op → GiveAll hs p.log → GiveAll hs q.log
added_gives hs p q op r is one all =
    let e = entry_of p.run op r in
    let more : GiveAll hs (with_own_entry p op r).log = All-append (λ e. GivesAll hs e.op) p.log (e ∷ []) all (All-cons (λ e. GivesAll hs e.op) e [] one (give_none hs)) in
    subst (λ x. GiveAll hs x.log) (sym is) more

-- the call of one step
call_gives : (hs : List Head) (s : Step) (bound : List Comp) (p q : PassState) (r : Reply) → StartsOne hs s → Calls bound s p q r → GiveAll hs p.log → GiveAll hs q.log
call_gives hs (Step.Start on run args) bound p q r one is all =
    added_gives hs p q (operation p.me bound (Step.Start on run args)) r is (operation_gives hs p.me bound (Step.Start on run args) one) all
call_gives hs (Step.Wait killed t) bound p q r one (inl is, awake) all = added_gives hs p q (Op.Wait killed (target p.me bound t)) r is tt all
call_gives hs (Step.Wait killed t) bound p q r one (inr is, awake) all =
    let parked : PassState = with_own_entry p (Op.Wait killed (target p.me bound t)) Reply.Parked in
    added_gives hs parked q (Op.Wake killed (target p.me bound t)) r is tt (added_gives hs p parked (Op.Wait killed (target p.me bound t)) Reply.Parked refl tt all)
call_gives hs (Step.SetVerdict v) bound p q r one is all = added_gives hs p q (Op.SetVerdict v) r is tt all
call_gives hs Step.StopCase bound p q r one is all = added_gives hs p q Op.StopCase r is tt all
call_gives hs Step.GetVerdict bound p q r one is all = added_gives hs p q Op.GetVerdict r is tt all
call_gives hs step bound p q r one is all = added_gives hs p q (operation p.me bound step) r is (operation_gives hs p.me bound step one) all

-- the calls of the first steps, and the steps that are left
calls_give : (hs : List Head) (steps : List Step) (start : PassState) (left : List Step) (bound : List Comp) (now : PassState)
    → HasCalled steps start left bound now → All (StartsOne hs) steps → GiveAll hs start.log → All (StartsOne hs) left × GiveAll hs now.log
calls_give hs steps start _ _ _ none ones all = (ones, all)
calls_give hs steps start _ _ _ (one_more s left bound before after reply called on calls) ones all =
    let so_far = calls_give hs steps start (s ∷ left) bound before called ones all in
    (All-tail (StartsOne hs) s left so_far.0, call_gives hs s bound before after reply (so_far.0 0 s (omega arith)) calls so_far.1)

-- the pass that a script hands back
back_gives : (hs : List Head) (s : ScriptView) (p : PassState) (b : Back) → All (StartsOne hs) s.steps → p.log ≡ [] → Acts s p b → GiveAll hs b.pass.log
back_gives hs s p b ones new acts = by (length p.args == s.parameters) refl
  where
    empty : GiveAll hs p.log
    empty = subst (GiveAll hs) (sym new) (give_none hs)

    by : (t : Bool) → (length p.args == s.parameters) ≡ t → GiveAll hs b.pass.log
    by true is = let run = acts.calls (grind (arith, nat_tests)) in (calls_give hs s.steps p run.left run.bound b.pass run.called ones empty).1
    by false is = subst (λ q. GiveAll hs q.log) (sym (acts.other_count (grind (arith, nat_tests))).0) empty

left_gives : (hs : List Head) (p : PassState) (l : LeftState) → HasLeft p l → GiveAll hs p.log → GiveAll hs l.log
left_gives hs p l left all = by (has_ended p) refl
  where
    by : (t : Bool) → has_ended p ≡ t → GiveAll hs l.log
    by true is = subst (GiveAll hs) (sym (left.ended is)) all
    by false is = let f = left.finished is in subst (GiveAll hs) (sym f.1) (added_gives hs p (with_own_entry p Op.Finish f.0) Op.Finish f.0 refl tt all)

-- what the worker of a run left
pub worker_gives : (hs : List Head) (run : Run) (s : ScriptView) (l : LeftState) → All (StartsOne hs) s.steps → IsLeftBy Acts run s l → GiveAll hs l.log
worker_gives hs run s l ones (inl unstarted) = subst (GiveAll hs) (sym (ap (λ m. m.log) unstarted)) (give_none hs)
worker_gives hs run s l ones (inr w) = left_gives hs w.0.handed.pass l w.0.left (back_gives hs s w.0.given w.0.handed ones w.0.new w.0.outcome_of)
