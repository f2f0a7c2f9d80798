-- The pass as the steps of a script are called.
use Rattle.std.proofs.{Common.{ℕ, suc, ◌≡◌, ◌∙◌, ◌+◌, ◌<◌, inl, inr, ◌++◌, ◌==◌, Bool, false, true, refl, List, [], ◌∷◌, length, drop, get_or, drop-cons, arith, sym, ap, subst, append_assoc}, lemmas.{Bool.{Decides.nat_tests, false≢true}, List.append-nil}}
use Rattle.tc_rules.specs.Prelude.{Comp, Entry, Reply, Op}
use Rattle.tc_step.specs.{declared.step.Step.Step, Prelude.{operation, target, ScriptView}}
use Rattle.tc_book.specs.Prelude.{PassState, has_ended, entry_of}
use Rattle.tc_exec.specs.declared.job.{Back.Back, Ending.Ending}
use Rattle.tc_script.specs.{Calls.{Acts, Calls, HasCalled, HasCalled.{none, one_more}, HasRun, ending}, Inside.{HasGrown, IsStepped}}

abbrev with_log : PassState → List Entry → PassState
with_log p log = record p { log = log }

grown_more : (p q z : PassState) → HasGrown p q → HasGrown q z → HasGrown p z
grown_more p q z one two =
    (one.0 ++ two.0, two.1 ∙ ap (λ x. with_log x (x.log ++ two.0)) one.1 ∙ ap (with_log p) (append_assoc p.log one.0 two.0))

calls_grow : (s : Step) (bound : List Comp) (p q : PassState) (r : Reply) → Calls bound s p q r → HasGrown p q
calls_grow (Step.Create alive name) bound p q r is = (entry_of p.run (Op.Create alive name) r ∷ [], is)
calls_grow (Step.Wait killed t) bound p q r (inl is, awake) = (entry_of p.run (Op.Wait killed (target p.me bound t)) r ∷ [], is)
calls_grow (Step.Wait killed t) bound p q r (inr is, awake) =
    let wait = entry_of p.run (Op.Wait killed (target p.me bound t)) Reply.Parked in
    let wake = entry_of p.run (Op.Wake killed (target p.me bound t)) r in
    (wait ∷ wake ∷ [], is ∙ ap (with_log p) (append_assoc p.log (wait ∷ []) (wake ∷ [])))
calls_grow (Step.SetVerdict v) bound p q r is = (entry_of p.run (Op.SetVerdict v) r ∷ [], is)
calls_grow Step.StopCase bound p q r is = (entry_of p.run Op.StopCase r ∷ [], is)
calls_grow Step.GetVerdict bound p q r is = (entry_of p.run Op.GetVerdict r ∷ [], is)
calls_grow step bound p q r is = (entry_of p.run (operation p.me bound step) r ∷ [], is)

grown_none : (p : PassState) → HasGrown p p
grown_none p = ([], ap (with_log p) (sym (append-nil p.log)))

grown : (steps : List Step) (start : PassState) (left : List Step) (bound : List Comp) (now : PassState) → HasCalled steps start left bound now → HasGrown start now
grown steps start _ _ _ none = grown_none start
grown steps start _ _ _ (one_more s left bound before after reply called on calls) =
    grown_more start before after (grown steps start (s ∷ left) bound before called) (calls_grow s bound before after reply calls)

pub run_grown : (steps : List Step) (start now : PassState) (how : _) → HasRun steps start now how → HasGrown start now
run_grown steps start now how run = grown steps start run.left run.bound now run.called

-- whatever a script hands back, the log of the pass has grown
pub acts_grown : (s : ScriptView) (p : PassState) (b : Back) → Acts s p b → HasGrown p b.pass
acts_grown s p b acts = by (length p.args == s.parameters) refl
  where
    by : (t : Bool) → (length p.args == s.parameters) ≡ t → HasGrown p b.pass
    by true as_many = run_grown s.steps p b.pass b.ending (acts.calls (grind (arith, nat_tests, as_many)))
    by false other = subst (HasGrown p) (sym (acts.other_count (λ same. let is : (length p.args == s.parameters) ≡ true = grind (arith, nat_tests, same) in false≢true (sym other ∙ is))).0) (grown_none p)

pub step_at : (steps : List Step) (i : ℕ) (d : Step) → i < length steps → drop i steps ≡ get_or steps i d ∷ drop (i + 1) steps
step_at steps i d lt = let e : i + 1 ≡ suc i = omega arith in rw e (drop-cons steps i d lt)

pub none_are : (steps : List Step) → length steps ≡ 0 → steps ≡ []
none_are [] e = refl
none_are (s ∷ steps) e = absurd (omega (arith, e))

pub starved : (steps : List Step) → (length steps == 0) ≡ false → ending false steps ≡ Ending.Starved
starved [] e = absurd cc
starved (s ∷ steps) e = refl

pub called_none : (steps items : List Step) (start : PassState) (bound : List Comp) → items ≡ steps → bound ≡ start.args → HasCalled steps start items bound start
called_none steps items start bound are is = rw (are, is) none

pub called_more : (steps : List Step) (start : PassState) (now left : List Step) (s : Step) (bound bound-new : List Comp) (mid new : PassState) (r : Reply)
    → HasCalled steps start now bound mid → now ≡ s ∷ left → has_ended mid ≡ false → IsStepped s bound mid bound-new new r → HasCalled steps start left bound-new new
called_more steps start now left s bound bound-new mid new r so at on did =
    let called : HasCalled steps start (s ∷ left) bound mid = subst (λ l. HasCalled steps start l bound mid) at so in
    subst (λ b. HasCalled steps start left b new) (sym did.binds) (one_more s left bound mid new r called on did.called)
