-- Test cases that are taken one after the other.
use Rattle.std.{proofs.{Common.{ℕ, ◌≡◌, ◌∙◌, ◌++◌, ◌∷◌, Bool, true, false, List, [], refl, ap, sym, subst}, lemmas.List.append-nil}, specs.List.AllZip}
use Rattle.tc_exec.{proofs.Lemmas.Taking.done_none, specs.{Inside.AreDone, declared.test_case.Case.Case}}
use Rattle.tc_command.specs.declared.task.ExploreOptions.{ExploreOptions}
use Rattle.tc_step.specs.Prelude.{ScriptView}
use Rattle.tc_answer.specs.{Inside.IsCaseOf, Prelude.CaseView}
use Rattle.tc_program.specs.{Explore.{IsExplored, TellsLocals}, Inside.{IsExploredOf, TellsLocalsIf}, declared.explore.ExploredCase.ExploredCase}

-- at first none is done
pub done_start : {A B : Type 0} (R : A → B → Type 0) (all left : List A) (ys : List B) → left ≡ all → ys ≡ [] → AreDone R all left ys
done_start R all left ys same none = subst (λ l. AreDone R all left l) (sym none) (done_none R all left same)

-- if none is left, all are done
pub done_all : {A B : Type 0} (R : A → B → Type 0) (all left : List A) (ys : List B) → AreDone R all left ys → left ≡ [] → AllZip R all ys
done_all R all left ys are none =
    subst (λ l. AllZip R l ys) (sym (are.prefix ∙ (ap (λ l. are.done ++ l) none ∙ append-nil are.done))) are.each

-- each test case of a script was explored, if each that was made of one was
pub explored_each : (o : ExploreOptions) (cs : List CaseView) (ks : List (Case ScriptView)) (es : List ExploredCase) → AllZip IsCaseOf cs ks
    → AllZip (IsExploredOf o) ks es → AllZip (IsExplored o) cs es
explored_each o [] [] [] each are = tt
explored_each o [] [] (e ∷ es) each are = absurd are
explored_each o [] (k ∷ ks) es each are = absurd each
explored_each o (c ∷ cs) [] es each are = absurd each
explored_each o (c ∷ cs) (k ∷ ks) [] each are = absurd are
explored_each o (c ∷ cs) (k ∷ ks) (e ∷ es) each are = (are.0 c each.0, explored_each o cs ks es each.1 are.1)

-- local verdicts that are asked for, or not
pub not_asked : (asked : Bool) (states : ℕ) (scripts : List ScriptView) (a : List ℕ) → asked ≡ false → TellsLocalsIf asked states scripts a a
not_asked false states scripts a h = refl
not_asked true states scripts a h = absurd cc

pub asked : (asks : Bool) (states : ℕ) (scripts : List ScriptView) (a b : List ℕ) → asks ≡ true → TellsLocals states scripts a b → TellsLocalsIf asks states scripts a b
asked true states scripts a b h t = t
asked false states scripts a b h t = absurd cc

pub ruleset asked_rules = (not_asked, asked)
