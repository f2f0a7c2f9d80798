-- What is made of a start, and of the behaviours of a test case, when the runs of the starts are set.
use Rattle.std.{proofs.Common.{ℕ, suc, ◌≡◌, ◌∙◌, Bool, true, false, Option, Some, None, List, [], ◌∷◌, ◌++◌, length, map, All, refl, sym, ap, subst, arith}, specs.{Prelude.{◌||◌, if◌then◌else◌}, List.list_any, Option.option_map}}
use Rattle.tc_step.specs.{declared.{place.Place.Place, step.Step.Step}, Prelude.ScriptView}
use Rattle.tc_reader.specs.{Campaign.{CampaignView, behaviours, place, step_of, steps}, Inside.{MadeView, MakeScripts, MakesScript, all_filled, behaviour_ended, case_ended, filled, finished, if_bound, left_of, started_of, step_if_bound, with_last}, Names.{Word, add, all_of, index_of}, Scope.Head, SecondPass.is_unbound, declared.{line.{Call.Call, Line.Line}, made.Start.Start}}

pub start_made : (ns : List Word) (call : Call) (on : Place Word) (b : Word) (args : List (Place Word)) (p : Place ℕ) (ps : List (Place ℕ)) → call ≡ Call.Start on b args
    → (if is_unbound ns on then None else Some (place ns on)) ≡ Some p → if_bound ns args (map (place ns) args) ≡ Some ps → Some (Step.Start p (record { 0 = 0 }) ps) ≡ step_if_bound ns call
unfolding step_of index_of
start_made ns call on b args p ps at here all = rw at (by (is_unbound ns on) (list_any (is_unbound ns) args) here all)
  where
    by : (x y : Bool) → (if x then None else Some (place ns on)) ≡ Some p → (if y then None else Some (map (place ns) args)) ≡ Some ps
        → Some (Step.Start p (record { 0 = 0 }) ps) ≡ (if x || y then None else Some (Step.Start (place ns on) (record { 0 = 0 }) (map (place ns) args)))
    by true y e f = absurd cc
    by false true e f = absurd cc
    by false false e f = let one : place ns on ≡ p = cc in let two : map (place ns) args ≡ ps = cc in rw (one, two) refl

-- ---- steps and no start

filled_none : (hs : List Head) (steps : List Step) → steps ≡ filled hs steps []
filled_none hs [] = refl
filled_none hs (Step.Start on run args ∷ steps) = ap (λ xs. Step.Start on run args ∷ xs) (filled_none hs steps)
filled_none hs (s ∷ steps) = ap (λ xs. s ∷ xs) (filled_none hs steps)

left_none : (steps : List Step) → [] ≡ left_of steps []
left_none [] = refl
left_none (Step.Start on run args ∷ steps) = left_none steps
left_none (s ∷ steps) = left_none steps

no_start : (starts : List Start) → length starts ≡ 0 → started_of starts ≡ []
no_start [] e = refl
no_start (s ∷ starts) e = absurd (omega (arith, e))

pub all_as_they_were : (hs : List Head) (steps : List Step) (starts : List Start) → length starts ≡ 0 → steps ≡ filled hs steps (started_of starts)
all_as_they_were hs steps starts e = rw (no_start starts e) (filled_none hs steps)

pub none_left_over : (steps : List Step) (starts : List Start) → length starts ≡ 0 → started_of starts ≡ left_of steps (started_of starts)
none_left_over steps starts e = rw (no_start starts e) (left_none steps)

-- ---- the end of a test case

-- the behaviours after the first
pub others_make : (ds others : List (Word × ScriptView)) (d : Word × ScriptView) → ds ≡ d ∷ others → All MakesScript ds → All MakesScript others
others_make ds others d at are = let all = subst (λ (bs : List (Word × ScriptView)). All MakesScript bs) at are in λ i e lt. all (suc i) e (omega (arith, lt))

pub made_scripts : (hs : List Head) (ns : List Word) (m after : MadeView) (n : Word) (scripts : List (Word × ScriptView)) → after ≡ behaviour_ended m → after.case ≡ Some n
    → scripts ≡ all_filled hs after.drafts ns → MakeScripts m.case (finished hs ns m) → All MakesScript scripts
made_scripts hs ns m after n scripts same named made makes =
    let name : m.case ≡ Some n = sym (ap (λ (v : MadeView). v.case) same) ∙ named in
    let all : scripts ≡ finished hs ns m = made ∙ ap (λ (v : MadeView). all_filled hs v.drafts ns) same in
    subst (λ (bs : List (Word × ScriptView)). All MakesScript bs) (sym all) (subst (λ (o : Option Word). MakeScripts o (finished hs ns m)) name makes)

pub case_finished : (hs : List Head) (ns : List Word) (m after : MadeView) (n : Word) (scripts drafts : List (Word × ScriptView)) (done : CampaignView) (case : Option Word) → after ≡ behaviour_ended m
    → after.case ≡ Some n → scripts ≡ all_filled hs after.drafts ns → done ≡ after.done ++ (n, scripts) ∷ [] → case ≡ None → drafts ≡ []
    → ◌≡◌ {A = MadeView} (record { done = done; case = case; drafts = drafts; current = after.current }) (case_ended hs ns m)
case_finished hs ns m after n scripts drafts done case same named made longer none empty =
    let name : m.case ≡ Some n = sym (ap (λ (v : MadeView). v.case) same) ∙ named in
    let all : scripts ≡ finished hs ns m = made ∙ ap (λ (v : MadeView). all_filled hs v.drafts ns) same in
    let whole : done ≡ with_last m.done (option_map (λ k. (k, finished hs ns m)) m.case) =
    longer ∙ ap (λ (v : MadeView). v.done ++ (n, scripts) ∷ []) same ∙ ap (λ ss. m.done ++ (n, ss) ∷ []) all
    ∙ sym (ap (λ o. with_last m.done (option_map (λ k. (k, finished hs ns m)) o)) name) in
    let last : after.current ≡ None = ap (λ (v : MadeView). v.current) same in
    rw (whole, none, empty, last) refl

-- the behaviours that the steps at the head of these lines start
abbrev pub called_in : List Line → List Word
called_in (Line.Step (Call.Start on b args) ∷ rest) = b ∷ called_in rest
called_in (Line.Step call ∷ rest) = called_in rest
called_in (Line.Skipped ∷ rest) = called_in rest
called_in _ = []

-- the behaviours that those of a test case start
abbrev pub called : List Line → List Word
called [] = []
called (Line.TestCase n ∷ rest) = []
called (Line.Behaviour n ps ∷ rest) = called_in rest ++ called rest
called (_ ∷ rest) = called rest

-- the steps of a behaviour, and the names that are left for the others
abbrev Fills : List Head → List Word → List Word → List Line → Type 0
Fills hs ns more ls = (filled hs (steps [] ns ls) (called_in ls ++ more) ≡ steps hs ns ls) × (left_of (steps [] ns ls) (called_in ls ++ more) ≡ more)

one_more : {A : Type 0} (s : Step) (xs ys : List Step) {a b : A} → (xs ≡ ys) × (a ≡ b) → (s ∷ xs ≡ s ∷ ys) × (a ≡ b)
one_more s xs ys two = (ap (λ zs. s ∷ zs) two.0, two.1)

fills : (hs : List Head) (ns more : List Word) (ls : List Line) → Fills hs ns more ls
unfolding step_of
fills hs ns more [] = (refl, refl)
fills hs ns more (Line.Skipped ∷ rest) = fills hs ns more rest
fills hs ns more (Line.Step (Call.Create n alive given_name) ∷ rest) = one_more (step_of hs ns (Call.Create n alive given_name)) _ _ (fills hs (add n ns) more rest)
fills hs ns more (Line.Step call ∷ rest) = one_more (step_of hs ns call) _ _ (fills hs ns more rest)
fills hs ns more (_ ∷ rest) = (refl, refl)

pub all_fill : (hs : List Head) (ls : List Line) → all_filled hs (behaviours [] ls) (called ls) ≡ behaviours hs ls
all_fill hs [] = refl
all_fill hs (Line.TestCase n ∷ rest) = refl
all_fill hs (Line.Behaviour n ps ∷ rest) =
    let two = fills hs (all_of [] ps) (called rest) rest in
    ap (λ xs. (n, record { parameters = length ps; steps = xs }) ∷ all_filled hs (behaviours [] rest) (left_of (steps [] (all_of [] ps) rest) (called_in rest ++ called rest))) two.0
    ∙ ap (λ ms. (n, record { parameters = length ps; steps = steps hs (all_of [] ps) rest }) ∷ all_filled hs (behaviours [] rest) ms) two.1
    ∙ ap (λ bs. (n, record { parameters = length ps; steps = steps hs (all_of [] ps) rest }) ∷ bs) (all_fill hs rest)
all_fill hs (_ ∷ rest) = all_fill hs rest
