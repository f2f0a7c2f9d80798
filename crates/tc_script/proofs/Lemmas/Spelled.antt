-- In a test case that a text spells each run is started with as many arguments as its behaviour has parameters, so each script makes the
-- calls of its steps.
use Rattle.std.{proofs.{Common.{ℕ, zero, suc, ◌≡◌, ◌∙◌, ◌<◌, ◌==◌, if◌then◌else◌, inl, inr, Bool, true, false, Option, Some, None, List, [], ◌∷◌, All, length, map, get_or, reverse, refl, sym, ap, subst, arith}, lemmas.{Bool.Decides.nat_tests, List.{Elements.{All-append, All-cons, All-get_or, All-nil, All-tail}, get_or-map, length-map, reverse-append}, Option.{slice_get-get_or, slice_get-map}}}, specs.{Prelude.{slice_get, IfSome}, Option.option_map}}
use Rattle.tc_rules.specs.{Prelude.{Run, Comp, Entry, Op, Reply, is_ok, comp_of, first_some, answer, IsLegal, part, IsOneHistory}, declared.closed.Closed.Closed}
use Rattle.tc_step.specs.Prelude.{ScriptView}
use Rattle.tc_reader.specs.Prelude.{Word, Head, signatures, StartsOne, IsCase}
use Rattle.tc_book.{specs.Prelude.{IsFitting, LeftState, start_of, started_with}, proofs.Lemmas.{PartOf.comp_is, Starting.starts_below}}
use Rattle.tc_exec.{specs.Prelude.{AreCalled, IsMadeOf, WasCalled, IsLeftBy}, proofs.Lemmas.Calls.{all_called, unstarted_comp}}
use Rattle.tc_script.{specs.Calls.{Acts, MakesItsCalls}, proofs.{Giving.{GiveAll, GivesAll, worker_gives}, Lemmas.Running.acts_grown}}

-- ---- a history and its starts

-- how many parameters the behaviour of run b has, as a start of this run gives them
abbrev HasAsMany : List Head → ℕ → List Comp → Type 0
HasAsMany hs b args = option_map (λ h. h.1) (slice_get hs b) ≡ Some (length args)

no_start : (t : Bool) (s : Comp × List Comp) → (if t then None else None) ≡ Some s → ⊥
no_start true s is = absurd cc
no_start false s is = absurd cc

entry_gives : (hs : List Head) (op : Op) (r : Reply) (b : ℕ) (s : Comp × List Comp) → GivesAll hs op → started_with op r b ≡ Some s → HasAsMany hs b s.1
entry_gives hs (Op.Start c run args) r b s gives is = by (is_ok r) (run.0 == b) refl is
  where
    by : (t u : Bool) → (run.0 == b) ≡ u → (if t then (if u then Some (let x : Comp × List Comp = (c, args) in x) else None) else None) ≡ Some s → HasAsMany hs b s.1
    by true true k found =
        let q : run.0 ≡ b = grind (arith, nat_tests) in
        let long : Some (length args) ≡ Some (length s.1) = ap (option_map (λ x. length x.1)) found in
        subst (λ n. HasAsMany hs n s.1) q (gives ∙ long)
    by true false k found = absurd cc
    by false u k found = absurd cc
entry_gives hs _ r b s gives is = absurd (no_start (is_ok r) s is)

start_gives : (hs : List Head) (past : List Entry) (b : ℕ) (s : Comp × List Comp) → GiveAll hs past → start_of past b ≡ Some s → HasAsMany hs b s.1
start_gives hs [] b s all is = absurd cc
start_gives hs (e ∷ past) b s all is = by (start_of past b) (start_gives hs past b s (All-tail (λ e. GivesAll hs e.op) e past all)) is
  where
    by : (o : Option (Comp × List Comp)) → (o ≡ Some s → HasAsMany hs b s.1) → first_some o (started_with e.op e.reply b) ≡ Some s → HasAsMany hs b s.1
    by (Some x) before found = before found
    by None before found = entry_gives hs e.op e.reply b s (all 0 e (omega arith)) found

entry_below : (n : ℕ) (past : List Entry) (caller : Run) (op : Op) (r : Reply) (b : ℕ) (s : Comp × List Comp) → r ≡ answer n past caller.0 op → started_with op r b ≡ Some s → b < n
entry_below n past caller (Op.Start c run args) Reply.Ok b s legal is = by (run.0 == b) refl is
  where
    low : run.0 < n
    low = starts_below n n past caller (Op.Start c run args) Reply.Ok legal refl

    by : (u : Bool) → (run.0 == b) ≡ u → (if u then Some (let x : Comp × List Comp = (c, args) in x) else None) ≡ Some s → b < n
    by true k found = let q : run.0 ≡ b = grind (arith, nat_tests) in omega (arith, q, low)
    by false k found = absurd cc
entry_below n past caller (Op.Start c run args) _ b s legal is = absurd cc
entry_below n past caller _ r b s legal is = absurd (no_start (is_ok r) s is)

-- the run of a Start replied Ok is one of the behaviours
start_below : (n : ℕ) (past : List Entry) (b : ℕ) (s : Comp × List Comp) → IsLegal n past → start_of past b ≡ Some s → b < n
start_below n [] b s legal is = absurd cc
start_below n (e ∷ past) b s legal is = by (start_of past b) (start_below n past b s legal.1) is
  where
    by : (o : Option (Comp × List Comp)) → (o ≡ Some s → b < n) → first_some o (started_with e.op e.reply b) ≡ Some s → b < n
    by (Some x) before found = before found
    by None before found = entry_below n past e.caller e.op e.reply b s legal.0 found

-- ---- a history and its parts

-- what holds of a run's part holds of each entry of the run
in_part : (P : Entry → Type 0) (h : List Entry) (b k : ℕ) (d : Entry) → All P (part h b) → k < length h → (get_or h k d).caller.0 ≡ b → P (get_or h k d)
unfolding part
in_part P [] b k d all below is = absurd (omega arith)
in_part P (e ∷ h) b zero d all below is = by (e.caller.0 == b) (grind (arith, nat_tests)) all
  where
    by : (t : Bool) → t ≡ true → All P (if t then e ∷ part h b else part h b) → P e
    by true k found = found 0 e (omega arith)
    by false k found = absurd cc
in_part P (e ∷ h) b (suc k) d all below is = in_part P h b k d (by (e.caller.0 == b) all) (omega arith) is
  where
    by : (t : Bool) → All P (if t then e ∷ part h b else part h b) → All P (part h b)
    by true found = All-tail P e (part h b) found
    by false found = found

reversed : {A : Type 0} (P : A → Type 0) (xs : List A) → All P xs → All P (reverse xs)
reversed P [] all = all
reversed P (x ∷ xs) all =
    subst (All P) (sym (reverse-append (x ∷ []) xs))
    (All-append P (reverse xs) (x ∷ []) (reversed P xs (All-tail P x xs all)) (All-cons P x [] (all 0 x (omega arith)) (All-nil P)))

-- the caller is one of the behaviours
caller_below : (c : Closed) (k : ℕ) (d : Entry) (b : ℕ) → IsOneHistory c → 0 < c.behaviours → k < length c.history → (get_or c.history k d).caller.0 ≡ b → b < c.behaviours
caller_below c k d zero one some below is = some
caller_below c k d (suc b) one some below is = by (start_of (reverse c.history) (suc b)) refl
  where
    by : (o : Option (Comp × List Comp)) → start_of (reverse c.history) (suc b) ≡ o → suc b < c.behaviours
    by (Some s) found = start_below c.behaviours (reverse c.history) (suc b) s one.legal found
    by None found =
        let none : comp_of (reverse c.history) (suc b) ≡ None = comp_is (reverse c.history) (suc b) ∙ (rw found (unstarted_comp Acts (suc b) (omega arith))) in
        let empty : All (λ _. ⊥) (part c.history (suc b)) = subst (All (λ _. ⊥)) (sym (one.no_others (suc b) none)) (All-nil (λ _. ⊥)) in
        absurd (in_part (λ _. ⊥) c.history (suc b) k d empty below is)

-- ---- what the workers left

-- the run of what a worker left
own_run : (run : Run) (s : ScriptView) (l : LeftState) → IsLeftBy Acts run s l → l.run ≡ run
own_run run s l (inl none) = ap (λ m. m.run) none
own_run run s l (inr w) = w.0.left.run ∙ ap (λ q. q.run) (acts_grown s _ _ w.0.outcome_of).1 ∙ w.0.own

-- with these arguments a started run was called
called_with : (history : List Entry) (run : Run) (s : ScriptView) (l : LeftState) (w : WasCalled (Acts s) run l) → IsFitting history l → 0 < run.0
    → start_of (reverse history) run.0 ≡ Some (w.given.me, w.given.args)
called_with history run s l w fits above =
    let same : l.run ≡ run = w.left.run ∙ ap (λ q. q.run) (acts_grown s _ _ w.outcome_of).1 ∙ w.own in
    let known : l.started ≡ start_of (reverse history) l.run.0 = fits.started (rw same above) in
    ap (λ r. start_of (reverse history) r.0) (sym same) ∙ sym known ∙ w.left.started ∙ ap (λ q. Some (q.me, q.args)) (acts_grown s _ _ w.outcome_of).1

no_script : Word × ScriptView
no_script = ([], record { parameters = 0; steps = [] })

nothing_left : LeftState
nothing_left = record { run = record { 0 = 0 }; log = []; started = None }

-- ---- a test case that a text spells

module _ (scripts : List (Word × ScriptView)) (c : Closed) (lawful : IsCase scripts) (one : IsOneHistory c) (count : c.behaviours ≡ length scripts)
    (made : IsMadeOf Acts (map (λ b. b.1) scripts) c) where
  abbrev jobs : List ScriptView
  jobs = map (λ b. b.1) scripts

  abbrev heads : List Head
  heads = signatures scripts

  -- the script of a run
  abbrev script : ℕ → ScriptView
  script k = (get_or scripts k no_script).1

  job_at : (k : ℕ) (b : ScriptView) → k < length scripts → get_or jobs k b ≡ script k
  job_at k b below = get_or-map (λ b. b.1) scripts k no_script b below

  as_many_jobs : length jobs ≡ length scripts
  as_many_jobs = length-map scripts (λ b. b.1)

  -- what the worker of run k left
  worker : (k : ℕ) (l : LeftState) → k < length scripts → IsLeftBy Acts (record { 0 = k }) (script k) (get_or made.handed.lefts k l) × IsFitting c.history (get_or made.handed.lefts k l)
  worker k l below =
      let b : ScriptView = no_script.1 in
      let low : k < length jobs = omega (arith, below, as_many_jobs) in (
        subst (λ s. IsLeftBy Acts (record { 0 = k }) s (get_or made.handed.lefts k l)) (job_at k b below) (made.handed.left k b l low),
        All-get_or (IsFitting c.history) made.handed.lefts k l (omega (arith, low, made.handed.as_many)) made.whole.fitting,
      )

  log_gives : (k : ℕ) → k < length scripts → GiveAll heads (part c.history k)
  log_gives k below =
      let l = nothing_left in
      let w = worker k l below in
      let ones : All (StartsOne heads) (script k).steps = All-get_or (λ b. All (StartsOne heads) b.1.steps) scripts k no_script below lawful.starts in
      let same : (get_or made.handed.lefts k l).run ≡ record { 0 = k } = own_run (record { 0 = k }) (script k) (get_or made.handed.lefts k l) w.0 in
      subst (GiveAll heads) (w.1.part ∙ ap (λ r. part c.history r.0) same) (worker_gives heads (record { 0 = k }) (script k) (get_or made.handed.lefts k l) ones w.0)

  history_gives : 0 < length scripts → GiveAll heads c.history
  history_gives some = λ k d below.
      let b : ℕ = (get_or c.history k d).caller.0 in
      let low : b < c.behaviours = caller_below c k d b one (omega (arith, count, some)) below refl in
      in_part (λ e. GivesAll heads e.op) c.history b k d (log_gives b (omega (arith, low, count))) below refl

  parameters_at : (k : ℕ) → k < length scripts → option_map (λ h. h.1) (slice_get heads k) ≡ Some (script k).parameters
  parameters_at k below =
      let head_of : Word × ScriptView → Head = λ b. (b.0, b.1.parameters) in
      ap (option_map (λ h. h.1)) (slice_get-map head_of scripts k ∙ ap (option_map head_of) (slice_get-get_or scripts k no_script below))

  has_as_many : (k : ℕ) (args : List Comp) → k < length scripts → HasAsMany heads k args → length args ≡ (script k).parameters
  has_as_many k args below gives =
      let same : Some (script k).parameters ≡ Some (length args) = sym (parameters_at k below) ∙ gives in
      let long : length args ≡ (script k).parameters = cc in
      long

  main_has_none : 0 < length scripts → (script 0).parameters ≡ 0
  main_has_none some = subst (λ o. IfSome o (λ b. b.1.parameters ≡ 0)) (slice_get-get_or scripts 0 no_script some) lawful.main

  -- each behaviour was called with as many arguments as it has parameters
  as_many : (k : ℕ) (l : LeftState) → k < length scripts → (w : WasCalled (Acts (script k)) (record { 0 = k }) (get_or made.handed.lefts k l))
      → length w.given.args ≡ (script k).parameters
  as_many zero l below w = ap (λ p. length p.args) (w.main refl) ∙ sym (main_has_none below)
  as_many (suc k) l below w =
      let some : 0 < length scripts = omega (arith, below) in
      let started = called_with c.history (record { 0 = suc k }) (script (suc k)) (get_or made.handed.lefts (suc k) l) w (worker (suc k) l below).1 (omega arith) in
      let past : GiveAll heads (reverse c.history) = reversed (λ e. GivesAll heads e.op) c.history (history_gives some) in
      has_as_many (suc k) w.given.args below (start_gives heads (reverse c.history) (suc k) (w.given.me, w.given.args) past started)

  made_its_calls : (k : ℕ) (l : LeftState) → k < length scripts → IsLeftBy MakesItsCalls (record { 0 = k }) (script k) (get_or made.handed.lefts k l)
  made_its_calls k l below = by (worker k l below).0
    where
      by : IsLeftBy Acts (record { 0 = k }) (script k) (get_or made.handed.lefts k l) → IsLeftBy MakesItsCalls (record { 0 = k }) (script k) (get_or made.handed.lefts k l)
      by (inl none) = inl none
      by (inr w) =
          let many = as_many k l below w.0 in
          let outcome : MakesItsCalls (script k) w.0.given w.0.handed = record { as_many = many; calls = w.0.outcome_of.calls many } in
          inr (record { given = w.0.given; handed = w.0.handed; own = w.0.own; new = w.0.new; main = w.0.main; outcome_of = outcome; left = w.0.left }, w.1)

  -- the report is made of the calls of the scripts
  pub made_of_calls : IsMadeOf MakesItsCalls jobs c
  made_of_calls = record {
    handed = record {
      lefts = made.handed.lefts;
      as_many = made.handed.as_many;
      left = λ k b l below.
          let low : k < length scripts = omega (arith, below, as_many_jobs) in
          subst (λ s. IsLeftBy MakesItsCalls (record { 0 = k }) s (get_or made.handed.lefts k l)) (sym (job_at k b low)) (made_its_calls k l low);
      main = made.handed.main;
    };
    whole = made.whole;
  }

  pub are_called : AreCalled MakesItsCalls jobs c
  are_called = all_called MakesItsCalls c jobs made_of_calls
