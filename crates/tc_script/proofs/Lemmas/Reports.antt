-- The history of a report of scripts is a complete course of them.
use Rattle.std.{proofs.{Common.{ℕ, ◌≡◌, ◌∙◌, ◌≢◌, ◌<◌, ◌≤◌, ◌==◌, ◌&&◌, ◌++◌, if◌then◌else◌, Bool, true, false, Option, Some, None, is_some, List, [], ◌∷◌, length, reverse, get_or, filter, cond, option_map, refl, sym, ap, subst, arith, append_assoc}, lemmas.{Bool.Decides.nat_tests, List.{Elements.filter-append, append-nil, reverse-append, reverse-reverse}, Option.slice_get-get_or}}, specs.Option.option_map_or}
use Rattle.tc_rules.{specs.{Prelude.{Comp, Entry, Op, is_ok, comp_of, first_some, starts_run, IsLegal, part, is_by, start as started_by}, declared.closed.Closed.Closed}, proofs.Lemmas.{Deciding.{equal_if, self_equal}, Differing.later_legal}}
use Rattle.tc_step.specs.{declared.step.Step.Step, Prelude.ScriptView}
use Rattle.tc_book.{specs.Prelude.{all_started, PassState, LeftState, started_with, start_of, starts_with}, proofs.Lemmas.PartOf.{comp_is, part_end}}
use Rattle.tc_exec.{specs.{declared.job.Back.Back, Prelude.{IsCaseReport, IsMadeOf, IsLogBy, opening_pass}}, proofs.Lemmas.Logs.log_of_run}
use Rattle.tc_course.{specs.{declared.witness.Witness.Witness, Prelude.{AllFound, CourseState, after_own, after_other_by, stand, steps_of, turn, turn_on, IsTurn, IsCourse, IsWitness, is_found}}, proofs.Lemmas.{run_in_range, stand_other, stand_own, unstarted}}
use Rattle.tc_script.{specs.{Calls.MakesItsCalls, Laws.IsReportOf}, proofs.{Lemmas.Running.run_grown, Logging.{AreTurns, IsLogOf, IsOwnTurn, after_all, after_append, after_comp, fresh, log_left, turn_at}}}

-- ---- what a run was started with

-- started on this component with these arguments, if on any
abbrev started : Option Comp → List Comp → CourseState → CourseState
started on args s = option_map_or (λ c. record s { comp = Some c; bound = args }) on s

-- run 0 is on the main component from the opening, without arguments
abbrev given_by : Bool → Option (Comp × List Comp) → Option (Comp × List Comp)
given_by true start = Some (record { 0 = 0 }, [])
given_by false start = start

-- the component and the arguments that run b was started with
abbrev given : List Entry → ℕ → Option (Comp × List Comp)
given past b = given_by (b == 0) (start_of past b)

given_more : (e : Entry) (past : List Entry) (b : ℕ) → given (e ∷ past) b ≡ first_some (given past b) (started_with e.op e.reply b)
given_more e past b = by (b == 0)
  where
    by : (t : Bool) → given_by t (first_some (start_of past b) (started_with e.op e.reply b)) ≡ first_some (given_by t (start_of past b)) (started_with e.op e.reply b)
    by true = refl
    by false = refl

given_comp : (past : List Entry) (b : ℕ) → comp_of past b ≡ option_map (λ s. s.0) (given past b)
given_comp past b = comp_is past b ∙ by (b == 0) (start_of past b)
  where
    by : (t : Bool) (start : Option (Comp × List Comp)) → (if t then Some (let z : Comp = record { 0 = 0 } in z) else option_map (λ s. s.0) start) ≡ option_map (λ s. s.0) (given_by t start)
    by true start = refl
    by false start = refl

given_later : (later past : List Entry) (b : ℕ) (w : Comp × List Comp) → given past b ≡ Some w → given (later ++ past) b ≡ Some w
given_later [] past b w is = is
given_later (e ∷ later) past b w is = given_more e (later ++ past) b ∙ ap (λ o. first_some o (started_with e.op e.reply b)) (given_later later past b w is)

-- ---- what is known of a run

-- by what a run was started with: it has no entry, or what is known of it is what its own entries say
abbrev IsKnown : Option (Comp × List Comp) → List Entry → CourseState → Type 0
IsKnown None log s = (log ≡ []) × (s ≡ unstarted)
IsKnown (Some w) log s = s ≡ after_all (fresh w.0 w.1) log

-- the arguments with which an operation starts a run, if it starts one
abbrev given_in : Op → List Comp
given_in op = option_map_or (λ t. t.2) (started_by op) []

begun_by : (ok : Bool) (op : Op) (b : ℕ) (log : List Entry) → log ≡ [] → IsKnown (if ok then starts_with op b else None) log (started (if ok then starts_run op b else None) (given_in op) unstarted)
begun_by false op b log none = (none, refl)
begun_by true (Op.Start c run args) b log none = by (run.0 == b)
  where
    by : (t : Bool) → IsKnown (if t then Some (c, args) else None) log (started (if t then Some c else None) args unstarted)
    by true = rw none refl
    by false = (none, refl)
begun_by true _ b log none = (none, refl)

and_both : (a b : Bool) → (a && b) ≡ true → (a ≡ true) × (b ≡ true)
and_both true b h = (refl, h)
and_both false b h = absurd cc

known : (past : List Entry) (b : ℕ) → all_started past ≡ true → IsKnown (given past b) (part (reverse past) b) (stand past b)
unfolding part
known [] b all = by (b == 0)
  where
    by : (t : Bool) → IsKnown (given_by t None) [] (record { comp = if t then Some (record { 0 = 0 }) else None; bound = []; called = 0; left = false; wake = None })
    by true = refl
    by false = (refl, refl)
known (e ∷ past) b all =
    subst (λ o. IsKnown o (part (reverse (e ∷ past)) b) (stand (e ∷ past) b)) (sym (given_more e past b)) (step (e.caller.0 == b) refl (given past b) refl (known past b so.1) more)
  where
    so : (is_some (comp_of past e.caller.0) ≡ true) × (all_started past ≡ true)
    so = and_both (is_some (comp_of past e.caller.0)) (all_started past) all

    more : part (reverse (e ∷ past)) b ≡ part (reverse past) b ++ (if is_by b e then e ∷ [] else [])
    more = ap (λ l. part l b) (reverse-append (e ∷ []) past) ∙ part_end (reverse past) e b

    step : (t : Bool) → (e.caller.0 == b) ≡ t → (o : Option (Comp × List Comp)) → given past b ≡ o → IsKnown o (part (reverse past) b) (stand past b)
        → part (reverse (e ∷ past)) b ≡ part (reverse past) b ++ (if t then e ∷ [] else [])
        → IsKnown (first_some o (started_with e.op e.reply b)) (part (reverse (e ∷ past)) b) (stand (e ∷ past) b)
    step true own (Some w) is k m =
        stand_own past e b (equal_if e.caller.0 b own) ∙ (ap (after_own e) k ∙ (sym (after_append (fresh w.0 w.1) (part (reverse past) b) (e ∷ [])) ∙ ap (after_all (fresh w.0 w.1)) (sym m)))
    step true own None is k m =
        let none : comp_of past e.caller.0 ≡ None = ap (comp_of past) (equal_if e.caller.0 b own) ∙ (given_comp past b ∙ ap (option_map (λ s. s.0)) is) in
        let never : is_some (comp_of past e.caller.0) ≡ false = ap is_some none in
        let was : is_some (comp_of past e.caller.0) ≡ true = so.0 in
        absurd cc
    step false other (Some w) is k m =
        let on : (stand past b).comp ≡ Some w.0 = ap (λ (s : CourseState). s.comp) k ∙ after_comp (fresh w.0 w.1) (part (reverse past) b) in
        stand_other past e b w.0 other on ∙ (k ∙ ap (after_all (fresh w.0 w.1)) (sym (m ∙ append-nil (part (reverse past) b))))
    step false other None is k m =
        let same : stand (e ∷ past) b ≡ after_other_by (stand past b).comp e b (stand past b) = rw other refl in
        let begins : stand (e ∷ past) b ≡ started (if is_ok e.reply then starts_run e.op b else None) (given_in e.op) unstarted = same ∙ ap (λ (s : CourseState). after_other_by s.comp e b s) k.1 in
        let none : part (reverse (e ∷ past)) b ≡ [] = m ∙ ap (λ l. l ++ []) k.0 in
        subst (IsKnown (started_with e.op e.reply b) (part (reverse (e ∷ past)) b)) (sym begins) (begun_by (is_ok e.reply) e.op b (part (reverse (e ∷ past)) b) none)

-- ---- an earlier point of a history

started_before : (later past : List Entry) → all_started (later ++ past) ≡ true → all_started past ≡ true
started_before [] past h = h
started_before (e ∷ later) past h = started_before later past (and_both (is_some (comp_of (later ++ past) e.caller.0)) (all_started (later ++ past)) h).1

history_at : (history later : List Entry) (e : Entry) (past : List Entry) → reverse history ≡ later ++ e ∷ past → history ≡ reverse past ++ e ∷ reverse later
history_at history later e past at =
    sym (reverse-reverse history) ∙ (ap reverse at ∙ (reverse-append later (e ∷ past) ∙ (ap (λ l. l ++ reverse later) (reverse-append (e ∷ []) past) ∙ append_assoc (reverse past) (e ∷ []) (reverse later))))

-- the part of a run around an entry of its own
part_at : (before : List Entry) (e : Entry) (after : List Entry) → part (before ++ e ∷ after) e.caller.0 ≡ part before e.caller.0 ++ e ∷ part after e.caller.0
unfolding part
part_at before e after =
    filter-append (is_by e.caller.0) before (e ∷ after) ∙ ap (λ t. filter (is_by e.caller.0) before ++ cond t (e ∷ filter (is_by e.caller.0) after) (filter (is_by e.caller.0) after)) (self_equal e.caller.0)

no_more_turns : (steps : List Step) (s : CourseState) (o : Option Comp) → s.left ≡ true → turn_on o steps s ≡ None
no_more_turns steps s (Some me) left = rw left refl
no_more_turns steps s None left = refl

-- ---- a report

own : (s : ScriptView) (p : PassState) (k : Back) → MakesItsCalls s p k → k.pass.run ≡ p.run
own s p k is = ap (λ q. q.run) (run_grown s.steps p k.pass k.ending is.calls).1

some_job : (scripts : List ScriptView) (lefts : List LeftState) → length lefts ≡ length scripts → ((l : LeftState) → (get_or lefts 0 l).started ≢ None) → 1 ≤ length scripts
some_job [] [] many main = absurd (main (record { run = record { 0 = 0 }; log = []; started = None }) refl)
some_job [] (l ∷ lefts) many main = absurd (omega (arith, many))
some_job (s ∷ scripts) lefts many main = omega arith

some_same : {A : Type 0} (x y : A) → Some x ≡ Some y → x ≡ y
some_same x y h = cc

-- the pass that a script hands back is on the component and has the arguments of the start of its run
begun_with : (s : ScriptView) (history entries : List Entry) (b : ℕ) (comp : Comp) (w : Comp × List Comp) (log : IsLogBy (MakesItsCalls s) history (record { run = record { 0 = b }; comp = comp; entries = entries }))
    → given (reverse history) b ≡ Some w → (log.called.handed.pass.me, log.called.handed.pass.args) ≡ w
begun_with s history entries b comp w log start = by (b == 0) refl start
  where
    back : Back
    back = log.called.handed

    pair : PassState → Comp × List Comp
    pair p = (p.me, p.args)

    by : (t : Bool) → (b == 0) ≡ t → given_by t (start_of (reverse history) b) ≡ Some w → pair back.pass ≡ w
    by true zero is =
        ap pair (run_grown s.steps log.called.given back.pass back.ending log.called.outcome_of.calls).1
        ∙ (ap pair (log.called.main (equal_if b 0 zero)) ∙ some_same (pair opening_pass) w is)
    by false above is =
        some_same (pair back.pass) w (sym log.called.left.started ∙ (log.started (grind (arith, nat_tests)) ∙ is))

-- ---- the course of a report

module _ (scripts : List ScriptView) (c : Closed) (report : IsCaseReport (length scripts) c) (made : IsMadeOf MakesItsCalls scripts c) where
  abbrev whole : List Entry
  whole = reverse c.history

  all : all_started whole ≡ true
  all = made.whole.started

  empty : ScriptView
  empty = record { parameters = 0; steps = [] }

  steps_at : (b : ℕ) → b < length scripts → (get_or scripts b empty).steps ≡ steps_of scripts b
  steps_at b below = sym (ap (λ o. option_map_or (λ (s : ScriptView). s.steps) o []) (slice_get-get_or scripts b empty below))

  legal : IsLegal (length scripts) whole
  legal = subst (λ n. IsLegal n whole) report.behaviours report.one_history.legal

  some : 1 ≤ length scripts
  some = some_job scripts made.handed.lefts made.handed.as_many made.handed.main

  -- the log of a run that was started is that of its script, on the component and with the arguments of its start
  log_is : (b : ℕ) (w : Comp × List Comp) → b < length scripts → given whole b ≡ Some w → IsLogOf (steps_of scripts b) w.0 w.1 (part c.history b)
  log_is b w below start =
      let s : ScriptView = get_or scripts b empty in
      let on : comp_of whole b ≡ Some w.0 = given_comp whole b ∙ ap (option_map (λ s. s.0)) start in
      let log = log_of_run MakesItsCalls own c scripts made b empty w.0 below on in
      let called = log.called in
      let pass : PassState = called.handed.pass in
      let is : IsLogOf s.steps pass.me pass.args log.left.log = log_left s called.given called.handed log.left called.new called.outcome_of (sym log.returned) called.left in
      let same_start : (pass.me, pass.args) ≡ w = begun_with s c.history (part c.history b) b w.0 w log start in
      let same : IsLogOf s.steps w.0 w.1 log.left.log = subst (λ (x : Comp × List Comp). IsLogOf s.steps x.0 x.1 log.left.log) same_start is in
      subst (λ l. IsLogOf (steps_of scripts b) w.0 w.1 l) (sym log.entries) (subst (λ x. IsLogOf x w.0 w.1 log.left.log) (steps_at b below) same)

  -- what is known of it at the end of the history, and before each of its entries
  known_at : (b : ℕ) (w : Comp × List Comp) (past : List Entry) → given past b ≡ Some w → all_started past ≡ true → stand past b ≡ after_all (fresh w.0 w.1) (part (reverse past) b)
  known_at b w past start so = subst (λ o. IsKnown o (part (reverse past) b) (stand past b)) start (known past b so)

  own_turn : (later : List Entry) (e : Entry) (past : List Entry) (w : Comp × List Comp) → whole ≡ later ++ e ∷ past → given past e.caller.0 ≡ Some w → e.caller.0 < length scripts → all_started past ≡ true
      → IsOwnTurn (steps_of scripts e.caller.0) (stand past e.caller.0) e
  own_turn later e past w at start below so =
      let steps : List Step = steps_of scripts e.caller.0 in
      let at_end : given whole e.caller.0 ≡ Some w =
      ap (λ l. given l e.caller.0) (at ∙ sym (append_assoc later (e ∷ []) past)) ∙ given_later (later ++ e ∷ []) past e.caller.0 w start in
      let log = log_is e.caller.0 w below at_end in
      let parts : part c.history e.caller.0 ≡ part (reverse past) e.caller.0 ++ e ∷ part (reverse later) e.caller.0 =
      ap (λ h. part h e.caller.0) (history_at c.history later e past at) ∙ part_at (reverse past) e (reverse later) in
      let turns : AreTurns steps (fresh w.0 w.1) (part (reverse past) e.caller.0 ++ e ∷ part (reverse later) e.caller.0) = subst (AreTurns steps (fresh w.0 w.1)) parts log.turns in
      let turn : IsOwnTurn steps (after_all (fresh w.0 w.1) (part (reverse past) e.caller.0)) e =
      turn_at steps (fresh w.0 w.1) (part (reverse past) e.caller.0) e (part (reverse later) e.caller.0) turns in
      subst (λ st. IsOwnTurn steps st e) (sym (known_at e.caller.0 w past start so)) turn

  turn_is : (later : List Entry) (e : Entry) (past : List Entry) → whole ≡ later ++ e ∷ past → IsTurn scripts past e
  unfolding turn
  turn_is later e past at =
      let so = and_both (is_some (comp_of past e.caller.0)) (all_started past) (started_before later (e ∷ past) (subst (λ l. all_started l ≡ true) at all)) in
      by (given past e.caller.0) refl so.0 so.1
    where
      right : IsLegal (length scripts) (e ∷ past)
      right = later_legal (length scripts) later (e ∷ past) (subst (IsLegal (length scripts)) at legal)

      by : (o : Option (Comp × List Comp)) → given past e.caller.0 ≡ o → is_some (comp_of past e.caller.0) ≡ true → all_started past ≡ true → IsTurn scripts past e
      by None is on so =
          let none : comp_of past e.caller.0 ≡ None = given_comp past e.caller.0 ∙ ap (option_map (λ s. s.0)) is in
          let never : is_some (comp_of past e.caller.0) ≡ false = ap is_some none in
          absurd cc
      by (Some w) is on so =
          let comp : comp_of past e.caller.0 ≡ Some w.0 = given_comp past e.caller.0 ∙ ap (option_map (λ s. s.0)) is in
          let below : e.caller.0 < length scripts = run_in_range (length scripts) past e.caller.0 w.0 some right.1 comp in
          let turn-own = own_turn later e past w at is below so in
          record { turn = turn-own.turn; reply = right.0; not_idle = turn-own.not_idle }

  course : (later past : List Entry) → whole ≡ later ++ past → IsCourse scripts past
  course later [] at = tt
  course later (e ∷ past) at = (turn_is later e past at, course (later ++ e ∷ []) past (at ∙ sym (append_assoc later (e ∷ []) past)))

  complete : (b : ℕ) → b < length scripts → turn scripts whole b ≡ None
  unfolding turn
  complete b below = by (given whole b) refl
    where
      by : (o : Option (Comp × List Comp)) → given whole b ≡ o → turn scripts whole b ≡ None
      by None is =
          let never = subst (λ o. IsKnown o (part (reverse whole) b) (stand whole b)) is (known whole b all) in
          ap (λ (s : CourseState). turn_on s.comp (steps_of scripts b) s) never.1
      by (Some w) is =
          let log = log_is b w below is in
          let stands : stand whole b ≡ after_all (fresh w.0 w.1) (part c.history b) = known_at b w whole is all ∙ ap (λ h. after_all (fresh w.0 w.1) (part h b)) (reverse-reverse c.history) in
          no_more_turns (steps_of scripts b) (stand whole b) (stand whole b).comp (ap (λ (s : CourseState). s.left) stands ∙ log.left)

  -- the history of the report is a complete course of the scripts, with the verdict of the report
  pub report_is_witness : IsWitness scripts c.history c.verdict
  report_is_witness = record { course = course [] whole refl; complete = complete; verdict = report.one_history.verdict }

pub report_is_course : (scripts : List ScriptView) (c : Closed) → IsReportOf scripts c → IsWitness scripts c.history c.verdict
report_is_course scripts c is = report_is_witness scripts c is.report is.made

pub report_is_found : (scripts : List ScriptView) (found : List Witness) (c : Closed) → AllFound scripts found → IsReportOf scripts c → is_found found c.verdict ≡ true
report_is_found scripts found c all is = all c.history c.verdict (report_is_course scripts c is)
