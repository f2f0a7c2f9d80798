-- What is known of a run along a course, turns of runs, a course as a history, and what is made of each number.
use Rattle.std.{proofs.{Common.{ℕ, zero, suc, ◌≡◌, ◌<◌, ◌≤◌, ◌==◌, if◌then◌else◌, Bool, true, false, Option, Some, None, is_some, List, [], ◌∷◌, ◌++◌, slice_get, refl, ap, ◌∙◌, arith, length, sym, subst, ◌+◌, take, get_or, reverse, nat_lt}, lemmas.{Bool.Decides.nat_tests, List.{flat_map_more, reverse-append, take_more}}}, specs.{List.{flat_map, range_with_len}, Option.unwrap_or}}
use Rattle.tc_rules.{specs.{Prelude.{Comp, Entry, Op, Reply, is_ok, is_wake, comp_of, started_on, starts_run, first_some, waiting, parks, awaited, IsLegal, Run, answer, Case, past_of, entry_made}, declared.awaited.Awaited.Awaited}, proofs.Lemmas.{Deciding.{equal_if, self_equal}, Sound.runs_on}}
use Rattle.tc_step.specs.{declared.step.{Status.Status, Step.Step}, Prelude.ScriptView}
use Rattle.tc_course.specs.{Course.{CannotGo, CourseState, IsCourse, IsOn, IsTurn, after_other_by, after_own, stand, steps_of, turn, turn_on}, Inside.{is_idle, call_of, wake_for, wake_if}}

-- ---- turns

-- a run that has a turn is on a component, and its pass has not ended
pub record HasTurn (steps : List Step) (s : CourseState) (op : Op) : Type 0 where
  pub me : Comp
  pub on : s.comp ≡ Some me
  pub stays : s.left ≡ false
  pub calls : unwrap_or s.wake (call_of me s.bound (slice_get steps s.called)) ≡ op

turn_by : (o : Option Comp) (l : Bool) (steps : List Step) (s : CourseState) (op : Op) → s.comp ≡ o → s.left ≡ l → turn_on o steps s ≡ Some op → HasTurn steps s op
turn_by None l steps s op on left h = absurd cc
turn_by (Some me) true steps s op on left h = let e : None ≡ Some op = rw left at h in absurd cc
turn_by (Some me) false steps s op on left h =
    let e : Some (unwrap_or s.wake (call_of me s.bound (slice_get steps s.called))) ≡ Some op = rw left at h in
    record { me = me; on = on; stays = left; calls = cc }

pub has_turn : (scripts : List ScriptView) (past : List Entry) (b : ℕ) (op : Op) → turn scripts past b ≡ Some op → HasTurn (steps_of scripts b) (stand past b) op
unfolding turn
has_turn scripts past b op h = turn_by (stand past b).comp (stand past b).left (steps_of scripts b) (stand past b) op refl refl h

pub turn_of : (scripts : List ScriptView) (past : List Entry) (b : ℕ) (op : Op) → HasTurn (steps_of scripts b) (stand past b) op → turn scripts past b ≡ Some op
unfolding turn
turn_of scripts past b op h = rw (h.on, h.stays) (ap Some h.calls)

pub never_wake : (me : Comp) (bound : List Comp) (o : Option Step) → is_wake (call_of me bound o) ≡ false
never_wake me bound None = refl
never_wake me bound (Some (Step.Ask Status.Running t)) = refl
never_wake me bound (Some (Step.Ask Status.Alive t)) = refl
never_wake me bound (Some (Step.Ask Status.Done t)) = refl
never_wake me bound (Some (Step.Ask Status.Killed t)) = refl
never_wake me bound (Some (Step.Create alive name)) = refl
never_wake me bound (Some (Step.Start on run args)) = refl
never_wake me bound (Some (Step.Stop g)) = refl
never_wake me bound (Some (Step.Kill g)) = refl
never_wake me bound (Some (Step.Wait killed t)) = refl
never_wake me bound (Some (Step.SetVerdict v)) = refl
never_wake me bound (Some Step.StopCase) = refl
never_wake me bound (Some Step.GetVerdict) = refl

-- ---- one more entry

pub stand_own : (past : List Entry) (e : Entry) (b : ℕ) → e.caller.0 ≡ b → stand (e ∷ past) b ≡ after_own e (stand past b)
stand_own past e b own = rw (own, self_equal b) refl

others_leave : (o : Option Comp) (e : Entry) (b : ℕ) (s : CourseState) (c : Comp) → o ≡ Some c → after_other_by o e b s ≡ s
others_leave (Some d) e b s c h = refl
others_leave None e b s c h = absurd cc

pub stand_other : (past : List Entry) (e : Entry) (b : ℕ) (c : Comp) → (e.caller.0 == b) ≡ false → (stand past b).comp ≡ Some c → stand (e ∷ past) b ≡ stand past b
stand_other past e b c other on = rw other (others_leave (stand past b).comp e b (stand past b) c on)

comp_after : (t : Bool) (o w : Option Comp) (e : Entry) (b : ℕ) (s : CourseState) → s.comp ≡ o → started_on e b ≡ w → (t ≡ true → is_some o ≡ true) →
    (if t then after_own e s else after_other_by o e b s).comp ≡ first_some o w
comp_after true (Some c) w e b s on st f = on
comp_after true None w e b s on st f = let h = f refl in absurd cc
comp_after false (Some c) w e b s on st f = on
comp_after false None (Some c) e b s on st f = rw st refl
comp_after false None None e b s on st f = rw st on

caller_on : (scripts : List ScriptView) (past : List Entry) (e : Entry) (b : ℕ) → IsTurn scripts past e → e.caller.0 ≡ b → is_some (stand past b).comp ≡ true
caller_on scripts past e b h own =
    let t = has_turn scripts past e.caller.0 e.op h.turn in
    rw (← own) (ap is_some t.on)

pub stand_comp : (scripts : List ScriptView) (past : List Entry) (b : ℕ) → IsCourse scripts past → (stand past b).comp ≡ comp_of past b
stand_comp scripts [] b h = refl
stand_comp scripts (e ∷ past) b h =
    comp_after (e.caller.0 == b) (stand past b).comp (started_on e b) e b (stand past b) refl refl (λ t. caller_on scripts past e b h.0 (equal_if e.caller.0 b t))
    ∙ ap (λ o. first_some o (started_on e b)) (stand_comp scripts past b h.1)

-- a run that was not started
abbrev pub unstarted : CourseState
unstarted = record { comp = None; bound = []; called = 0; left = false; wake = None }

first_nones : {A : Type 0} (o p : Option A) → first_some o p ≡ None → (o ≡ None) × (p ≡ None)
first_nones (Some x) p h = absurd cc
first_nones None p h = (refl, h)

opening_unstarted : (t : Bool) (c : Comp) → (if t then Some c else None) ≡ None →
    record { comp = if t then Some c else None; bound = []; called = 0; left = false; wake = None } ≡ unstarted
opening_unstarted true c h = absurd cc
opening_unstarted false c h = refl

pub stand_unstarted : (scripts : List ScriptView) (past : List Entry) (b : ℕ) → IsCourse scripts past → comp_of past b ≡ None → stand past b ≡ unstarted
stand_unstarted scripts [] b h none = opening_unstarted (b == 0) (record { 0 = 0 }) none
stand_unstarted scripts (e ∷ past) b h none =
    let n = first_nones (comp_of past b) (started_on e b) none in
    let before : stand past b ≡ unstarted = stand_unstarted scripts past b h.1 n.0 in
    let st : started_on e b ≡ None = n.1 in
    rw (not_caller (e.caller.0 == b) refl before, before) (rw st refl)
  where
    not_caller : (t : Bool) → (e.caller.0 == b) ≡ t → stand past b ≡ unstarted → t ≡ false
    not_caller false k s = refl
    not_caller true k s =
        let on : is_some (stand past b).comp ≡ true = caller_on scripts past e b h.0 (equal_if e.caller.0 b k) in
        let off : is_some (stand past b).comp ≡ false = ap (λ (x : CourseState). is_some x.comp) s in
        absurd cc

-- ---- waiting

pub wake_after_other : (o w : Option Comp) (e : Entry) (b : ℕ) (s : CourseState) → started_on e b ≡ w → (after_other_by o e b s).wake ≡ s.wake
wake_after_other (Some c) w e b s st = refl
wake_after_other None (Some c) e b s st = rw st refl
wake_after_other None None e b s st = rw st refl

-- the Wake to come is for what the run waits for
pub record IsAwaitedBy (s : CourseState) (a : Awaited) : Type 0 where
  pub wake : Op
  pub to_come : s.wake ≡ Some wake
  pub for_it : awaited wake ≡ Some a

parks_wake : (op : Op) (a : Awaited) → awaited op ≡ Some a → (wake : Op) × (wake_for op ≡ Some wake) × (awaited wake ≡ Some a)
parks_wake (Op.Wait k t) a h = (Op.Wake k t, refl, h)
parks_wake (Op.Wake k t) a h = (Op.Wake k t, refl, h)
parks_wake _ a h = absurd cc

reply_wake : (op : Op) (r : Reply) (a : Awaited) → parks op r ≡ Some a → (wake : Op) × (wake_if op r ≡ Some wake) × (awaited wake ≡ Some a)
reply_wake op Reply.Parked a h = parks_wake op a h
reply_wake op _ a h = absurd cc

pub waiting_wake : (past : List Entry) (b : ℕ) (a : Awaited) → waiting past b ≡ Some a → IsAwaitedBy (stand past b) a
waiting_wake [] b a h = absurd cc
waiting_wake (e ∷ past) b a h = by_test (waiting_wake past b a) (e.caller.0 == b) refl h
  where
    by_test : (waiting past b ≡ Some a → IsAwaitedBy (stand past b) a) → (t : Bool) → (e.caller.0 == b) ≡ t → (if t then parks e.op e.reply else waiting past b) ≡ Some a → IsAwaitedBy (stand (e ∷ past) b) a
    by_test before true k p =
        let w = reply_wake e.op e.reply a p in
        let own : stand (e ∷ past) b ≡ after_own e (stand past b) = rw k refl in
        record { wake = w.0; to_come = ap (λ (x : CourseState). x.wake) own ∙ w.1; for_it = w.2 }
    by_test before false k p =
        let w = before p in
        let other : stand (e ∷ past) b ≡ after_other_by (stand past b).comp e b (stand past b) = rw k refl in
        record { wake = w.wake; to_come = ap (λ (x : CourseState). x.wake) other ∙ (wake_after_other (stand past b).comp (started_on e b) e b (stand past b) refl ∙ w.to_come); for_it = w.for_it }

-- ---- the numbers of runs

first_cases : {A : Type 0} (o p : Option A) (x : A) (P : Type 0) → (o ≡ Some x → P) → (p ≡ Some x → P) → first_some o p ≡ Some x → P
first_cases (Some y) p x P f g h = f h
first_cases None p x P f g h = g h

opening_run : (n b : ℕ) (c z : Comp) → 1 ≤ n → (if b == 0 then Some z else None) ≡ Some c → b < n
opening_run n b c z some h = by_test (b == 0) refl h
  where
    by_test : (t : Bool) → (b == 0) ≡ t → (if t then Some z else None) ≡ Some c → b < n
    by_test true k j = let zero : b ≡ 0 = equal_if b 0 k in omega (arith)
    by_test false k j = absurd cc

pub run_in_range : (n : ℕ) (past : List Entry) (b : ℕ) (c : Comp) → 1 ≤ n → IsLegal n past → comp_of past b ≡ Some c → b < n
run_in_range n [] b c some legal h = opening_run n b c (record { 0 = 0 }) some h
run_in_range n (e ∷ past) b c some legal h =
    first_cases (comp_of past b) (if is_ok e.reply then starts_run e.op b else None) c (b < n)
    (λ o. run_in_range n past b c some legal.1 o)
    (λ s. (runs_on n past e b c legal.0 s).in_range) h

-- a call that is the run's next, and no idle Wake, is its turn
pub turn_taken : (scripts : List ScriptView) (past : List Entry) (n : ℕ) (run : Run) (op : Op) → n ≡ length scripts → turn scripts past run.0 ≡ Some op → is_idle op (answer n past run.0 op) ≡ false → IsTurn scripts past (entry_made n past run op)
turn_taken scripts past n run op h t i = record { turn = t; reply = ap (λ m. answer m past run.0 op) h; not_idle = i }

-- a run without a call cannot continue
pub no_turn : (scripts : List ScriptView) (past : List Entry) (b : ℕ) → turn scripts past b ≡ None → CannotGo scripts past b
no_turn scripts past b t e own h =
    let same : turn scripts past e.caller.0 ≡ turn scripts past b = ap (turn scripts past) own in
    let was : turn scripts past e.caller.0 ≡ Some e.op = h.turn in
    absurd cc

-- nor one whose next call is an idle Wake
pub idle_turn : (scripts : List ScriptView) (past : List Entry) (n b : ℕ) (op : Op) → n ≡ length scripts → turn scripts past b ≡ Some op → is_idle op (answer n past b op) ≡ true → CannotGo scripts past b
idle_turn scripts past n b op len t i e own h =
    let same : turn scripts past e.caller.0 ≡ turn scripts past b = ap (turn scripts past) own in
    let was : turn scripts past e.caller.0 ≡ Some e.op = h.turn in
    let some : Some e.op ≡ Some op = cc in
    let op_is : e.op ≡ op = cc in
    let r : e.reply ≡ answer (length scripts) past e.caller.0 e.op = h.reply in
    let not : is_idle e.op e.reply ≡ false = h.not_idle in
    absurd cc

-- one more turn is a course
pub on_with : (scripts : List ScriptView) (t u : Case) (e : Entry) → IsOn scripts t → u.behaviours ≡ t.behaviours → past_of u ≡ e ∷ past_of t → IsTurn scripts (past_of t) e → IsOn scripts u
on_with scripts t u e on n p turn =
    let c : IsCourse scripts (e ∷ past_of t) = (turn, on.course) in
    record { behaviours = n ∙ on.behaviours; course = subst (IsCourse scripts) (sym p) c }

pub on_opening : (scripts : List ScriptView) (t : Case) → t.behaviours ≡ length scripts → past_of t ≡ [] → IsOn scripts t
on_opening scripts t n p = record { behaviours = n; course = subst (IsCourse scripts) (sym p) tt }

pub ruleset turn_rules = (turn_taken, no_turn, idle_turn, on_with, on_opening)

-- what is no Wake is no idle one
pub other_not_idle : (op : Op) (r : Reply) → is_wake op ≡ false → is_idle op r ≡ false
other_not_idle op Reply.Parked h = h
other_not_idle op _ h = refl

pub course_legal : (scripts : List ScriptView) (past : List Entry) → IsCourse scripts past → IsLegal (length scripts) past
course_legal scripts [] h = tt
course_legal scripts (e ∷ past) h = (h.0.reply, course_legal scripts past h.1)

-- one entry more in front
pub reverse_more : (xs : List Entry) (i : ℕ) (d : Entry) → i < length xs → reverse (take (i + 1) xs) ≡ get_or xs i d ∷ reverse (take i xs)
reverse_more xs i d h = ap reverse (take_more xs i d h) ∙ reverse-append (take i xs) (get_or xs i d ∷ [])

-- ---- the numbers below one more

-- what holds below a number, and of it
pub below_more : (P : ℕ → Type 0) (n : ℕ) → ((k : ℕ) → k < n → P k) → P n → (k : ℕ) → k < n + 1 → P k
below_more P n each last k less = by_place (nat_lt k n) refl
  where
    by_place : (t : Bool) → nat_lt k n ≡ t → P k
    by_place true h = each k (grind (arith, nat_tests))
    by_place false h = let same : n ≡ k = grind (arith, nat_tests) in subst P same last

range-more : (a n : ℕ) → range_with_len a (suc n) ≡ range_with_len a n ++ (a + n) ∷ []
range-more a zero = grind arith
range-more a (suc n) = grind (arith, range-more (a + 1) n)

range_next : (n : ℕ) → range_with_len 0 (n + 1) ≡ range_with_len 0 n ++ n ∷ []
range_next n =
    let one : n + 1 ≡ suc n = omega arith in
    let same : 0 + n ≡ n = omega arith in
    ap (range_with_len 0) one ∙ (range-more 0 n ∙ ap (λ x. range_with_len 0 n ++ x ∷ []) same)

-- what is made of each
pub next_of : (f : ℕ → List ℕ) (n : ℕ) (front a b : List ℕ) → a ≡ front ++ flat_map f (range_with_len 0 n) → b ≡ a ++ f n →
    b ≡ front ++ flat_map f (range_with_len 0 (n + 1))
next_of f n front a b so more =
    more ∙ (ap (λ l. l ++ f n) so ∙ (flat_map_more f front (range_with_len 0 n) n ∙ ap (λ l. front ++ flat_map f l) (sym (range_next n))))
