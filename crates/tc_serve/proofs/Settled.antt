-- No run that can continue is left asleep: one pass over the runs, in the order of their numbers, wakes all that can.
use Rattle.std.{proofs.{Common.{ℕ, ◌≡◌, ◌≢◌, ◌<◌, ◌≤◌, ◌==◌, ◌&&◌, ◌⊎◌, inl, inr, not, if◌then◌else◌, zero, suc, Bool, true, false, Option, Some, None, List, [], ◌∷◌, ◌++◌, drop, refl, ap, ap₂, sym, subst, ◌∙◌, arith}, lemmas.Bool.Decides.nat_tests}, specs.List.{list_any, list_all}}
use Rattle.tc_rules.{specs.{Prelude.{Run, Comp, Entry, Op, Target, Phase, Fault, Reply, add_new, comp_of, comps, created, exists, phase, done, is_done, is_killed, is_running, killed, holds, is_still, is_stuck, parks, waiting, waits_in_vain, all_exist, fault, answer, answer_unless, is_active, is_active_on, local_reply, plain_answer, is_quiet, keeps_phases, IsLegal, wake_op}, declared.awaited.Awaited.Awaited}, proofs.Lemmas.{Deciding.{equal_if, self_equal}, Going.last_on_it, Kept.list_all-same, Quiet.{Quiet, no_new_fault, quiet_wakes_nobody, same_active, same_phase}, Stuck.phase_running, Sound.plain_if}}
use Rattle.tc_blocks.specs.{declared.line.Line.Line, Prelude.{entries_of, entry_in}}
use Rattle.tc_serve.{specs.{Inside.{after_call, wakes_nobody, with_line, called, woken_from, IsSettled}, Laws.AllServed, Protocol.{Played, moved, woken}}, proofs.{Evident.{IsSound, all_legal, made_sound, no_entry, note_sound}, Changes.{all_served, also_served}}}

-- ---- a call that is replied Ended changes nothing for the others

abbrev ended_call : Run → Op → Entry
ended_call r op = record { caller = r; op = op; reply = Reply.Ended }

none_made : (op : Op) → created op Reply.Ended ≡ None
none_made (Op.Create alive name) = refl
none_made _ = refl

quiet : (r : Run) (op : Op) → Quiet (ended_call r op)
quiet r op = record { ends = refl; kill = λ c. refl; halt = λ own c. refl; start = λ c. refl; run = λ b. refl; park = refl }

module _ (n : ℕ) (past : List Entry) (r : Run) (op : Op) (some : 0 < n) (legal : IsLegal n past) where
  same_comps : comps (ended_call r op ∷ past) ≡ comps past
  same_comps = ap (λ (o : Option Comp). add_new o (comps past)) (none_made op)

  same : (c : ℕ) → phase (ended_call r op ∷ past) c ≡ phase past c
  same c = same_phase n past (ended_call r op) c legal (quiet r op)

  same_phases : phase (ended_call r op ∷ past) ≡ phase past
  same_phases = λ k c. same_phase n past (ended_call r op) c legal (quiet r op) k

  -- what is asked of the phases of all components but the first
  of_all : (asks : (ℕ → Phase) → List ℕ → Bool) → asks (phase (ended_call r op ∷ past)) (drop 1 (comps (ended_call r op ∷ past))) ≡ asks (phase past) (drop 1 (comps past))
  of_all asks = ap₂ (λ (f : ℕ → Phase) (cs : List ℕ). asks f (drop 1 cs)) same_phases same_comps

  same_done : (t : Target) → done (ended_call r op ∷ past) t ≡ done past t
  unfolding done
  same_done (Target.One c) = ap is_done (same c.0)
  same_done Target.Any = of_all (λ f. list_any (λ c. is_done (f c)))
  same_done Target.All = of_all (λ f. list_all (λ c. not (is_running (f c))))

  same_killed : (t : Target) → killed (ended_call r op ∷ past) t ≡ killed past t
  unfolding killed
  same_killed (Target.One c) = ap is_killed (same c.0)
  same_killed Target.Any = of_all (λ f. list_any (λ c. is_killed (f c)))
  same_killed Target.All = of_all (λ f. list_all (λ c. is_killed (f c)))

  same_holds : (b : Awaited) → holds (ended_call r op ∷ past) b ≡ holds past b
  unfolding holds
  same_holds b = by_kind b.killed
    where
      by_kind : (k : Bool) → (if k then killed (ended_call r op ∷ past) b.target else done (ended_call r op ∷ past) b.target) ≡ (if k then killed past b.target else done past b.target)
      by_kind true = same_killed b.target
      by_kind false = same_done b.target

  same_vain : (o : Option Awaited) → waits_in_vain (ended_call r op ∷ past) o ≡ waits_in_vain past o
  same_vain None = refl
  same_vain (Some b) = ap not (same_holds b)

  -- the run that a component runs is active
  running_active : (c : ℕ) (run : Run) → phase past c ≡ Phase.Running run → is_active past run.0 ≡ true
  unfolding is_active
  running_active c run is = rw ((last_on_it n past c run some legal (phase_running past c run is)).0, is) (self_equal run.0)

  same_still : (c : ℕ) → is_active past r.0 ≡ false → is_still (ended_call r op ∷ past) (phase (ended_call r op ∷ past) c) ≡ is_still past (phase past c)
  same_still c idle = ap (is_still (ended_call r op ∷ past)) (same c) ∙ by_phase (phase past c) refl
    where
      by_same : (run : Run) (t : Bool) → phase past c ≡ Phase.Running run → (r.0 == run.0) ≡ t → waits_in_vain (ended_call r op ∷ past) (if t then None else waiting past run.0) ≡ waits_in_vain past (waiting past run.0)
      by_same run false is test = same_vain (waiting past run.0)
      by_same run true is test =
          let active : is_active past run.0 ≡ true = running_active c run is in
          let this : r.0 ≡ run.0 = equal_if r.0 run.0 test in
          absurd (let e : false ≡ true = sym idle ∙ (ap (is_active past) this ∙ active) in cc)

      by_phase : (p : Phase) → phase past c ≡ p → is_still (ended_call r op ∷ past) p ≡ is_still past p
      by_phase (Phase.Running run) is = by_same run (r.0 == run.0) is refl
      by_phase Phase.Inactive is = refl
      by_phase Phase.Stopped is = refl
      by_phase Phase.Killed is = refl

  same_stuck : is_active past r.0 ≡ false → is_stuck (ended_call r op ∷ past) ≡ is_stuck past
  unfolding is_stuck
  same_stuck idle =
      ap (λ (cs : List ℕ). list_all (λ c. is_still (ended_call r op ∷ past) (phase (ended_call r op ∷ past) c)) cs) same_comps
      ∙ list_all-same (λ c. is_still (ended_call r op ∷ past) (phase (ended_call r op ∷ past) c)) (λ c. is_still past (phase past c)) (comps past) (λ c. same_still c idle)

  same_fault : (b : ℕ) (w : Awaited) → fault n (ended_call r op ∷ past) b (wake_op w) ≡ fault n past b (wake_op w)
  unfolding fault all_exist exists
  same_fault b w = rw (none_made op) refl

  same_answer : (b : ℕ) (w : Awaited) → is_active past r.0 ≡ false → answer n (ended_call r op ∷ past) b (wake_op w) ≡ answer n past b (wake_op w)
  unfolding answer
  same_answer b w idle = rw (same_active n past (ended_call r op) b legal (quiet r op), same_fault b w, same_holds w, same_stuck idle) refl

-- ---- who waits for something may ask for it

same_wake : (n : ℕ) (past : List Entry) (b : ℕ) (op : Op) (a : Awaited) → parks op Reply.Parked ≡ Some a → fault n past b op ≡ None → fault n past b (wake_op a) ≡ None
unfolding fault
same_wake n past b (Op.Wait k t) a is none = let e : record { killed = k; target = t } ≡ a = cc in rw (← e) none
same_wake n past b (Op.Wake k t) a is none = let e : record { killed = k; target = t } ≡ a = cc in rw (← e) none
same_wake n past b _ a is none = absurd cc

parked_op : (n : ℕ) (past : List Entry) (b : ℕ) (op : Op) (reply : Reply) (a : Awaited) → reply ≡ answer n past b op → parks op reply ≡ Some a → fault n past b (wake_op a) ≡ None
parked_op n past b op Reply.Parked a legal is = same_wake n past b op a is (plain_if n past b op Reply.Parked refl refl legal).no_fault
parked_op n past b op _ a legal is = absurd cc

waits_rightly : (n : ℕ) (past : List Entry) (b : ℕ) (a : Awaited) → IsLegal n past → waiting past b ≡ Some a → fault n past b (wake_op a) ≡ None
waits_rightly n [] b a legal is = absurd cc
waits_rightly n (e ∷ past) b a legal is = by_test (e.caller.0 == b) refl is (λ w. waits_rightly n past b a legal.1 w)
  where
    by_test : (t : Bool) → (e.caller.0 == b) ≡ t → (if t then parks e.op e.reply else waiting past b) ≡ Some a → (waiting past b ≡ Some a → fault n past b (wake_op a) ≡ None) → fault n (e ∷ past) b (wake_op a) ≡ None
    by_test true own is before =
        no_new_fault n past e b a.killed a.target (parked_op n past b e.op e.reply a (legal.0 ∙ ap (λ (x : ℕ). answer n past x e.op) (equal_if e.caller.0 b own)) is)
    by_test false other is before = no_new_fault n past e b a.killed a.target (before is)

-- ---- one wake

-- how a wake of run b is answered
abbrev Kind : ℕ → List Entry → ℕ → Awaited → Type 0
Kind n past b a =
    ((answer n past b (wake_op a) ≡ Reply.Ended) × (is_active past b ≡ false))
    ⊎ ((answer n past b (wake_op a) ≡ Reply.Matched) ⊎ (((b ≡ 0) × (answer n past b (wake_op a) ≡ Reply.Fault Fault.Stuck)) ⊎ (answer n past b (wake_op a) ≡ Reply.Parked)))

kind : (n : ℕ) (past : List Entry) (b : ℕ) (a : Awaited) → fault n past b (wake_op a) ≡ None → Kind n past b a
unfolding answer
kind n past b a none = by_active (is_active past b) refl
  where
    by_first : (t s : Bool) → is_active past b ≡ true → holds past a ≡ false → (b == 0) ≡ t → is_stuck past ≡ s → Kind n past b a
    by_first true true active vain first stuck = inr (inr (inl (equal_if b 0 first, rw (active, none, vain, first, stuck) refl)))
    by_first true false active vain first stuck = inr (inr (inr (rw (active, none, vain, first, stuck) refl)))
    by_first false s active vain first stuck = inr (inr (inr (rw (active, none, vain, first) refl)))

    by_holds : (h : Bool) → is_active past b ≡ true → holds past a ≡ h → Kind n past b a
    by_holds true active has = inr (inl (rw (active, none, has) refl))
    by_holds false active has = by_first (b == 0) (is_stuck past) active has refl refl

    by_active : (t : Bool) → is_active past b ≡ t → Kind n past b a
    by_active true active = by_holds (holds past a) active refl
    by_active false idle = inl (rw idle refl, idle)

-- the first k runs sleep only if their wakes would be parked
abbrev AreSettled : ℕ → List Entry → ℕ → Type 0
AreSettled n past k = (b : ℕ) (a : Awaited) → b < k → waiting past b ≡ Some a → answer n past b (wake_op a) ≡ Reply.Parked

other_waits : (b k : ℕ) (o w : Option Awaited) → b < k → (if k == b then o else w) ≡ w
other_waits b k o w less = by_test (k == b) refl
  where
    by_test : (t : Bool) → (k == b) ≡ t → (if t then o else w) ≡ w
    by_test false test = refl
    by_test true test = let same : k ≡ b = equal_if k b test in absurd (omega (arith, less, same))

other_than : (b k : ℕ) → (b == k) ≡ false → b ≢ k
other_than b k test = λ same. grind (arith, nat_tests, test, same)

at_or_below : (b k : ℕ) → b < suc k → (b < k) ⊎ (b ≡ k)
at_or_below b k less = by_test (b == k) refl
  where
    by_test : (t : Bool) → (b == k) ≡ t → (b < k) ⊎ (b ≡ k)
    by_test true test = inr (equal_if b k test)
    by_test false test = inl (let other : b ≢ k = other_than b k test in omega (arith, less, other))

own_waits : (k : ℕ) (o w : Option Awaited) → (if k == k then o else w) ≡ o
own_waits k o w = rw (self_equal k) refl

-- one more run, which sleeps on or does not sleep
settled_more : (n : ℕ) (past : List Entry) (k : ℕ) → AreSettled n past k → ((a : Awaited) → waiting past k ≡ Some a → answer n past k (wake_op a) ≡ Reply.Parked) → AreSettled n past (suc k)
settled_more n past k before this b a less waits = by_place (at_or_below b k less)
  where
    by_place : (b < k) ⊎ (b ≡ k) → answer n past b (wake_op a) ≡ Reply.Parked
    by_place (inl below) = before b a below waits
    by_place (inr same) = rw same (this a (ap (waiting past) (sym same) ∙ waits))

never_some : (a : Awaited) (P : Type 0) → ◌≡◌ {A = Option Awaited} None (Some a) → P
never_some a P e = absurd cc

-- one more run, which was woken by this reply
settled_woken : (n : ℕ) (past : List Entry) (k : ℕ) (a : Awaited) (reply : Reply) → parks (wake_op a) reply ≡ None →
    ((b : ℕ) (w : Awaited) → b < k → answer n past b (wake_op w) ≡ Reply.Parked → answer n (record { caller = record { 0 = k }; op = wake_op a; reply = reply } ∷ past) b (wake_op w) ≡ Reply.Parked) →
    AreSettled n past k → AreSettled n (record { caller = record { 0 = k }; op = wake_op a; reply = reply } ∷ past) (suc k)
settled_woken n past k a reply awake keeps before =
    let e : Entry = record { caller = record { 0 = k }; op = wake_op a; reply = reply } in
    settled_more n (e ∷ past) k
    (λ b w less waits. keeps b w less (before b w less (sym (other_waits b k (parks (wake_op a) reply) (waiting past b) less) ∙ waits)))
    (λ w waits. never_some w (answer n (e ∷ past) k (wake_op w) ≡ Reply.Parked) (sym (own_waits k (parks (wake_op a) reply) (waiting past k) ∙ awake) ∙ waits))

some_is : (w v : Awaited) → ◌≡◌ {A = Option Awaited} (Some w) (Some v) → w ≡ v
some_is w v e = cc

pass_one : (n : ℕ) (lines : List Line) (k : ℕ) (o : Option Awaited) → 0 < n → IsLegal n (entries_of lines) → waiting (entries_of lines) k ≡ o → AreSettled n (entries_of lines) k → AreSettled n (entries_of (woken_from n lines k o)) (suc k)
pass_one n lines k None some legal is before =
    settled_more n (entries_of lines) k before (λ a waits. never_some a (answer n (entries_of lines) k (wake_op a) ≡ Reply.Parked) (sym is ∙ waits))
pass_one n lines k (Some a) some legal is before = by_kind (kind n (entries_of lines) k a (waits_rightly n (entries_of lines) k a legal is))
  where
    by_kind : Kind n (entries_of lines) k a → AreSettled n (entries_of (woken_from n lines k (Some a))) (suc k)
    by_kind (inl ended) =
        rw ended.0 (settled_woken n (entries_of lines) k a Reply.Ended refl (λ b w less parked. same_answer n (entries_of lines) (record { 0 = k }) (wake_op a) some legal b w ended.1 ∙ parked) before)
    by_kind (inr (inl matched)) =
        let e : Entry = record { caller = record { 0 = k }; op = wake_op a; reply = Reply.Matched } in
        let law = quiet_wakes_nobody n (entries_of lines) e (sym matched, legal) refl in
        rw matched (settled_woken n (entries_of lines) k a Reply.Matched refl (λ b w less parked. law.parked b w.killed w.target parked) before)
    by_kind (inr (inr (inl stuck))) =
        rw stuck.1 (settled_woken n (entries_of lines) k a (Reply.Fault Fault.Stuck) refl (λ b w less parked. absurd (let first = stuck.0 in omega (arith, less, first))) before)
    by_kind (inr (inr (inr parked))) =
        rw parked (settled_more n (entries_of lines) k before (λ w waits. let same : w ≡ a = some_is w a (sym waits ∙ is) in rw same parked))

pass_all : (n : ℕ) (lines : List Line) (k : ℕ) → 0 < n → IsLegal n (entries_of lines) → AreSettled n (entries_of (woken n lines k)) k
pass_all n lines zero some legal = λ b a less. absurd (omega (arith, less))
pass_all n lines (suc k) some legal =
    pass_one n (woken n lines k) k (waiting (entries_of (woken n lines k)) k) some (all_legal n lines k legal) refl (pass_all n lines k some legal)

-- ---- a call after which nobody is woken

-- an entry whose caller does not sleep, and by which no other is woken
settled_on : (n : ℕ) (past : List Entry) (e : Entry) → parks e.op e.reply ≡ None → ((b : ℕ) (w : Awaited) → answer n past b (wake_op w) ≡ Reply.Parked → answer n (e ∷ past) b (wake_op w) ≡ Reply.Parked) → AreSettled n past n → AreSettled n (e ∷ past) n
settled_on n past e awake keeps before b a less waits = by_test (e.caller.0 == b) waits
  where
    by_test : (t : Bool) → (if t then parks e.op e.reply else waiting past b) ≡ Some a → answer n (e ∷ past) b (wake_op a) ≡ Reply.Parked
    by_test true is = never_some a _ (sym awake ∙ is)
    by_test false is = keeps b a (before b a less is)

plain_not_ended : (past : List Entry) (b : ℕ) (op : Op) → is_active_on past b (comp_of past b) ≡ true → plain_answer past b op ≡ Reply.Ended → ⊥
plain_not_ended past b (Op.Wait k t) active e = by_test (holds past (record { killed = k; target = t })) e
  where
    by_test : (h : Bool) → (if h then Reply.Matched else Reply.Parked) ≡ Reply.Ended → ⊥
    by_test true e = cc
    by_test false e = cc
plain_not_ended past b (Op.Wake k t) active e = by_tests (holds past (record { killed = k; target = t })) ((b == 0) && is_stuck past) e
  where
    by_tests : (h z : Bool) → (if h then Reply.Matched else if z then Reply.Fault Fault.Stuck else Reply.Parked) ≡ Reply.Ended → ⊥
    by_tests true z e = cc
    by_tests false true e = cc
    by_tests false false e = cc
plain_not_ended past b Op.GetVerdict active e = by_comp (comp_of past b) active e
  where
    by_comp : (o : Option Comp) → is_active_on past b o ≡ true → local_reply past o ≡ Reply.Ended → ⊥
    by_comp (Some c) active e = cc
    by_comp None active e = cc
plain_not_ended past b _ active e = cc

-- a run whose call is replied Ended is not active
ended_idle : (n : ℕ) (past : List Entry) (b : ℕ) (op : Op) → answer n past b op ≡ Reply.Ended → is_active past b ≡ false
unfolding answer is_active
ended_idle n past b op e = by_active (is_active_on past b (comp_of past b)) refl e
  where
    by_fault : (o : Option Fault) → is_active_on past b (comp_of past b) ≡ true → answer_unless o (plain_answer past b op) ≡ Reply.Ended → ⊥
    by_fault (Some f) active e = cc
    by_fault None active e = plain_not_ended past b op active e

    by_active : (t : Bool) → is_active_on past b (comp_of past b) ≡ t → (if t then answer_unless (fault n past b op) (plain_answer past b op) else Reply.Ended) ≡ Reply.Ended → t ≡ false
    by_active false active e = refl
    by_active true active e = absurd (by_fault (fault n past b op) active e)

module _ (n : ℕ) (past : List Entry) (caller : Run) (op : Op) (some : 0 < n) (legal : IsLegal n past) (settled : AreSettled n past n) where
  by_ended : answer n past caller.0 op ≡ Reply.Ended → AreSettled n (ended_call caller op ∷ past) n
  by_ended is = settled_on n past (ended_call caller op) refl (λ b w parked. same_answer n past caller op some legal b w (ended_idle n past caller.0 op is) ∙ parked) settled

  by_quiet : (reply : Reply) → reply ≡ answer n past caller.0 op → parks op reply ≡ None → is_quiet op reply ≡ true → AreSettled n (record { caller = caller; op = op; reply = reply } ∷ past) n
  by_quiet reply is awake quiet =
      let e : Entry = record { caller = caller; op = op; reply = reply } in
      let law = quiet_wakes_nobody n past e (is, legal) quiet in
      settled_on n past e awake (λ b w parked. law.parked b w.killed w.target parked) settled

  keeps_on : (k : Bool) → k ≡ true → (k && true) ≡ true
  keeps_on k is = rw is refl

  by_reply : (reply : Reply) → reply ≡ answer n past caller.0 op → wakes_nobody (keeps_phases op) reply ≡ true → AreSettled n (record { caller = caller; op = op; reply = reply } ∷ past) n
  by_reply Reply.Ended is nobody = by_ended (sym is)
  by_reply Reply.Parked is nobody = absurd cc
  by_reply (Reply.Fault f) is nobody = absurd cc
  by_reply reply is nobody = by_quiet reply is refl (keeps_on _ nobody)

  -- nobody sleeps who can continue after a call that wakes nobody, if nobody did before it
  still_settled : wakes_nobody (keeps_phases op) (answer n past caller.0 op) ≡ true → AreSettled n (record { caller = caller; op = op; reply = answer n past caller.0 op } ∷ past) n
  still_settled nobody = by_reply (answer n past caller.0 op) refl nobody

-- if nobody sleeps who can continue, none of the first k runs is woken
none_woken : (n : ℕ) (lines : List Line) (k : ℕ) → k ≤ n → AreSettled n (entries_of lines) n → woken n lines k ≡ lines
none_woken n lines zero few settled = refl
none_woken n lines (suc k) few settled =
    ap (λ (ls : List Line). woken_from n ls k (waiting (entries_of ls) k)) (none_woken n lines k (omega (arith, few)) settled) ∙ sleeps_on (waiting (entries_of lines) k) refl
  where
    sleeps_on : (o : Option Awaited) → waiting (entries_of lines) k ≡ o → woken_from n lines k o ≡ lines
    sleeps_on None is = refl
    sleeps_on (Some a) is = let parked : answer n (entries_of lines) k (wake_op a) ≡ Reply.Parked = settled k a (omega (arith, few)) is in rw parked refl

-- after such a call nobody is woken
pub nobody_woken : (p : Played) (caller : Run) (op : Op) → 0 < p.behaviours → IsLegal p.behaviours (entries_of p.lines) → IsSettled p → wakes_nobody (keeps_phases op) (called p.behaviours p.lines caller op).reply ≡ true → record p { lines = after_call p caller op } ≡ moved p caller op
nobody_woken p caller op some legal settled nobody =
    let none = none_woken p.behaviours (after_call p caller op) p.behaviours (omega arith) (still_settled p.behaviours (entries_of p.lines) caller op some legal settled nobody) in
    ap (λ (ls : List Line). record p { lines = ls }) (sym none)

-- ---- all that is served

pub new_settled : (name : List ℕ) (n : ℕ) → IsSettled (record { name = name; behaviours = n; lines = [] })
new_settled name n b a less waits = never_some a (answer n [] b (wake_op a) ≡ Reply.Parked) waits

pub moved_settled : (p : Played) (caller : Run) (op : Op) → IsLegal p.behaviours (entries_of p.lines) → IsSettled (moved p caller op)
moved_settled p caller op legal b a less waits = pass_all p.behaviours (after_call p caller op) p.behaviours (omega (arith, less)) (refl, legal) b a less waits

pub noted_settled : (p : Played) (l : Line) → entry_in l ≡ [] → IsSettled p → IsSettled (with_line p l)
noted_settled p l none so =
    let same : entries_of p.lines ≡ entries_of (l ∷ p.lines) = sym (ap (λ (es : List Entry). es ++ entries_of p.lines) none) in
    subst (λ (es : List Entry). (b : ℕ) (a : Awaited) → b < p.behaviours → waiting es b ≡ Some a → answer p.behaviours es b (wake_op a) ≡ Reply.Parked) same so

both : AllServed (λ p. IsSound p × IsSettled p)
both = all_served (λ p. IsSound p × IsSettled p) (λ name n name_is few. (record { legal = tt; wakes = tt }, new_settled name n))
    (λ p l may note so. (note_sound p l may so.0, noted_settled p l (no_entry p l may) so.1))
    (λ p caller op may low fits so. (made_sound p caller op may so.0, moved_settled p caller op so.0.legal))

pub nobody_sleeps_on : AllServed IsSettled
nobody_sleeps_on = also_served (λ p. IsSound p × IsSettled p) IsSettled (λ p so. so.1) both
