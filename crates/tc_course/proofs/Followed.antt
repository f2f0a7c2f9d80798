-- Following a history: each entry is the next turn of its caller, or the history is no course.
use Rattle.std.{proofs.{Common.{ℕ, ◌≡◌, ◌==◌, ◌↔◌, ◌⊎◌, ◌∙◌, ◌+◌, ◌<◌, ◌≤◌, Bool, true, false, IsTrue, Some, None, List, [], ◌∷◌, ◌++◌, length, take, drop, get_or, reverse, refl, sym, ap, subst, arith, nat_eq, inl, inr}, lemmas.{List.{Elements.{AllZip-get_or, AllZip-push, length_all_zip}, reverse-append, reverse-reverse, take_all, take_more, take-append-drop}, Slice.Eq.starts_is}}, specs.{Bool.Decides, List.{AllZip, starts_with}, Ordering.on}}
use Rattle.tc_rules.{specs.Prelude.{Verdict, Comp, Entry, Op, Reply, Run, answer, Case, entry_made, past_of, overall}, proofs.Lemmas.Deciding.{equal_if, self_equal}}
use Rattle.tc_step.specs.Prelude.{ScriptView}
use Rattle.tc_course.{specs.{Course.{CannotGo, IsComplete, IsCourse, IsNext, IsOn, IsTurn, turn}, Witnesses.{IsNoted, IsNotedEntry, IsShown}}, proofs.Lemmas.{below_more, course_legal, reverse_more, has_turn, run_in_range, stand_comp}}

-- ---- one entry

same_component : (a b : Comp) → Decides (on (λ (c : Comp). c.0) nat_eq a b) (a ≡ b)
same_component a b = (λ h. ap (λ n. record { 0 = n }) (equal_if a.0 b.0 h), λ h. subst (λ (c : Comp). (a.0 == c.0) ≡ true) h (self_equal a.0))

-- of a start that was noted the last arguments may be left out
pub noted_start : (noted op : Op) (c d : Comp) (r s : Run) (first all : List Comp) (is : Bool) → noted ≡ Op.Start c r first → op ≡ Op.Start d s all → d ≡ c → s ≡ r →
    is ≡ starts_with (on (λ (c : Comp). c.0) nat_eq) all first → IsTrue is ↔ IsNoted noted op
noted_start noted op c d r s first all is started called comp run means =
    let begins = starts_is same_component all first is means in
    let made : (more : List Comp) → all ≡ first ++ more → op ≡ Op.Start c r (first ++ more) = λ more h. called ∙ cc in
    rw started (λ yes. (drop (length first) all, made (drop (length first) all) (begins.0 yes)), λ more. begins.1 more.0 (arguments more.0 (sym called ∙ more.1)))
  where
    arguments : (more : List Comp) → Op.Start d s all ≡ Op.Start c r (first ++ more) → all ≡ first ++ more
    arguments more h = cc

-- who has a turn is one of the runs
turn_in_range : (scripts : List ScriptView) (past : List Entry) (e : Entry) → 1 ≤ length scripts → IsCourse scripts past → IsTurn scripts past e → e.caller.0 < length scripts
turn_in_range scripts past e some course mine =
    let t = has_turn scripts past e.caller.0 e.op mine.turn in
    run_in_range (length scripts) past e.caller.0 t.me some (course_legal scripts past course) (sym (stand_comp scripts past e.caller.0 course) ∙ t.on)

-- what was noted is no turn of a caller that cannot continue
pub cannot_take : (scripts : List ScriptView) (t : Case) (noted e : Entry) → 1 ≤ length scripts → IsOn scripts t →
    (noted.caller.0 < length scripts → CannotGo scripts (past_of t) noted.caller.0) → IsNotedEntry noted e → IsTurn scripts (past_of t) e → ⊥
cannot_take scripts t noted e some on cannot so mine =
    let same : e.caller.0 ≡ noted.caller.0 = ap (λ (r : Run). r.0) so.caller in
    let within : noted.caller.0 < length scripts = subst (λ b. b < length scripts) same (turn_in_range scripts (past_of t) e some on.course mine) in
    cannot within e same mine

-- what its caller calls next is the call of an entry that is its turn
pub same_call : (scripts : List ScriptView) (t : Case) (noted e : Entry) (op : Op) → IsNext scripts t noted.caller op → IsNotedEntry noted e → IsTurn scripts (past_of t) e → op ≡ e.op
same_call scripts t noted e op next so mine =
    let a : turn scripts (past_of t) noted.caller.0 ≡ Some op = next.turn in
    let b : turn scripts (past_of t) e.caller.0 ≡ Some e.op = mine.turn in
    let same : turn scripts (past_of t) e.caller.0 ≡ turn scripts (past_of t) noted.caller.0 = ap (λ (r : Run). turn scripts (past_of t) r.0) so.caller in
    cc

-- nor is it one if another call was noted
pub other_call : (scripts : List ScriptView) (t : Case) (noted e : Entry) (op : Op) → IsNext scripts t noted.caller op → (IsNoted noted.op op → ⊥) →
    IsNotedEntry noted e → IsTurn scripts (past_of t) e → ⊥
other_call scripts t noted e op next other so mine = other (subst (IsNoted noted.op) (sym (same_call scripts t noted e op next so mine)) so.op)

-- or another reply than the table's
pub other_reply : (scripts : List ScriptView) (t : Case) (noted e : Entry) (op : Op) → IsOn scripts t → IsNext scripts t noted.caller op →
    (answer t.behaviours (past_of t) noted.caller.0 op ≡ noted.reply → ⊥) → IsNotedEntry noted e → IsTurn scripts (past_of t) e → ⊥
other_reply scripts t noted e op on next other so mine =
    let n : t.behaviours ≡ length scripts = on.behaviours in
    let call : op ≡ e.op = same_call scripts t noted e op next so mine in
    let caller : e.caller ≡ noted.caller = so.caller in
    let told : e.reply ≡ noted.reply = so.reply in
    let table : e.reply ≡ answer (length scripts) (past_of t) e.caller.0 e.op = mine.reply in
    other (rw (n, call, ← caller) (sym table ∙ told))

-- the call with the table's reply, if it is what was noted
pub taken : (t u : Case) (noted : Entry) (op : Op) → IsNoted noted.op op → answer t.behaviours (past_of t) noted.caller.0 op ≡ noted.reply →
    past_of u ≡ entry_made t.behaviours (past_of t) noted.caller op ∷ past_of t → (e : Entry) × IsNotedEntry noted e × (past_of u ≡ e ∷ past_of t)
taken t u noted op so told more = (entry_made t.behaviours (past_of t) noted.caller op, record { caller = refl; op = so; reply = told }, more)

pub ruleset following_rules = (cannot_take, other_call, other_reply, taken)

-- two turns that were noted the same are the same
one_turn : (scripts : List ScriptView) (past : List Entry) (noted e f : Entry) → IsNotedEntry noted e → IsNotedEntry noted f → IsTurn scripts past e → IsTurn scripts past f → e ≡ f
one_turn scripts past noted e f as_e as_f mine other =
    let callers : e.caller ≡ f.caller = as_e.caller ∙ sym as_f.caller in
    let replies : e.reply ≡ f.reply = as_e.reply ∙ sym as_f.reply in
    let a : turn scripts past e.caller.0 ≡ Some e.op = mine.turn in
    let b : turn scripts past f.caller.0 ≡ Some f.op = other.turn in
    let same : turn scripts past e.caller.0 ≡ turn scripts past f.caller.0 = ap (λ (r : Run). turn scripts past r.0) callers in
    let ops : e.op ≡ f.op = cc in
    ap (λ (x : Run). record { caller = x; op = e.op; reply = e.reply }) callers
    ∙ (ap (λ (x : Op). record { caller = f.caller; op = x; reply = e.reply }) ops ∙ ap (λ (x : Reply). record { caller = f.caller; op = f.op; reply = x }) replies)

-- ---- a history

earlier_course : (scripts : List ScriptView) (later past : List Entry) → IsCourse scripts (later ++ past) → IsCourse scripts past
earlier_course scripts [] past h = h
earlier_course scripts (e ∷ later) past h = earlier_course scripts later past h.1

front_course : (scripts : List ScriptView) (history : List Entry) (k : ℕ) → IsCourse scripts (reverse history) → IsCourse scripts (reverse (take k history))
front_course scripts history k course =
    let parts : reverse history ≡ reverse (drop k history) ++ reverse (take k history) =
    ap reverse (sym (take-append-drop k history)) ∙ reverse-append (take k history) (drop k history) in
    earlier_course scripts (reverse (drop k history)) (reverse (take k history)) (subst (IsCourse scripts) parts course)

-- in a course each entry is a turn after those before it
pub turn_at : (scripts : List ScriptView) (history : List Entry) (i : ℕ) (d : Entry) → i < length history → IsCourse scripts (reverse history) →
    IsTurn scripts (reverse (take i history)) (get_or history i d)
turn_at scripts history i d within course =
    (subst (IsCourse scripts) (reverse_more history i d within) (front_course scripts history (i + 1) course)).0

-- ---- the end

-- of that many runs none has a call left
abbrev pub AreLeft : List ScriptView → List Entry → ℕ → Type 0
AreLeft scripts past n = (b : ℕ) → b < n → turn scripts past b ≡ None

pub none_left : (scripts : List ScriptView) (past : List Entry) → AreLeft scripts past 0
none_left scripts past b less = absurd (omega arith)

pub one_more_left : (scripts : List ScriptView) (past : List Entry) (n : ℕ) → AreLeft scripts past n → turn scripts past n ≡ None → AreLeft scripts past (n + 1)
one_more_left scripts past n left none = below_more (λ b. turn scripts past b ≡ None) n left none

pub all_left : (scripts : List ScriptView) (past : List Entry) (n : ℕ) → length scripts ≤ n → AreLeft scripts past n → IsComplete scripts past
all_left scripts past n whole left b less = left b (omega arith)

pub not_left : (scripts : List ScriptView) (past : List Entry) (b : ℕ) (op : Op) → b < length scripts → turn scripts past b ≡ Some op → IsComplete scripts past → ⊥
not_left scripts past b op less some complete = let none : turn scripts past b ≡ None = complete b less in absurd cc

pub ruleset leaving_rules = (none_left, one_more_left, all_left, not_left)

-- ---- a whole history

-- a case is at the first entries of what was noted, whatever was left out of it
pub record Follows (scripts : List ScriptView) (noted : List Entry) (i : ℕ) (t : Case) : Type 0 where
  pub on : IsOn scripts t
  pub so : AllZip IsNotedEntry (take i noted) (reverse (past_of t))
  pub only : (history : List Entry) → AllZip IsNotedEntry noted history → IsCourse scripts (reverse history) → past_of t ≡ reverse (take i history)

pub follows_none : (scripts : List ScriptView) (noted : List Entry) (t : Case) → IsOn scripts t → past_of t ≡ [] → Follows scripts noted 0 t
follows_none scripts noted t on none = record {
  on = on;
  so = subst (λ past. AllZip IsNotedEntry (take 0 noted) (reverse past)) (sym none) tt;
  only = λ history entries course. none;
}

pub follows_more : (scripts : List ScriptView) (noted : List Entry) (i : ℕ) (d : Entry) (t u : Case) → i < length noted → Follows scripts noted i t → IsOn scripts u →
    (e : Entry) × IsNotedEntry (get_or noted i d) e × (past_of u ≡ e ∷ past_of t) → Follows scripts noted (i + 1) u
follows_more scripts noted i d t u within before on (e, as_e, more) =
    let course : IsCourse scripts (e ∷ past_of t) = subst (IsCourse scripts) more on.course in record {
      on = on;
      so = rw (take_more noted i d within, more, reverse-append (e ∷ []) (past_of t))
          (AllZip-push IsNotedEntry (take i noted) (reverse (past_of t)) (get_or noted i d) e before.so as_e);
      only = λ history entries whole.
          let long : length noted ≡ length history = length_all_zip IsNotedEntry noted history entries in
          let inside : i < length history = omega arith in
          let f = get_or history i d in
          let at : past_of t ≡ reverse (take i history) = before.only history entries whole in
          let mine : IsTurn scripts (past_of t) f = subst (λ p. IsTurn scripts p f) (sym at) (turn_at scripts history i d inside whole) in
          let same : e ≡ f = one_turn scripts (past_of t) (get_or noted i d) e f as_e (AllZip-get_or IsNotedEntry noted history i d d entries within) course.0 mine in
          more ∙ (ap (λ x. x ∷ past_of t) same ∙ (ap (λ p. f ∷ p) at ∙ sym (reverse_more history i d inside)));
    }

-- a case that is at the end of what was noted is at its end with this verdict exactly if that is shown
pub shown_at : (scripts : List ScriptView) (n : ℕ) (noted : List Entry) (i : ℕ) (t : Case) (v : Verdict) (is : Bool) → 1 ≤ length scripts → length scripts ≤ n → length noted ≤ i →
    Follows scripts noted i t → ((is ≡ true) ↔ (IsComplete scripts (past_of t) × (v ≡ overall (past_of t)))) → (is ≡ true) ↔ IsShown scripts n noted v
shown_at scripts n noted i t v is some few whole follows means =
    let back : reverse (reverse (past_of t)) ≡ past_of t = reverse-reverse (past_of t) in (
      λ yes. let h = means.0 yes in record {
        some = some;
        few = few;
        history = reverse (past_of t);
        entries = subst (λ l. AllZip IsNotedEntry l (reverse (past_of t))) (take_all i noted whole) follows.so;
        witness = record {
          course = subst (IsCourse scripts) (sym back) follows.on.course;
          complete = subst (IsComplete scripts) (sym back) h.0;
          verdict = h.1 ∙ ap overall (sym back);
        };
      },
      λ s.
          let long : length noted ≡ length s.history = length_all_zip IsNotedEntry noted s.history s.entries in
          let end : length s.history ≤ i = omega arith in
          let here : past_of t ≡ reverse s.history = follows.only s.history s.entries s.witness.course ∙ ap reverse (take_all i s.history end) in
          means.1 (subst (IsComplete scripts) (sym here) s.witness.complete, s.witness.verdict ∙ sym (ap overall here)),
    )

-- what was noted with an entry that is no turn is not
pub not_shown : (scripts : List ScriptView) (n : ℕ) (noted : List Entry) (i : ℕ) (d : Entry) (t : Case) (v : Verdict) → i < length noted → Follows scripts noted i t →
    ((e : Entry) → IsNotedEntry (get_or noted i d) e → IsTurn scripts (past_of t) e → ⊥) → (false ≡ true) ↔ IsShown scripts n noted v
not_shown scripts n noted i d t v within follows none = (
  λ h. absurd cc,
  λ s.
      let long : length noted ≡ length s.history = length_all_zip IsNotedEntry noted s.history s.entries in
      let inside : i < length s.history = omega arith in
      let f = get_or s.history i d in
      let at : past_of t ≡ reverse (take i s.history) = follows.only s.history s.entries s.witness.course in
      absurd (none f (AllZip-get_or IsNotedEntry noted s.history i d d s.entries within)
      (subst (λ p. IsTurn scripts p f) (sym at) (turn_at scripts s.history i d inside s.witness.course))),
)

-- nor is it of no script, or of more scripts than the test case has behaviours
pub too_many : (scripts : List ScriptView) (n : ℕ) (noted : List Entry) (v : Verdict) → (length scripts ≡ 0) ⊎ (n < length scripts) → (false ≡ true) ↔ IsShown scripts n noted v
too_many scripts n noted v (inl none) = (λ h. absurd cc, λ s. let some : 1 ≤ length scripts = s.some in absurd (omega arith))
too_many scripts n noted v (inr more) = (λ h. absurd cc, λ s. let few : length scripts ≤ n = s.few in absurd (omega arith))
