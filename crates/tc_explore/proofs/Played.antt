-- A course follows from which run made each call.
use Rattle.std.proofs.{Common.{ℕ, ◌≡◌, ◌+◌, ◌<◌, ◌≤◌, nat_lt, if◌then◌else◌, true, false, Bool, Some, None, List, [], ◌∷◌, ◌++◌, length, map, reverse, take, get_or, refl, ap, sym, ◌∙◌, arith}, lemmas.{Bool.Decides.nat_tests, List.{map-append, reverse-append, reverse-reverse, take_all, take_more}}}
use Rattle.tc_rules.specs.Prelude.{Case, Entry, Run, past_of}
use Rattle.tc_step.specs.Prelude.{ScriptView}
use Rattle.tc_course.{specs.Prelude.{IsCourse, IsOn, turn}, proofs.Lemmas.{course_legal, has_turn, run_in_range, stand_comp}}
use Rattle.tc_explore.specs.Inside.Played.{made_if, made_next, played, turn_within}

played_last : (scripts : List ScriptView) (past : List Entry) (calls : List Run) (run : Run) → played scripts past (calls ++ run ∷ []) ≡ made_next scripts run (played scripts past calls)
played_last scripts past [] run = refl
played_last scripts past (first ∷ calls) run = played_last scripts (made_next scripts first past) calls run

-- an entry is its caller's next call
made_again : (scripts : List ScriptView) (past : List Entry) (e : Entry) → 1 ≤ length scripts → IsCourse scripts (e ∷ past) → made_next scripts e.caller past ≡ e ∷ past
made_again scripts past e some course =
    ap (made_if (length scripts) past e.caller) calls ∙ ap (λ r. record { caller = e.caller; op = e.op; reply = r } ∷ past) (sym course.0.reply)
  where
    near : e.caller.0 < length scripts
    near =
        let t = has_turn scripts past e.caller.0 e.op course.0.turn in
        run_in_range (length scripts) past e.caller.0 t.me some (course_legal scripts past course.1) (sym (stand_comp scripts past e.caller.0 course.1) ∙ t.on)

    within : (b : Bool) → nat_lt e.caller.0 (length scripts) ≡ b → (if b then turn scripts past e.caller.0 else None) ≡ Some e.op
    within true h = course.0.turn
    within false h = absurd (grind (arith, nat_tests, near))

    calls : turn_within scripts past e.caller.0 ≡ Some e.op
    calls = within (nat_lt e.caller.0 (length scripts)) refl

-- the callers of a course, the first first, make it again
played_callers : (scripts : List ScriptView) (past : List Entry) → 1 ≤ length scripts → IsCourse scripts past → played scripts [] (map (λ (e : Entry). e.caller) (reverse past)) ≡ past
played_callers scripts [] some course = refl
played_callers scripts (e ∷ past) some course =
    ap (λ xs. played scripts [] (map (λ (x : Entry). x.caller) xs)) (reverse-append (e ∷ []) past)
    ∙ (ap (played scripts []) (map-append (λ (x : Entry). x.caller) (reverse past) (e ∷ []))
    ∙ (played_last scripts [] (map (λ (x : Entry). x.caller) (reverse past)) e.caller
    ∙ (ap (made_next scripts e.caller) (played_callers scripts past some course.1) ∙ made_again scripts past e some course)))

pub history_kept : (scripts : List ScriptView) (t : Case) (calls : List Run) → 1 ≤ length scripts → IsOn scripts t → calls ≡ map (λ (e : Entry). e.caller) t.history → reverse (played scripts [] calls) ≡ t.history
history_kept scripts t calls some on is =
    let back : calls ≡ map (λ (e : Entry). e.caller) (reverse (past_of t)) = is ∙ ap (map (λ (e : Entry). e.caller)) (sym (reverse-reverse t.history)) in
    ap (λ c. reverse (played scripts [] c)) back ∙ (ap reverse (played_callers scripts (past_of t) some on.course) ∙ reverse-reverse t.history)

pub history_played : (scripts : List ScriptView) (t : Case) (calls : List Run) → past_of t ≡ played scripts [] calls → t.history ≡ reverse (played scripts [] calls)
history_played scripts t calls is = sym (reverse-reverse t.history) ∙ ap reverse is

-- one call more, and all of them
pub played_more : (scripts : List ScriptView) (calls : List Run) (i : ℕ) (d : Run) → i < length calls → played scripts [] (take (i + 1) calls) ≡ made_next scripts (get_or calls i d) (played scripts [] (take i calls))
played_more scripts calls i d near = ap (played scripts []) (take_more calls i d near) ∙ played_last scripts [] (take i calls) (get_or calls i d)

pub played_all : (scripts : List ScriptView) (calls : List Run) (n : ℕ) → length calls ≤ n → played scripts [] (take n calls) ≡ played scripts [] calls
played_all scripts calls n whole = ap (played scripts []) (take_all n calls whole)
