-- A worked case, computed from the definitions.
use Rattle.std.{proofs.{Common.{ℕ, zero, suc, ◌<◌, ◌≡◌, ◌==◌, if◌then◌else◌, Bool, true, false, ◌&&◌, Option, Some, None, is_none, List, [], ◌∷◌, ◌++◌, filter, get_or, length, reverse, refl, sym, ap, subst, arith, ◌∙◌}, lemmas.Bool.ne_eqb}, specs.{List.{All, AllByRecursion}, Option.option_map_or}}
use Rattle.tc_rules.proofs.Lemmas.Deciding.{and_left, and_right}
use Rattle.tc_rules.specs.{Prelude.{Run, UserVerdict, Comp, Entry, Op, Reply, comp_of, started, is_late, exists, phase, running, alive, done, killed, holds, is_stuck, all_exist, start_fault, components, fault, is_active, answer, IsLegal, local, overall, is_other, log_of, merge, late, part, Verdict, Group}, declared.run_log.RunLog.RunLog}
use Rattle.tc_book.specs.OneCase.{AreOfOneCase}

abbrev entry : ℕ → Op → Reply → Entry
entry b op r = record { caller = record { 0 = b }; op = op; reply = r }

abbrev comp : ℕ → Comp
comp c = record { 0 = c }

abbrev run : ℕ → Run
run b = record { 0 = b }

abbrev set : ℕ → UserVerdict → Reply → Entry
set b v r = entry b (Op.SetVerdict v) r

abbrev get : ℕ → Reply → Entry
get b r = entry b Op.GetVerdict r

abbrev create : Entry
create = entry 0 (Op.Create true None) (Reply.Made (comp 1))

abbrev start : ℕ → Entry
start b = entry 0 (Op.Start (comp 1) (run b) []) Reply.Ok

abbrev stop : Entry
stop = entry 0 (Op.Stop (Group.One (comp 1))) Reply.Ok

abbrev finish : Entry
finish = entry 0 Op.Finish Reply.Ok

abbrev history : List Entry
history = create ∷ start 1 ∷ stop ∷ start 2 ∷ finish ∷ []

abbrev main_log : RunLog
main_log = record {
  run = run 0;
  comp = comp 0;
  entries = set 0 UserVerdict.None Reply.Ok ∷ create ∷ start 1 ∷ get 0 (Reply.Local Verdict.None) ∷ stop ∷ start 2 ∷ finish ∷ [];
}

abbrev first_log : RunLog
first_log = record { run = run 1; comp = comp 1; entries = set 1 UserVerdict.Inconc Reply.Ok ∷ set 1 UserVerdict.Fail Reply.Ended ∷ [] }

abbrev second_log : RunLog
second_log = record { run = run 2; comp = comp 1; entries = get 2 (Reply.Local Verdict.Inconc) ∷ set 2 UserVerdict.Pass Reply.Ok ∷ get 2 Reply.Ended ∷ [] }

abbrev merged : List Entry
merged =
    set 0 UserVerdict.None Reply.Ok ∷ create ∷ start 1 ∷ get 0 (Reply.Local Verdict.None) ∷ set 1 UserVerdict.Inconc Reply.Ok ∷ stop ∷ start 2
    ∷ get 2 (Reply.Local Verdict.Inconc) ∷ set 2 UserVerdict.Pass Reply.Ok ∷ finish ∷ set 1 UserVerdict.Fail Reply.Ended ∷ get 2 Reply.Ended ∷ []

merge_of_three_logs : merge history (second_log ∷ main_log ∷ first_log ∷ []) ≡ merged
unfolding merge late
merge_of_three_logs = refl

merged_in_order : merge history (main_log ∷ first_log ∷ second_log ∷ []) ≡ merged
unfolding merge late
merged_in_order = refl

merge_of_nothing : merge [] [] ≡ []
unfolding merge late
merge_of_nothing = refl

merged_is_legal : IsLegal 3 (reverse merged)
unfolding exists phase running alive done killed local overall holds is_stuck all_exist start_fault components fault is_active answer
merged_is_legal = (refl, (refl, (refl, (refl, (refl, (refl, (refl, (refl, (refl, (refl, (refl, (refl, tt))))))))))))

merged_is_inconc : overall (reverse merged) ≡ Verdict.Inconc
unfolding exists phase running alive done killed local overall holds is_stuck all_exist start_fault components fault is_active answer
merged_is_inconc = refl

-- The history and the logs of the worked case come from one case.
abbrev logs : List RunLog
logs = second_log ∷ main_log ∷ first_log ∷ []

by_recursion : (b : ℕ) (xs : List Entry) → AllByRecursion (λ e. e.caller.0 ≡ b) xs → All (λ e. e.caller.0 ≡ b) xs
by_recursion b [] h = λ k d q. absurd (omega arith)
by_recursion b (e ∷ es) h = at (by_recursion b es h.1)
  where
    at : All (λ e. e.caller.0 ≡ b) es → (k : ℕ) (d : Entry) → k < length (e ∷ es) → (get_or (e ∷ es) k d).caller.0 ≡ b
    at rest zero d q = h.0
    at rest (suc k) d q = rest k d (omega arith)

-- b is the number of a run of the case, or no log has it
pub record IsElse (b : ℕ) : Type 0 where
  pub main : (0 == b) ≡ false
  pub first : (1 == b) ≡ false
  pub second : (2 == b) ≡ false

by_number : (P : ℕ → Type 0) → P 0 → P 1 → P 2 → ((b : ℕ) → IsElse b → P b) → (b : ℕ) → P b
by_number P main first second others zero = main
by_number P main first second others (suc zero) = first
by_number P main first second others (suc (suc zero)) = second
by_number P main first second others (suc (suc (suc b))) =
    others (suc (suc (suc b))) (record {
      main = ne_eqb 0 (suc (suc (suc b))) (omega arith);
      first = ne_eqb 1 (suc (suc (suc b))) (omega arith);
      second = ne_eqb 2 (suc (suc (suc b))) (omega arith);
    })

abbrev starts_once : List Entry → Bool
starts_once [] = true
starts_once (e ∷ past) = option_map_or (λ run. is_none (comp_of past run.0)) (started e) true && starts_once past

none_there : (o : Option Comp) → is_none o ≡ true → o ≡ None
none_there (Some c) h = absurd cc
none_there None h = refl

once_by : (past later earlier : List Entry) (e : Entry) (run : Run) → starts_once past ≡ true → past ≡ later ++ e ∷ earlier → started e ≡ Some run → comp_of earlier run.0 ≡ None
once_by past [] earlier e run s q is =
    let starts : Option Run → Bool = λ o. option_map_or (λ (r : Run). is_none (comp_of earlier r.0)) o true in
    none_there (comp_of earlier run.0) (ap starts (sym is) ∙ and_left (starts (started e)) (starts_once earlier) (subst (λ l. starts_once l ≡ true) q s))
once_by past (d ∷ later) earlier e run s q is =
    let rest : List Entry = later ++ e ∷ earlier in
    once_by rest later earlier e run (and_right (option_map_or (λ (r : Run). is_none (comp_of rest r.0)) (started d) true) (starts_once rest) (subst (λ l. starts_once l ≡ true) q s)) refl is

no_log : (b : ℕ) → IsElse b → log_of logs b ≡ []
no_log b other = rw (other.second, other.main, other.first) refl

no_part : (b : ℕ) → IsElse b → part history b ≡ []
unfolding part
no_part b other = rw other.main refl

part_of_main : filter is_other (log_of logs 0) ≡ part history 0
unfolding part
part_of_main = refl

part_of_first : filter is_other (log_of logs 1) ≡ part history 1
unfolding part
part_of_first = refl

part_of_second : filter is_other (log_of logs 2) ≡ part history 2
unfolding part
part_of_second = refl

abbrev is_empty : List Entry → Bool
is_empty [] = true
is_empty (e ∷ es) = false

abbrev stops_when_late : List Entry → Bool
stops_when_late [] = true
stops_when_late (e ∷ es) = if is_late e then is_empty es else stops_when_late es

not_empty : (before after : List Entry) (e : Entry) → is_empty (before ++ e ∷ after) ≡ true → ⊥
not_empty [] after e h = cc
not_empty (d ∷ before) after e h = cc

none_left : (es : List Entry) → is_empty es ≡ true → es ≡ []
none_left [] h = refl
none_left (e ∷ es) h = absurd cc

late_last : (es before after : List Entry) (e : Entry) → stops_when_late es ≡ true → es ≡ before ++ e ∷ after → is_late e ≡ true → after ≡ []
late_last es [] after e s q late = by (is_late e) late (subst (λ l. stops_when_late l ≡ true) q s)
  where
    by : (t : Bool) → t ≡ true → (if t then is_empty after else stops_when_late after) ≡ true → after ≡ []
    by true k h = none_left after h
    by false k h = absurd cc
late_last es (d ∷ before) after e s q late =
    by (is_late d) (subst (λ l. stops_when_late l ≡ true) q s) (λ h. late_last (before ++ e ∷ after) before after e h refl late)
  where
    by : (t : Bool) → (if t then is_empty (before ++ e ∷ after) else stops_when_late (before ++ e ∷ after)) ≡ true →
        (stops_when_late (before ++ e ∷ after) ≡ true → after ≡ []) → after ≡ []
    by true h more = absurd (not_empty before after e h)
    by false h more = more h

three_logs_of_one_case : AreOfOneCase history logs
three_logs_of_one_case = record {
  started = refl;
  once = λ run later earlier e. once_by (reverse history) later earlier e run refl;
  unstarted = by_number (λ b. comp_of (reverse history) b ≡ None → log_of logs b ≡ []) (λ h. absurd cc) (λ h. absurd cc) (λ h. absurd cc) (λ b other h. no_log b other);
  own = by_number (λ b. All (λ e. e.caller.0 ≡ b) (log_of logs b))
      (by_recursion 0 (log_of logs 0) (refl, (refl, (refl, (refl, (refl, (refl, (refl, tt))))))))
      (by_recursion 1 (log_of logs 1) (refl, (refl, tt)))
      (by_recursion 2 (log_of logs 2) (refl, (refl, (refl, tt))))
      (λ b other. rw (no_log b other) (by_recursion b [] tt));
  others = by_number (λ b. filter is_other (log_of logs b) ≡ part history b) part_of_main part_of_first part_of_second
      (λ b other. ap (λ l. filter is_other l) (no_log b other) ∙ sym (no_part b other));
  stop = by_number (λ b. (before after : List Entry) (e : Entry) → log_of logs b ≡ before ++ e ∷ after → is_late e ≡ true → after ≡ [])
      (λ before after e. late_last (log_of logs 0) before after e refl)
      (λ before after e. late_last (log_of logs 1) before after e refl)
      (λ before after e. late_last (log_of logs 2) before after e refl)
      (λ b other before after e. late_last (log_of logs b) before after e (ap stops_when_late (no_log b other)));
}
