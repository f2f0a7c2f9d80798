-- What one more entry says of the runs: something of its caller, and of the run that it starts.
use Rattle.std.proofs.Common.{ℕ, ◌≡◌, ◌==◌, if◌then◌else◌, Bool, true, false, Option, Some, None, List, length, slice_index_or, refl, ap, sym, ◌∙◌, arith}
use Rattle.tc_rules.{specs.Prelude.{Run, Comp, Entry, Op, is_ok, started_on, starts_run}, proofs.Lemmas.Deciding.{self_equal, equal_if, if_same}}
use Rattle.tc_course.specs.{Course.{CourseState, after_other_by, next}, Inside.{TakesIn, TakesInFor, next_for}}

untouched_by : (o : Option Comp) (e : Entry) (b : ℕ) (s : CourseState) → started_on e b ≡ None → after_other_by o e b s ≡ s
untouched_by (Some c) e b s h = refl
untouched_by None e b s h = rw h refl

-- an entry of another run, that does not start this one
untouched : (e : Entry) (b : ℕ) (s : CourseState) → (e.caller.0 == b) ≡ false → started_on e b ≡ None → next e b s ≡ s
untouched e b s other none = rw other (untouched_by s.comp e b s none)

for_all : (e : Entry) (b : ℕ) (s : CourseState) → ((e.caller.0 == b) ≡ false → started_on e b ≡ None) → next_for e.caller.0 e b s ≡ next e b s
for_all e b s none = by_test (e.caller.0 == b) refl
  where
    by_test : (t : Bool) → (e.caller.0 == b) ≡ t → (if t then next e b s else s) ≡ next e b s
    by_test true k = refl
    by_test false k = sym (untouched e b s k (none k))

-- the entry starts nothing
pub taken_one : (e : Entry) (before after : List CourseState) → TakesInFor e.caller.0 e before after → ((b : ℕ) → starts_run e.op b ≡ None) → TakesIn e before after
taken_one e before after one none = λ b d less. one b d less ∙ for_all e b (slice_index_or before b d) (λ other. rw (none b) (if_same (is_ok e.reply) None))

started_not : (e : Entry) (run : Run) (b : ℕ) → ((c : ℕ) → (run.0 == c) ≡ false → starts_run e.op c ≡ None) → (run.0 == b) ≡ false → started_on e b ≡ None
started_not e run b only other = rw (only b other) (if_same (is_ok e.reply) None)

-- the entry starts this run, if any
pub taken_both : (e : Entry) (run : Run) (before between after : List CourseState) → length between ≡ length before → (run.0 == e.caller.0) ≡ false → ((c : ℕ) → (run.0 == c) ≡ false → starts_run e.op c ≡ None) →
    TakesInFor e.caller.0 e before between → TakesInFor run.0 e between after → TakesIn e before after
taken_both e run before between after as_many other only one two = λ b d less.
    two b d (omega (arith, as_many)) ∙ (ap (next_for run.0 e b) (one b d less) ∙ by_tests b d (run.0 == b) (e.caller.0 == b) refl refl)
  where
    by_tests : (b : ℕ) (d : CourseState) → (s t : Bool) → (run.0 == b) ≡ s → (e.caller.0 == b) ≡ t →
        (if s then next e b (if t then next e b (slice_index_or before b d) else slice_index_or before b d) else (if t then next e b (slice_index_or before b d) else slice_index_or before b d)) ≡ next e b (slice_index_or before b d)
    by_tests b d true true j k = absurd (not_both b j k)
      where
        not_both : (x : ℕ) → (run.0 == x) ≡ true → (e.caller.0 == x) ≡ true → ⊥
        not_both x h i = let one : run.0 ≡ x = equal_if run.0 x h in let two : e.caller.0 ≡ x = equal_if e.caller.0 x i in let same : run.0 ≡ e.caller.0 = one ∙ sym two in let yes : (run.0 == e.caller.0) ≡ true = rw same (self_equal e.caller.0) in absurd cc
    by_tests b d true false j k = refl
    by_tests b d false true j k = refl
    by_tests b d false false j k = sym (untouched e b (slice_index_or before b d) k (started_not e run b only j))

only_start : (c : Comp) (run : Run) (args : List Comp) (b : ℕ) → (run.0 == b) ≡ false → starts_run (Op.Start c run args) b ≡ None
only_start c run args b h = rw h refl

pub only_this : (op : Op) (c : Comp) (run : Run) (args : List Comp) → op ≡ Op.Start c run args → (b : ℕ) → (run.0 == b) ≡ false → starts_run op b ≡ None
only_this op c run args is b h = ap (λ o. starts_run o b) is ∙ only_start c run args b h

pub ruleset taking_rules = (taken_one, taken_both, only_this)
