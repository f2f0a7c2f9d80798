-- Small facts on tests, options and operations, which several files need.
use Rattle.std.proofs.{Common.{ℕ, ◌≡◌, ◌==◌, ◌&&◌, ◌||◌, ◌<◌, ◌≤◌, if◌then◌else◌, Bool, true, false, Option, Some, None, is_some, [], ◌∷◌, refl, arith}, lemmas.Bool.Decides.nat_tests}
use Rattle.tc_entry.specs.{declared.comp.Comp.Comp, declared.op.Op.Op, declared.reply.Reply.Reply, Prelude.{Verdict, is_fault, is_ok}}
use Rattle.tc_rules.specs.{Inside.Words.first_some, History.is_comp, History.is_finish, History.is_kill_of, History.is_stop_case, History.is_stop_of, Inside.Laws.halting_op, Local.gives}

pub self_equal : (m : ℕ) → (m == m) ≡ true
self_equal m = grind (arith, nat_tests)

pub equal_if : (m n : ℕ) → (m == n) ≡ true → m ≡ n
equal_if m n h = grind (arith, nat_tests)

pub if_same : {A : Type 0} (t : Bool) (x : A) → (if t then x else x) ≡ x
if_same true x = refl
if_same false x = refl

pub test_by : {A : Type 0} (t : Bool) (d' d : A) → (if t then Some d' else None) ≡ Some d → (t ≡ true) × (d' ≡ d)
test_by true d' d h = (refl, cc)
test_by false d' d h = absurd cc

pub and_no : (b : Bool) → (b && false) ≡ false
and_no true = refl
and_no false = refl

pub and_yes : (b : Bool) → (b && true) ≡ b
and_yes true = refl
and_yes false = refl

pub and_left : (a b : Bool) → (a && b) ≡ true → a ≡ true
and_left true b h = refl
and_left false b h = absurd cc

pub and_right : (a b : Bool) → (a && b) ≡ true → b ≡ true
and_right true b h = h
and_right false b h = absurd cc

pub none_if : {A : Type 0} (o : Option A) → is_some o ≡ false → o ≡ None
none_if (Some x) h = absurd cc
none_if None h = refl

pub first_alone : {A : Type 0} (o : Option A) → first_some o None ≡ o
first_alone (Some x) = refl
first_alone None = refl

pub ok_is : (reply : Reply) → is_ok reply ≡ true → reply ≡ Reply.Ok
ok_is Reply.Ok h = refl
ok_is _ h = absurd cc

-- a reply that is neither Ok nor an error gives no verdict
pub gives_nothing : (op : Op) (reply : Reply) → is_ok reply ≡ false → is_fault reply ≡ false → gives op reply ≡ []
gives_nothing (Op.SetVerdict v) Reply.Ok o f = absurd cc
gives_nothing op reply o f = no_error (is_fault reply) (is_stop_case op) (is_ok reply) f o
  where
    no_error : (fault stop ok : Bool) → fault ≡ false → ok ≡ false → (if fault || (stop && ok) then Verdict.Error ∷ [] else []) ≡ []
    no_error fault stop ok f o = rw (f, o, and_no stop) refl

-- nor does a reply that is no error to what sets none
pub gives_if : (op : Op) (reply : Reply) → is_fault reply ≡ false → gives op Reply.Ok ≡ [] → gives op reply ≡ []
gives_if op reply f none = by_test (is_ok reply) refl
  where
    by_test : (t : Bool) → is_ok reply ≡ t → gives op reply ≡ []
    by_test true o = rw (ok_is reply o) none
    by_test false o = gives_nothing op reply o f

-- a component is none that is beyond it
pub other_comp : (o : Option Comp) (c : ℕ) (n : ℕ) → ((d : Comp) → o ≡ Some d → d.0 < n) → n ≤ c → is_comp o c ≡ false
other_comp None c n h out = refl
other_comp (Some d) c n h out = let k : d.0 < n = h d refl in grind (arith, nat_tests)

-- what an operation that halts nothing is not

pub no_stop : (op : Op) (c : ℕ) → halting_op op ≡ false → is_stop_of op c ≡ false
no_stop (Op.Stop group) c h = absurd cc
no_stop _ c h = refl

pub no_kill : (op : Op) (c : ℕ) → halting_op op ≡ false → is_kill_of op c ≡ false
no_kill (Op.Kill group) c h = absurd cc
no_kill _ c h = refl

pub no_stop_case : (op : Op) → halting_op op ≡ false → is_stop_case op ≡ false
no_stop_case Op.StopCase h = absurd cc
no_stop_case _ h = refl

pub no_finish : (op : Op) → halting_op op ≡ false → is_finish op ≡ false
no_finish Op.Finish h = absurd cc
no_finish _ h = refl
