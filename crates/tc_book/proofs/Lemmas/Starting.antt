-- A list of starts, as one more start is noted in it.
use Rattle.std.proofs.{Common.{ℕ, zero, suc, ◌≡◌, ◌≢◌, ◌<◌, ◌==◌, if◌then◌else◌, Bool, true, false, Option, Some, None, is_none, List, [], ◌∷◌, ◌++◌, length, set, refl, ◌∙◌, arith}, lemmas.Bool.Decides.nat_tests, lemmas.List.{get_or-set_other, get_or-set_same, length-set}}
use Rattle.tc_rules.{specs.Prelude.{Run, Comp, Entry, Op, Reply, first_some, answer}, proofs.Lemmas.Sound.{plain_if, no_special, start_in_range}}
use Rattle.tc_book.specs.Inside.{start_at, StartsBelow}

abbrev Starts : Type 0
Starts = List (Option (Comp × List Comp))

pub none_more : (xs : Starts) (b : ℕ) → ((k : ℕ) → start_at xs k ≡ None) → start_at (xs ++ None ∷ []) b ≡ None
none_more [] zero h = refl
none_more [] (suc b) h = refl
none_more (x ∷ xs) zero h = h 0
none_more (x ∷ xs) (suc b) h = none_more xs b (λ k. h (suc k))

pub no_more : (o : Option (Comp × List Comp)) → o ≡ first_some o None
no_more (Some x) = refl
no_more None = refl

kept_if : (o : Option (Comp × List Comp)) (t : Bool) (s : Comp × List Comp) → (t ≡ true → is_none o ≡ false) → o ≡ first_some o (if t then Some s else None)
kept_if (Some x) t s h = refl
kept_if None true s h = absurd (let q = h refl in cc)
kept_if None false s h = refl

none_if : (o : Option (Comp × List Comp)) → is_none o ≡ true → o ≡ None
none_if None h = refl
none_if (Some x) h = absurd cc

-- the run is not yet started
pub noted : (xs : Starts) (run : Run) (s : Comp × List Comp) (b : ℕ) → run.0 < length xs → is_none (start_at xs run.0) ≡ true →
    start_at (set xs run.0 (Some s)) b ≡ first_some (start_at xs b) (if run.0 == b then Some s else None)
noted xs run s b below free = by_test (run.0 == b) refl
  where
    by_test : (t : Bool) → (run.0 == b) ≡ t → start_at (set xs run.0 (Some s)) b ≡ first_some (start_at xs b) (if t then Some s else None)
    by_test true k =
        let q : run.0 ≡ b = grind (arith, nat_tests) in
        let n : start_at xs b ≡ None = rw (← q) (none_if (start_at xs run.0) free) in
        rw (n, ← q) (get_or-set_same xs run.0 (Some s) None below)
    by_test false k =
        let ne : b ≢ run.0 = grind (arith, nat_tests) in
        get_or-set_other xs run.0 b (Some s) None ne ∙ no_more (start_at xs b)

-- the run was started before
pub noted_before : (xs : Starts) (run : Run) (s : Comp × List Comp) (b : ℕ) → is_none (start_at xs run.0) ≡ false →
    start_at xs b ≡ first_some (start_at xs b) (if run.0 == b then Some s else None)
noted_before xs run s b there = kept_if (start_at xs b) (run.0 == b) s (λ k. let q : run.0 ≡ b = same (run.0) b k in rw (← q) there)
  where
    same : (m n : ℕ) → (m == n) ≡ true → m ≡ n
    same m n h = grind (arith, nat_tests)

-- the run of a Start replied Ok is one of the behaviours
pub starts_below : (n m : ℕ) (past : List Entry) (run : Run) (op : Op) (reply : Reply) → reply ≡ answer n past run.0 op → m ≡ n → StartsBelow op reply m
starts_below n m past run (Op.Start c b args) Reply.Ok legal same =
    let plain = plain_if n past run.0 (Op.Start c b args) Reply.Ok refl refl legal in
    rw same (start_in_range n past c.0 b.0 (no_special n past run.0 (Op.Start c b args) plain.no_fault))
starts_below n m past run (Op.Start c b args) _ legal same = tt
starts_below n m past run _ reply legal same = tt

pub ruleset note_rules = (noted, noted_before, length-set, no_more)
