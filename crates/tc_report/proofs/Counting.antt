-- How many test cases have each overall verdict, one test case more, and lines that are numbered.
use Rattle.std.{proofs.{Common.{ℕ, ◌≡◌, ◌∙◌, ◌+◌, Bool, true, false, List, [], ◌∷◌, ◌++◌, length, refl, ap, arith, ◌<◌, codes, take, get_or, sym, append_assoc}, lemmas.List.{Elements.filter-append, append-nil, length-append, length-take-le, take_more}}, specs.{Prelude.{◌==◌, if◌then◌else◌, filter}, Fmt.decimal, List.{enumerate_from, flat_map}}}
use Rattle.tc_rules.specs.Prelude.{Verdict, level_of, name_of}
use Rattle.tc_report.specs.{Inside.{IsOneMore, cases_of, one_if, tally_with}, Report.{tally_of_cases}, declared.results.{Finished.Finished, Tally.Tally}}

abbrev counted : List Finished → ℕ
counted cases = cases_of Verdict.None cases + cases_of Verdict.Pass cases + cases_of Verdict.Inconc cases + cases_of Verdict.Fail cases + cases_of Verdict.Error cases

one_more : (f : Finished) (fs : List Finished) (v : Verdict) → f.report.verdict ≡ v → counted fs ≡ length fs → counted (f ∷ fs) ≡ length (f ∷ fs)
one_more f fs Verdict.None is rest = rw is (omega (arith, rest))
one_more f fs Verdict.Pass is rest = rw is (omega (arith, rest))
one_more f fs Verdict.Inconc is rest = rw is (omega (arith, rest))
one_more f fs Verdict.Fail is rest = rw is (omega (arith, rest))
one_more f fs Verdict.Error is rest = rw is (omega (arith, rest))

pub all_counted : (cases : List Finished) → counted cases ≡ length cases
all_counted [] = refl
all_counted (f ∷ fs) = one_more f fs f.report.verdict refl (all_counted fs)

one_counted : (p : Finished → Bool) (f : Finished) → length (filter p (f ∷ [])) ≡ one_if (p f)
one_counted p f = go (p f)
  where
    go : (b : Bool) → length (if b then f ∷ [] else []) ≡ one_if b
    go true = refl
    go false = refl

-- how many test cases have an overall verdict, one test case more
cases_more : (v : Verdict) (fs : List Finished) (f : Finished) → cases_of v (fs ++ f ∷ []) ≡ cases_of v fs + one_if (level_of f.report.verdict == level_of v)
cases_more v fs f =
    let p : Finished → Bool = λ g. level_of g.report.verdict == level_of v in
    ap length (filter-append p fs (f ∷ [])) ∙ length-append (filter p fs) (filter p (f ∷ [])) ∙ ap (λ n. length (filter p fs) + n) (one_counted p f)

-- the tally, one test case more
tally_more : (fs : List Finished) (f : Finished) → tally_with (tally_of_cases fs) f.report.verdict ≡ tally_of_cases (fs ++ f ∷ [])
tally_more fs f =
    rw (length-append fs (f ∷ []), cases_more Verdict.None fs f, cases_more Verdict.Pass fs f, cases_more Verdict.Inconc fs f, cases_more Verdict.Fail fs f, cases_more Verdict.Error fs f) refl

-- the tally that was counted on by one test case
pub is_one_more : (before after : Tally) (f : Finished) → after ≡ tally_with before f.report.verdict → IsOneMore before f after
is_one_more before after f is = λ fs tally. is ∙ ap (λ t. tally_with t f.report.verdict) tally ∙ tally_more fs f

-- the line of a component
abbrev pub local_line : ℕ → Verdict → List ℕ
local_line comp v = codes "local " ++ (decimal comp ++ (codes " " ++ (name_of v ++ (10 ∷ []))))

-- what is made of each element and its place, from this place on, and of one more
lines_from-more : {A : Type 0} (f : ℕ × A → List ℕ) (n : ℕ) (xs : List A) (y : A) → flat_map f (enumerate_from n (xs ++ y ∷ [])) ≡ flat_map f (enumerate_from n xs) ++ f (n + length xs, y)
lines_from-more f n [] y = let same : n + 0 ≡ n = omega arith in rw same (append-nil (f (n, y)))
lines_from-more f n (x ∷ xs) y =
    let same : (n + 1) + length xs ≡ n + length (x ∷ xs) = omega arith in
    ap (λ l. f (n, x) ++ l) (lines_from-more f (n + 1) xs y ∙ ap (λ k. flat_map f (enumerate_from (n + 1) xs) ++ f (k, y)) same)
    ∙ sym (append_assoc (f (n, x)) (flat_map f (enumerate_from (n + 1) xs)) (f (n + length (x ∷ xs), y)))

pub lines_take : {A : Type 0} (f : ℕ × A → List ℕ) (xs : List A) (i : ℕ) (d : A) → i < length xs
    → flat_map f (enumerate_from 0 (take (i + 1) xs)) ≡ flat_map f (enumerate_from 0 (take i xs)) ++ f (i, get_or xs i d)
lines_take f xs i d h =
    let count : 0 + length (take i xs) ≡ i = omega (arith, length-take-le i xs (omega arith)) in
    ap (λ l. flat_map f (enumerate_from 0 l)) (take_more xs i d h)
    ∙ (lines_from-more f 0 (take i xs) (get_or xs i d) ∙ ap (λ k. flat_map f (enumerate_from 0 (take i xs)) ++ f (k, get_or xs i d)) count)
