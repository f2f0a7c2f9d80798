-- Lines that need no look at their words, and what the first pass remembers of the lines before.
use Rattle.std.{proofs.{Common.{ℕ, ◌≡◌, Bool, true, false, Ok, List, [], ◌∷◌, length, refl, sym, ap, cond, arith, Result, Err, codes}, lemmas.{Bool.Decides.nat_tests, List.length-append}}, specs.{Prelude.{◌==◌, filter, slice_index, nat_le, nat_lt, ◌||◌, if◌then◌else◌, Option, Some, None}, Cmp.Lexicographic.bytes_decides, List.{onto_first, slice_split}, Option.option_map_or}}
use Rattle.tc_entry.specs.declared.limits.TheConstants.{ARGUMENTS, BEHAVIOURS}
use Rattle.tc_step.specs.declared.limits.TheConstants.{STEPS}
use Rattle.tc_reader.specs.{FirstPass.{argument_count, open_after, opened, passes_limit, placed, steps_in}, Inside.{counted, counted_with, counts_of, is_some_text, is_space}, Line.{form, line_of, line_with}, Scope.{behaviours_before, cases_before}, Text.words, Words.{is_text, keyword}, declared.{counts.{Counts.Counts, Open.Open}, kind.ScriptKind.ScriptKind, line.Line.Line}}

-- an empty line
pub empty_line : (line : List ℕ) → (length line == 0) ≡ true → line_of line ≡ Ok Line.Skipped
unfolding line_of words
empty_line [] is = refl
empty_line (b ∷ bs) is = let none : length (b ∷ bs) ≡ 0 = grind (arith, nat_tests, is) in absurd (omega (arith, none))

-- a comment
pub comment_line : (line : List ℕ) → (slice_index line 0 == 35) ≡ true → line_of line ≡ Ok Line.Skipped
unfolding line_of words
comment_line [] is = absurd cc
comment_line (b ∷ bs) is = let hash : b ≡ 35 = grind (arith, nat_tests, is) in rw hash (by (slice_split is_space bs))
  where
    by : (ps : List (List ℕ)) → line_with (35 ∷ bs) (filter is_some_text (onto_first 35 ps)) ≡ Ok Line.Skipped
    by [] = refl
    by (p ∷ ps) = at (is_some_text (35 ∷ p)) (grind (arith, nat_tests))
      where
        at : (b : Bool) → b ≡ true → line_with (35 ∷ bs) (cond b ((35 ∷ p) ∷ filter is_some_text ps) (filter is_some_text ps)) ≡ Ok Line.Skipped
        at true e = refl
        at false e = absurd cc

the_end : line_of (codes "end") ≡ Ok Line.End
unfolding line_of words is_text keyword form
the_end = refl

-- the end of what is open
pub end_line : (line : List ℕ) → is_text line (codes "end") ≡ true → line_of line ≡ Ok Line.End
unfolding is_text
end_line line is = let same : line ≡ codes "end" = (bytes_decides line (codes "end")).0 is in rw same the_end

abbrev made : Open → ℕ → ℕ → ℕ → Counts
made o c b s = record { state = o; cases = c; behaviours = b; steps = s }

-- what `counted` answers, against `placed`
abbrev pub Agrees : List Line → Line → Result Counts ScriptKind → Type 0
Agrees past l (Ok s) = (placed past l ≡ Ok l) × (s ≡ counts_of (l ∷ past))
Agrees past l (Err kind) = placed past l ≡ Err kind

-- what is open after a line that may be there
opens : (past : List Line) (l : Line) (o : Open) → open_after l (opened past) ≡ Some o → opened (l ∷ past) ≡ o
unfolding opened
opens past l o is = rw is refl

within : (past : List Line) (l : Line) (s : Counts) (b : Bool) → (placed past l ≡ (if b then Err ScriptKind.TooMany else Ok l)) → s ≡ counts_of (l ∷ past) → Agrees past l (if b then Err ScriptKind.TooMany else Ok s)
within past l s true is same = is
within past l s false is same = (is, same)

-- a line that may be there, by its kind
counts_at : (past : List Line) (l : Line) (o : Open) → opened (l ∷ past) ≡ o → (placed past l ≡ (if passes_limit l past then Err ScriptKind.TooMany else Ok l))
    → Agrees past l (counted_with l o (counts_of past))
unfolding steps_in
counts_at past (Line.TestCase n) o e is = within past (Line.TestCase n) _ (nat_le 1000 (length (cases_before past))) is (rw e (ap (λ k. made o k 0 (steps_in past)) (sym (length-append (cases_before past) (n ∷ [])))))
counts_at past (Line.Behaviour n ps) o e is =
    within past (Line.Behaviour n ps) _ (nat_le BEHAVIOURS (length (behaviours_before past)) || nat_lt ARGUMENTS (length ps)) is
    (rw e (ap (λ k. made o (length (cases_before past)) k 0) (sym (length-append (behaviours_before past) (n ∷ [])))))
counts_at past (Line.Step call) o e is =
    within past (Line.Step call) _ (nat_le STEPS (steps_in past) || nat_lt ARGUMENTS (argument_count call)) is (rw e (ap (λ k. made o (length (cases_before past)) (length (behaviours_before past)) k) (omega arith)))
counts_at past _ o e is = (is, rw e refl)

pub counted_agrees : (past : List Line) (l : Line) → Agrees past l (counted (counts_of past) l)
counted_agrees past l = by (open_after l (opened past)) refl
  where
    by : (o : Option Open) → open_after l (opened past) ≡ o → Agrees past l (option_map_or (λ o. counted_with l o (counts_of past)) o (Err ScriptKind.BadPlace))
    by None e = rw e refl
    by (Some o) e = counts_at past l o (opens past l o e) (rw e refl)
