-- The fields of a record are written as they are.
use Rattle.std.{proofs.{Common.{ℕ, ◌≡◌, ◌<◌, ◌≤◌, true, false, List, [], ◌∷◌, ◌++◌, map, ap, refl, arith, length, slice_index_or}, lemmas.{Bool.Decides.nat_tests, Grind.get_or_default_zero, List.{Elements.{All-cons, All-head, All-nil, All-tail}, Folds.list_any_none, append-nil}}}, specs.{Fmt.{IsBoundedDecimal, decimal}, List.{All, join_with_byte, list_any}}}
use Rattle.csv.specs.Writing.{default_writer, needs_byte, field_text, fields_text, row_text, is_blank}
use Rattle.tc_rules.specs.Prelude.{Verdict, name_of, is_name_byte, IsName}
use Rattle.tc_report.specs.{Inside.{counts_of, csv_line}, Status.ended, declared.{results.CaseEnd.CaseEnd, summary.Summary.Summary}}
use Rattle.tc_entry.proofs.Lemmas.Names.{name_parts}

-- no byte of the field calls for quotes
abbrev pub IsUnquoted : List ℕ → Type 0
IsUnquoted f = list_any (needs_byte default_writer) f ≡ false

needs-word_byte : (b : ℕ) → 47 < b → needs_byte default_writer b ≡ false
needs-word_byte b h = grind (arith, nat_tests)

name_byte_above : (b : ℕ) → is_name_byte b ≡ true → 47 < b
name_byte_above b h = grind (arith, nat_tests)

name-unquoted : (bs : List ℕ) → IsName bs → IsUnquoted bs
name-unquoted bs name = list_any_none (needs_byte default_writer) bs (λ k d h. needs-word_byte (slice_index_or bs k d) (name_byte_above (slice_index_or bs k d) ((name_parts bs name).allowed k d h)))

digit_above : (n : ℕ) → IsBoundedDecimal n → (k d : ℕ) → k < length (decimal n) → 47 < slice_index_or (decimal n) k d
digit_above n digits k d h =
    let low : 48 ≤ slice_index_or (decimal n) k 0 = (digits.all_digits k h).0 in
    rw (get_or_default_zero (decimal n) k d h) low

decimal-unquoted : (n : ℕ) → IsBoundedDecimal n → IsUnquoted (decimal n)
decimal-unquoted n digits = list_any_none (needs_byte default_writer) (decimal n) (λ k d h. needs-word_byte (slice_index_or (decimal n) k d) (digit_above n digits k d h))

verdict-unquoted : (v : Verdict) → IsUnquoted (name_of v)
verdict-unquoted Verdict.None = refl
verdict-unquoted Verdict.Pass = refl
verdict-unquoted Verdict.Inconc = refl
verdict-unquoted Verdict.Fail = refl
verdict-unquoted Verdict.Error = refl

end-unquoted : (ending : CaseEnd) → IsUnquoted (ended ending).0
end-unquoted (CaseEnd.Over v) = verdict-unquoted v
end-unquoted CaseEnd.Unfinished = refl
end-unquoted (CaseEnd.Aborted why) = refl
end-unquoted CaseEnd.Missing = refl
end-unquoted CaseEnd.NotRun = refl

counts-unquoted : (ns : List ℕ) (rest : List (List ℕ)) → All IsBoundedDecimal ns → All IsUnquoted rest → All IsUnquoted (map decimal ns ++ rest)
counts-unquoted [] rest digits plain = plain
counts-unquoted (n ∷ ns) rest digits plain =
    All-cons IsUnquoted (decimal n) (map decimal ns ++ rest) (decimal-unquoted n (All-head IsBoundedDecimal n ns digits))
    (counts-unquoted ns rest (All-tail IsBoundedDecimal n ns digits) plain)

pub fields-unquoted : (s : Summary) → IsName s.name → All IsBoundedDecimal (counts_of s.locals)
    → All IsUnquoted (s.name ∷ (map decimal (counts_of s.locals) ++ (ended s.ending).0 ∷ []))
fields-unquoted s named digits =
    let last = All-cons IsUnquoted ((ended s.ending).0) [] (end-unquoted s.ending) (All-nil IsUnquoted) in
    All-cons IsUnquoted s.name (map decimal (counts_of s.locals) ++ (ended s.ending).0 ∷ []) (name-unquoted s.name named)
    (counts-unquoted (counts_of s.locals) ((ended s.ending).0 ∷ []) digits last)

field_text-unquoted : (f : List ℕ) → IsUnquoted f → field_text default_writer f ≡ f
field_text-unquoted f plain = rw plain refl

fields_text-unquoted : (x : List ℕ) (fs : List (List ℕ)) → All IsUnquoted fs → x ++ fields_text default_writer fs ≡ join_with_byte 44 (x ∷ fs)
unfolding fields_text
fields_text-unquoted x [] all = append-nil x
fields_text-unquoted x (f ∷ fs) all = ap (λ t. x ++ (44 ∷ t)) (rw (field_text-unquoted f (All-head IsUnquoted f fs all)) (fields_text-unquoted f fs (All-tail IsUnquoted f fs all)))

pub row_text-unquoted : (x y : List ℕ) (fs : List (List ℕ)) → All IsUnquoted (x ∷ y ∷ fs) → row_text default_writer (x ∷ y ∷ fs) ≡ csv_line (x ∷ y ∷ fs)
unfolding is_blank
row_text-unquoted x y fs all =
    let first = field_text-unquoted x (All-head IsUnquoted x (y ∷ fs) all) in
    let rest = fields_text-unquoted x (y ∷ fs) (All-tail IsUnquoted x (y ∷ fs) all) in
    ap (λ t. t ++ 10 ∷ []) (rw first rest)
