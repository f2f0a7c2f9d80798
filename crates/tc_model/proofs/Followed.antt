-- Following a block: the first reason of a line, and the lines one after the other.
use Rattle.std.proofs.Common.{ℕ, ◌≡◌, ◌<◌, ◌≤◌, ◌+◌, ◌∙◌, Option, Some, None, IfNone, IfSome, Ok, Err, All, nat_lt, Bool, true, false, List, [], ◌∷◌, ◌++◌, length, get_or, reverse, slice_get, take, inl, inr, refl, sym, ap, subst, arith}
use Rattle.std.proofs.lemmas.{List.{flat_map_more, reverse-append, take_all, take_more}, Option.{slice_get-get_or, slice_get_past}, Bool.Decides.nat_tests}
use Rattle.std.specs.Option.{IsSomeAnd, MatchOption}
use Rattle.tc_rules.specs.Prelude.{Case, Entry, past_of}
use Rattle.tc_course.proofs.Lemmas.{below_more}
use Rattle.tc_blocks.specs.{Prelude.{entries_of, entry_in}, declared.{block.Block.Block, line.Line.Line}}
use Rattle.tc_model.specs.{Inside.{AreWays, IsEndFault, IsEntryTaken}, Models.IsFollowed, Reasons.{EntryHas, Has, IsFirstFault, IsFirstOf, LineHas, line_reasons}, declared.{given.Ways.Ways, reason.Reason.Reason, reason.Refusal.Refusal}}

-- ---- the first reason

-- the first of some reasons is the first also of these and more
pub first_of_more : (ps qs : List Reason) (holds : Reason → Type 0) (r : Reason) → IsFirstOf ps holds r → IsFirstOf (ps ++ qs) holds r
first_of_more [] qs holds r first = absurd first
first_of_more (p ∷ ps) qs holds r (inl this) = inl this
first_of_more (p ∷ ps) qs holds r (inr later) = inr (later.0, first_of_more ps qs holds r later.1)

-- no reason holds
abbrev NoReason : (Reason → Type 0) → Type 0
NoReason has = (r : Reason) → has r → ⊥

-- none does if none of a line does, since the others are of no line
no_reason : (has : Reason → Type 0) → All (λ r. has r → ⊥) line_reasons →
    (has Reason.ManyCases → ⊥) → (has Reason.ManyBehaviours → ⊥) → (has Reason.LongScript → ⊥) → (has Reason.NotRead → ⊥) → NoReason has
no_reason has none cases behaviours long read Reason.NotLegal = none 0 Reason.NotLegal (omega arith)
no_reason has none cases behaviours long read Reason.NotCalled = none 1 Reason.NotLegal (omega arith)
no_reason has none cases behaviours long read Reason.ManySteps = none 2 Reason.NotLegal (omega arith)
no_reason has none cases behaviours long read Reason.NotGiven = none 3 Reason.NotLegal (omega arith)
no_reason has none cases behaviours long read Reason.ManyArguments = none 4 Reason.NotLegal (omega arith)
no_reason has none cases behaviours long read Reason.NotOver = none 5 Reason.NotLegal (omega arith)
no_reason has none cases behaviours long read Reason.ManyCases = cases
no_reason has none cases behaviours long read Reason.ManyBehaviours = behaviours
no_reason has none cases behaviours long read Reason.LongScript = long
no_reason has none cases behaviours long read Reason.NotRead = read

-- ---- the lines

-- the case is at the entries of that many of the block's first lines, and these have no reason
pub record Follows (b : Block) (i : ℕ) (t : Case) (w : Ways) : Type 0 where
  pub behaviours : b.header.behaviours ≡ t.behaviours
  pub entries : past_of t ≡ reverse (entries_of (take i b.lines))
  pub ways : AreWays t.behaviours (past_of t) w
  pub free : (k : ℕ) → k < i → NoReason (Has b k)

-- what is said of the reasons of a line after these entries is said of those at its place
at_place : (b : Block) (i : ℕ) (past : List Entry) (o : Option Line) (said : (Reason → Type 0) → Type 0) →
    past ≡ reverse (entries_of (take i b.lines)) → slice_get b.lines i ≡ o → said (LineHas b.header.behaviours past b.verdict o) → said (Has b i)
at_place b i past o said entries at h =
    subst (λ es. said (LineHas b.header.behaviours es b.verdict (slice_get b.lines i))) entries
    (subst (λ p. said (LineHas b.header.behaviours past b.verdict p)) (sym at) h)

-- the entries with that of one more line
entries_more : (lines : List Line) (i : ℕ) (l : Line) → i < length lines → get_or lines i l ≡ l →
    reverse (entries_of (take (i + 1) lines)) ≡ reverse (entry_in l) ++ reverse (entries_of (take i lines))
entries_more lines i l within here =
    ap (λ ls. reverse (entries_of ls)) (take_more lines i l within ∙ ap (λ x. take i lines ++ x ∷ []) here)
    ∙ (ap reverse (sym (flat_map_more entry_in [] (take i lines) l)) ∙ reverse-append (entries_of (take i lines)) (entry_in l))

-- one more line, which is no entry
pub follows_other : (b : Block) (i : ℕ) (l : Line) (t : Case) (w : Ways) → i < length b.lines → get_or b.lines i l ≡ l → ((e : Entry) → l ≡ Line.Entry e → ⊥) →
    Follows b i t w → Follows b (i + 1) t w
follows_other b i l t w within here other f = record {
  behaviours = f.behaviours;
  entries = f.entries ∙ sym (entries_more b.lines i l within here ∙ ap (λ es. reverse es ++ reverse (entries_of (take i b.lines))) (none l other));
  ways = f.ways;
  free = below_more (λ k. NoReason (Has b k)) i f.free
      (at_place b i (past_of t) (Some l) NoReason f.entries (slice_get-get_or b.lines i l within ∙ ap Some here) (none_of l other));
}
  where
    none : (x : Line) → ((e : Entry) → x ≡ Line.Entry e → ⊥) → entry_in x ≡ []
    none (Line.Entry e) never = absurd (never e refl)
    none (Line.Named run name) never = refl
    none (Line.Remark run sentence) never = refl
    none (Line.Refused run sentence) never = refl

    none_of : (x : Line) → ((e : Entry) → x ≡ Line.Entry e → ⊥) → NoReason (LineHas b.header.behaviours (past_of t) b.verdict (Some x))
    none_of (Line.Entry e) never r h = never e refl
    none_of (Line.Named run name) never r h = h
    none_of (Line.Remark run sentence) never r h = h
    none_of (Line.Refused run sentence) never r h = h

-- one more entry, which has no reason
pub follows_entry : (b : Block) (i : ℕ) (l : Line) (e : Entry) (t u : Case) (v w : Ways) → i < length b.lines → get_or b.lines i l ≡ l → l ≡ Line.Entry e →
    Follows b i t v → IsEntryTaken b.header.behaviours (past_of t) e w (Ok u) → Follows b (i + 1) u w
follows_entry b i l e t u v w within here is f taken = record {
  behaviours = sym taken.0;
  entries = taken.1 ∙ (ap (λ es. e ∷ es) f.entries
      ∙ sym (entries_more b.lines i l within here ∙ ap (λ x. reverse (entry_in x) ++ reverse (entries_of (take i b.lines))) is));
  ways = subst (λ n. AreWays n (past_of u) w) (sym taken.0) (subst (λ es. AreWays b.header.behaviours es w) (sym taken.1) taken.2);
  free = below_more (λ k. NoReason (Has b k)) i f.free
      (at_place b i (past_of t) (Some (Line.Entry e)) NoReason f.entries (slice_get-get_or b.lines i l within ∙ ap Some (here ∙ is))
      (no_reason (EntryHas b.header.behaviours (past_of t) e) taken.3 (λ h. h) (λ h. h) (λ h. h) (λ h. h)));
}

-- an entry that has a reason
pub refused_entry : (b : Block) (i line : ℕ) (l : Line) (e : Entry) (r : Reason) (t : Case) (v w : Ways) → i < length b.lines → get_or b.lines i l ≡ l → l ≡ Line.Entry e →
    Follows b i t v → line ≡ b.first_line + i + 1 → IsEntryTaken b.header.behaviours (past_of t) e w (Err r) → IsFirstFault b (record { line = line; reason = r })
refused_entry b i line l e r t v w within here is f number first = record {
  at = i;
  line = number;
  reason = at_place b i (past_of t) (Some (Line.Entry e)) (λ has. IsFirstOf line_reasons has r) f.entries
      (slice_get-get_or b.lines i l within ∙ ap Some (here ∙ is)) first;
  first = λ k q less. f.free k less q;
}

-- ---- the end

-- after all lines the entries stay the same
all_entries : (b : Block) (i at : ℕ) (t : Case) (w : Ways) → length b.lines ≤ i → length b.lines ≤ at → Follows b i t w →
    past_of t ≡ reverse (entries_of (take at b.lines))
all_entries b i at t w whole past f =
    f.entries ∙ ap (λ ls. reverse (entries_of ls)) (take_all i b.lines whole ∙ sym (take_all at b.lines past))

-- the end has no reason
ended_free : (b : Block) (i : ℕ) (t : Case) (w : Ways) → length b.lines ≤ i → Follows b i t w →
    All (λ r. LineHas b.header.behaviours (past_of t) b.verdict None r → ⊥) line_reasons → IsFollowed b
ended_free b i t w whole f none at = by_place (nat_lt at i) refl
  where
    by_place : (is : Bool) → nat_lt at i ≡ is → NoReason (Has b at)
    by_place true h = f.free at (grind (arith, nat_tests))
    by_place false h =
        let past : length b.lines ≤ at = grind (arith, nat_tests) in
        at_place b at (past_of t) None NoReason (all_entries b i at t w whole past f) (slice_get_past b.lines at past)
        (no_reason (LineHas b.header.behaviours (past_of t) b.verdict None) none (λ h. h) (λ h. h) (λ h. h) (λ h. h))

-- the end has a reason
ended_fault : (b : Block) (i line : ℕ) (r : Reason) (t : Case) (w : Ways) → length b.lines ≤ i → Follows b i t w → line ≡ b.first_line + i + 1 →
    IsFirstOf line_reasons (LineHas b.header.behaviours (past_of t) b.verdict None) r → IsFirstFault b (record { line = line; reason = r })
ended_fault b i line r t w whole f number first = record {
  at = i;
  line = number;
  reason = at_place b i (past_of t) None (λ has. IsFirstOf line_reasons has r) f.entries (slice_get_past b.lines i whole) first;
  first = λ k q less. f.free k less q;
}

-- the refusal of the end, if it has a reason
pub ended : (b : Block) (i line : ℕ) (t : Case) (w : Ways) (o : Option Reason) (q : Option Refusal) → length b.lines ≤ i → Follows b i t w →
    line ≡ b.first_line + i + 1 → IsEndFault t.behaviours (past_of t) b.verdict o →
    MatchOption o (q ≡ None) (λ r. IsSomeAnd q (λ f. f ≡ record { line = line; reason = r })) → IfNone q (IsFollowed b) × IfSome q (IsFirstFault b)
ended b i line t w o q whole f number end so =
    by_reason o q (subst (λ n. IsEndFault n (past_of t) b.verdict o) (sym f.behaviours) end) so
  where
    by_reason : (o : Option Reason) (q : Option Refusal) → IsEndFault b.header.behaviours (past_of t) b.verdict o →
        MatchOption o (q ≡ None) (λ r. IsSomeAnd q (λ f. f ≡ record { line = line; reason = r })) → IfNone q (IsFollowed b) × IfSome q (IsFirstFault b)
    by_reason None None free is = (ended_free b i t w whole f free, tt)
    by_reason None (Some x) free is = absurd cc
    by_reason (Some r) None first is = absurd is
    by_reason (Some r) (Some x) first is = (tt, subst (IsFirstFault b) (sym is) (ended_fault b i line r t w whole f number first))
