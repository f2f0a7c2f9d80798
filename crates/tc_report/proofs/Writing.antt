-- The pieces of a text, appended or written one after the other.
use Rattle.std.{proofs.{Common.{ℕ, ◌≡◌, ◌∙◌, ◌+◌, arith, List, [], ◌∷◌, ◌++◌, Option, Some, None, length, take, refl, sym, ap, subst, append_assoc, map, Result, Ok, Err, OnErr, codes}, lemmas.List.{Concat.flat_map-append, Folds.flat_map-map, append-nil, flat_map_more, length-append, take-append-le}, Math.Seq.take-append-add}, specs.{Io.KnownBytes.{Appends, Keeps}, List.flat_map}}
use Rattle.tc_stream.specs.Prelude.{AppendsPrefix}
use Rattle.tc_blocks.specs.{Prelude.{end_text, entry_line, with_lf, header_text, line_text}, declared.{header.Header.Header, line.Line.Line}}
use Rattle.tc_rules.specs.{declared.refusal.CaseError.CaseError, Prelude.{Entry, Verdict, refusal_text}}
use Rattle.tc_report.specs.{Blocks.named_block, Csv.{columns_text, row_line}, Inside.{form_text, namings, text_so_far}, Live.form_parts, Output.LeavesPrefix, Report.{abort_text, tally_of_cases}, Summary.case_summary, declared.{fault.OutFault.OutFault, live.LiveForm.LiveForm, results.{CampaignEnd.CampaignEnd, Finished.Finished}}}

-- two texts, one after the other
pub appends_both : (a b c : Option (List ℕ)) (xs ys : List ℕ) → Appends a b xs → Appends b c ys → Appends a c (xs ++ ys)
appends_both None b c xs ys p q = tt
appends_both (Some s) None c xs ys p q = absurd p
appends_both (Some s) (Some t) None xs ys p q = absurd q
appends_both (Some s) (Some t) (Some u) xs ys p q = q ∙ ap (λ l. l ++ ys) p ∙ append_assoc s xs ys

keeps_appends : (a b : Option (List ℕ)) (xs : List ℕ) → Keeps a b → Appends a b (take 0 xs)
keeps_appends None b xs p = tt
keeps_appends (Some s) None xs p = absurd p
keeps_appends (Some s) (Some t) xs p = p ∙ sym (append-nil s)

-- what a fault leaves of a text is a prefix
pub left_is_prefix : (a b : Option (List ℕ)) (xs : List ℕ) (fault : OutFault) → LeavesPrefix a b xs fault → AppendsPrefix a b xs
left_is_prefix a b xs OutFault.NoMemory p = (0, omega arith, keeps_appends a b xs p)
left_is_prefix a b xs OutFault.Write p = p

-- nothing of it
pub prefix_none : (a : Option (List ℕ)) (xs : List ℕ) → AppendsPrefix a a xs
prefix_none None xs = (0, omega arith, tt)
prefix_none (Some s) xs = (0, omega arith, sym (append-nil s))

-- a text, and then a prefix of another
pub prefix_behind : (a b c : Option (List ℕ)) (xs ys : List ℕ) → Appends a b xs → AppendsPrefix b c ys → AppendsPrefix a c (xs ++ ys)
prefix_behind a b c xs ys p q = (
  length xs + q.0,
  omega (arith, q.1, length-append xs ys),
  subst (Appends a c) (sym (take-append-add xs ys q.0)) (appends_both a b c xs (take q.0 ys) p q.2),
)

-- a prefix of a text is one of each longer text
pub prefix_longer : (a b : Option (List ℕ)) (xs ys : List ℕ) → AppendsPrefix a b xs → AppendsPrefix a b (xs ++ ys)
prefix_longer a b xs ys p = (p.0, omega (arith, p.1, length-append xs ys), subst (Appends a b) (sym (take-append-le p.0 xs ys p.1)) p.2)

-- a test case more
pub so_far_more : (form : LiveForm) (fs : List Finished) (f : Finished) → text_so_far form fs ++ (form_parts form).1 f ≡ text_so_far form (fs ++ f ∷ [])
so_far_more form fs f = flat_map_more (form_parts form).1 _ fs f

-- the whole text is what comes up to the last test case, and what follows it
pub whole_text : (form : LiveForm) (fs : List Finished) (ending : CampaignEnd)
    → text_so_far form fs ++ (form_parts form).2 (tally_of_cases fs) ending ≡ form_text form (record { finished = fs; ending = ending })
whole_text LiveForm.Text fs ending = refl
whole_text LiveForm.Csv fs ending = append-nil _ ∙ ap (λ l. columns_text ++ l) (sym (flat_map-map row_line case_summary fs))
whole_text LiveForm.History fs ending = append-nil _
whole_text LiveForm.Evidence fs ending = append-nil _

pub joined : (old first second third a b : List ℕ) → a ≡ old ++ first → b ≡ a ++ second → b ++ third ≡ old ++ (first ++ (second ++ third))
joined old first second third a b p q = rw (q, p) (append_assoc (old ++ first) second third ∙ append_assoc old first (second ++ third))

-- four names with a number each, and a last text
pub joined_counts : (old a k b l d m e n last w x y z : List ℕ) → w ≡ old ++ (a ++ k) → x ≡ w ++ (b ++ l) → y ≡ x ++ (d ++ m) → z ≡ y ++ (e ++ n)
    → z ++ last ≡ old ++ (a ++ (k ++ (b ++ (l ++ (d ++ (m ++ (e ++ (n ++ last))))))))
joined_counts old a k b l d m e n last w x y z p q r s = rw (s, r, q, p) (simp append_assoc)

-- the texts of a test case in a JUnit report, the first of three parts
pub joined_element : (old a name b suite d time e end f groups last m n o p r t u w : List ℕ) → m ≡ old ++ (a ++ (name ++ b)) → n ≡ m ++ suite → o ≡ n ++ d → p ≡ o ++ time
    → r ≡ p ++ e → t ≡ r ++ end → u ≡ t ++ f → w ≡ u ++ groups
    → w ++ last ≡ old ++ (a ++ (name ++ (b ++ (suite ++ (d ++ (time ++ (e ++ (end ++ (f ++ (groups ++ last))))))))))
joined_element old a name b suite d time e end f groups last m n o p r t u w i j k l q s v x = rw (x, v, s, q, l, k, j, i) (simp append_assoc)

-- the texts of a suite, the third and the seventh of three parts
pub joined_suite : (old a counts b name d stamp time e version f cases last m n o p r t u w : List ℕ) → m ≡ old ++ a → n ≡ m ++ counts → o ≡ n ++ (b ++ (name ++ d))
    → p ≡ o ++ counts → r ≡ p ++ stamp → t ≡ r ++ time → u ≡ t ++ (e ++ (version ++ f)) → w ≡ u ++ cases
    → w ++ last ≡ old ++ (a ++ (counts ++ (b ++ (name ++ (d ++ (counts ++ (stamp ++ (time ++ (e ++ (version ++ (f ++ (cases ++ last))))))))))))
joined_suite old a counts b name d stamp time e version f cases last m n o p r t u w i j k l q s v x = rw (x, v, s, q, l, k, j, i) (simp append_assoc)

module _ (h : Header) (names : List (List ℕ)) (history : List Entry) (v : Verdict) where
  abbrev first_line : List ℕ
  first_line = with_lf (header_text h)

  abbrev name_lines : List ℕ
  name_lines = flat_map (λ l. with_lf (line_text l)) (namings 0 names)

  abbrev entry_lines : List ℕ
  entry_lines = flat_map entry_line history

  abbrev last_line : List ℕ
  last_line = with_lf (end_text v)

  -- the pieces of a block, one after the other
  block_pieces : first_line ++ (name_lines ++ (entry_lines ++ last_line)) ≡ named_block h names history v
  block_pieces =
      ap (λ inside. first_line ++ inside)
      (sym (append_assoc name_lines entry_lines last_line)
      ∙ ap (λ lines. (name_lines ++ lines) ++ last_line) (sym (flat_map-map (λ l. with_lf (line_text l)) Line.Entry history))
      ∙ ap (λ lines. lines ++ last_line) (sym (flat_map-append (λ l. with_lf (line_text l)) (namings 0 names) (map Line.Entry history))))

  -- what appends them appends the block
  pub all_appended : (old a b c d : List ℕ) → a ≡ old ++ first_line → b ≡ a ++ name_lines → c ≡ b ++ entry_lines → d ≡ c ++ last_line
      → d ≡ old ++ named_block h names history v
  all_appended old a b c d first second third last =
      rw (last, third, second, first) (append_assoc ((old ++ first_line) ++ name_lines) entry_lines last_line ∙ append_assoc (old ++ first_line) name_lines (entry_lines ++ last_line)
      ∙ append_assoc old first_line (name_lines ++ (entry_lines ++ last_line)) ∙ ap (λ l. old ++ l) block_pieces)

-- what holds if there is a fault
pub when_err : {T E P : Type 0} (r : Result T E) → P → OnErr r P
when_err (Ok x) p = tt
when_err (Err e) p = p

module _ (name : List ℕ) (why : CaseError) where
  abbrev pub first : List ℕ
  first = codes "ttrun: aborted at " ++ name

  abbrev pub second : List ℕ
  second = codes ": " ++ refusal_text why

  abbrev pub last : List ℕ
  last = codes "\n"

  -- its pieces, one after the other
  abort_pieces : first ++ (second ++ last) ≡ abort_text (CampaignEnd.Aborted name why)
  abort_pieces = append_assoc (codes "ttrun: aborted at ") name (second ++ last)
      ∙ ap (λ l. codes "ttrun: aborted at " ++ l) (sym (append_assoc name second last))

  module _ (a b c d : Option (List ℕ)) where
    pub all_out : Appends a b first → Appends b c second → Appends c d last → Appends a d (abort_text (CampaignEnd.Aborted name why))
    all_out p q r = subst (Appends a d) abort_pieces (appends_both a b d first (second ++ last) p (appends_both b c d second last q r))

    pub last_left : Appends a b first → Appends b c second → AppendsPrefix c d last → AppendsPrefix a d (abort_text (CampaignEnd.Aborted name why))
    last_left p q r = subst (AppendsPrefix a d) abort_pieces (prefix_behind a b d first (second ++ last) p (prefix_behind b c d second last q r))

  module _ (a b c : Option (List ℕ)) where
    pub second_left : Appends a b first → AppendsPrefix b c second → AppendsPrefix a c (abort_text (CampaignEnd.Aborted name why))
    second_left p q = subst (AppendsPrefix a c) abort_pieces (prefix_behind a b c first (second ++ last) p (prefix_longer b c second last q))

  module _ (a b : Option (List ℕ)) where
    pub first_left : AppendsPrefix a b first → AppendsPrefix a b (abort_text (CampaignEnd.Aborted name why))
    first_left p = subst (AppendsPrefix a b) abort_pieces (prefix_longer a b first (second ++ last) p)
