-- Judged blocks: what `check` and `report` make of them.
use Rattle.std.{proofs.{Common.{All, ℕ, ◌≡◌, ◌≢◌, ◌∙◌, ◌&&◌, ◌||◌, ◌==◌, cond, not, Bool, true, false, Option, Some, None, List, [], ◌∷◌, ◌++◌, if◌then◌else◌, filter, length, map, reverse, refl, ap, ap₂, sym, subst, codes, Result, Err}, lemmas.List.{Elements.{All-cons, All-filter, All-head, All-nil, All-tail}, Folds.flat_map-map}}, specs.{List.{AllZip, flat_map, list_any}, Prelude.{IsErrAnd, is_some, Ok}}}
use Rattle.tc_answer.{specs.{Prelude.have_names, declared.{fault.RunFault.RunFault, reply.Answer.Answer}}, proofs.Lemmas.Chosen.{at_place, zip_filter}}
use Rattle.tc_blocks.specs.{declared.{block.Block.Block, line.Line.Line}, Prelude.{AreEvidence, entries_of, entry_in}}
use Rattle.tc_command.specs.declared.task.{Choice.Choice, ReportForm.ReportForm}
use Rattle.tc_report.{specs.{Prelude.{block_summary, blocks_report, bare_summary, replayed_text, said_in, said_with, summary_of, verdict_status, verdicts_closing, worst_of}, declared.{results.CaseEnd.CaseEnd, said.Said.Said, summary.Summary.Summary}}, proofs.Lemmas.Telling.said_more}
use Rattle.tc_rules.specs.Prelude.{Entry, StandsFor, Verdict, matches, name_of}
use Rattle.tc_text.specs.Prelude.{reply_text}
use Rattle.tc_reader.specs.Prelude.{Word}
use Rattle.tc_judge.{specs.{Check.{Checks, IsChecked, IsIllegalLine, IsLegalBlock, IsMadeOfBlocks, IsSilent, RefusesBlocks, are_named, disagreeing_line, counting, is_chosen}, Inside.{AreChosenBlocks, AreJudgedIn, ArePicked, IsFirstIllegal, IsJudgedBlock, IsJudgement, IsPlayed, IsPlayedTo, IsSummaryOf, IsTextFor, IsWholeOfBlock, Reports, block_name, first_illegal, illegal_line, is_picked, judged_name, judged_report, judged_text, judges_legal, line_of_judgement, names_found, picked_by, printed, summary_by, gives_text, made_line}, Report.{AnswersCases, IsForm, IsReport, IsReported, is_of_judged}, declared.{judged.Judged.Judged, kept.Whole.Whole, playing.{Difference.Difference, Judgement.Judgement, Playing.Playing}}}, proofs.Lemmas.{answer_of, block_line, none_illegal, entries_last, no_difference}}

-- what holds of a fault holds of the answer that passes it on
pub passed_on : {A E : Type 0} (holds : Result A E → Type 0) (answer : Result A E) (fault : E) → IsErrAnd answer (λ f. f ≡ fault) → holds (Err fault) → holds answer
passed_on holds (Ok x) fault is so = absurd is
passed_on holds (Err f) fault is so = subst (λ g. holds (Err g)) (sym is) so

-- the line of another reply or verdict is made so
pub other_made : (line : ℕ) (given table : List ℕ) → made_line line given table ≡ disagreeing_line line given table
unfolding gives_text disagreeing_line
other_made line given table = at_place line (given ++ (codes ", table gives " ++ (table ++ (10 ∷ []))))

-- ---- what is recorded

-- the entries among lines and what is said next to them, with one more line
pub line_recorded : (before : List Line) (l : Line) (entries entries' : List Entry) (said said' : Said) → entries' ≡ entries ++ entry_in l → said' ≡ said_with said (length entries) l
    → (entries ≡ entries_of before) × (said ≡ said_in before) → (entries' ≡ entries_of (before ++ l ∷ [])) × (said' ≡ said_in (before ++ l ∷ []))
line_recorded before l entries entries' said said' more next is = (
  more ∙ (ap (λ (es : List Entry). es ++ entry_in l) is.0 ∙ sym (entries_last before l)),
  next ∙ (ap₂ (λ (s : Said) (es : List Entry). said_with s (length es) l) is.1 is.0 ∙ sym (said_more before l)),
)

-- the line of a block that is not legal
illegal_said : (b : Block) (k : Judgement) → judges_legal k ≡ false → IsJudgement b k → IsIllegalLine b (illegal_line k)
illegal_said b (Judgement.Legal entries) illegal is = absurd cc
illegal_said b (Judgement.OtherReply line given reply) illegal is =
    IsIllegalLine.other_reply is.before is.behind is.entry reply is.place is.legal is.answers is.other
    (other_made line (reply_text given) (reply_text reply) ∙ ap₂ (λ n r. disagreeing_line n (reply_text r) (reply_text reply)) is.line_is is.given_is)
illegal_said b (Judgement.OtherVerdict line given verdict) illegal is =
    IsIllegalLine.other_verdict is.0 (λ same. is.2 (same ∙ sym is.1)) (other_made line (name_of given) (name_of verdict) ∙ rw (is.1, is.3, is.4) refl)

module _ {K : Type 0} (keeps : Block → K → Type 0) where
  -- what is printed for the blocks
  pub lines_checked : (picks : Word → Verdict → Bool) (bs : List Block) (js : List (Judged K)) → AllZip (IsJudgedBlock keeps) bs js
      → Checks (picked_by picks) bs (printed picks js) (if is_some (first_illegal js) then 3 else 0)
  lines_checked picks [] [] each = Checks.none
  lines_checked picks (b ∷ bs) (j ∷ js) each = by j.judgement each.0.judgement (lines_checked picks bs js each.1)
    where
      line : Judgement → List ℕ
      line k = line_of_judgement (picks j.name j.verdict) j.name j.verdict k

      by : (k : Judgement) → IsJudgement b k → Checks (picked_by picks) bs (printed picks js) (if is_some (first_illegal js) then 3 else 0)
          → Checks (picked_by picks) (b ∷ bs) (if judges_legal k then line k ++ printed picks js else line k)
          (if is_some (cond (not (judges_legal k)) (Some k) (first_illegal js)) then 3 else 0)
      by (Judgement.Legal entries) is rest =
          rw (each.0.name, each.0.verdict, is.1)
          (Checks.goes_on b bs (printed picks js) (if is_some (first_illegal js) then 3 else 0) is.0 rest)
      by k is rest = Checks.stops b bs (illegal_line k) (illegal_said b k refl is)
  lines_checked picks _ _ each = absurd each

  -- which of the blocks is the first that is not legal
  pub first_found : (bs : List Block) (js : List (Judged K)) → AllZip (IsJudgedBlock keeps) bs js → IsFirstIllegal bs (first_illegal js)
  first_found [] [] each = All-nil IsLegalBlock
  first_found (b ∷ bs) (j ∷ js) each = by j.judgement each.0.judgement (first_found bs js each.1)
    where
      more : IsLegalBlock b → (o : Option Judgement) → IsFirstIllegal bs o → IsFirstIllegal (b ∷ bs) o
      more legal None rest = All-cons IsLegalBlock b bs legal rest
      more legal (Some k) rest = Checks.goes_on b bs (illegal_line k) 3 legal rest

      by : (k : Judgement) → IsJudgement b k → IsFirstIllegal bs (first_illegal js)
          → IsFirstIllegal (b ∷ bs) (cond (not (judges_legal k)) (Some k) (first_illegal js))
      by (Judgement.Legal entries) is rest = more is.0 (first_illegal js) rest
      by k is rest = Checks.stops b bs (illegal_line k) (illegal_said b k refl is)
  first_found _ _ each = absurd each

  -- ---- the patterns

  -- a block of some name is judged, or there is none
  pub any_named : (test : Word → Bool) (bs : List Block) (js : List (Judged K)) → AllZip (IsJudgedBlock keeps) bs js
      → list_any (λ j. test (judged_name j)) js ≡ list_any (λ b. test (block_name b)) bs
  any_named test [] [] each = refl
  any_named test (b ∷ bs) (j ∷ js) each = ap₂ (λ x y. x || y) (ap test each.0.name) (any_named test bs js each.1)
  any_named test _ _ each = absurd each

  same_names : (only : List Word) (bs : List Block) (js : List (Judged K)) → AllZip (IsJudgedBlock keeps) bs js
      → have_names judged_name only js ≡ have_names block_name only bs
  same_names [] bs js each = refl
  same_names (pattern ∷ only) bs js each = ap₂ (λ x y. x && y) (any_named (matches pattern) bs js each) (same_names only bs js each)

  -- if all blocks are legal, the patterns name blocks
  pub all_named : (choice : Choice) (text : List ℕ) (js : List (Judged K)) → AreJudgedIn keeps choice.last text js → names_found choice js ≡ true
      → (all : List Block) → AreEvidence text all → All IsLegalBlock (counting choice.last all) → are_named choice.last choice.only.items all ≡ true
  all_named choice text js are found all is = by (counting choice.last all) (are.holds all is) (first_illegal js) (first_found (counting choice.last all) js (are.holds all is)) found
    where
      by : (bs : List Block) → AllZip (IsJudgedBlock keeps) bs js → (o : Option Judgement) → IsFirstIllegal bs o
          → (is_some o || have_names judged_name choice.only.items js) ≡ true → All IsLegalBlock bs → have_names block_name choice.only.items bs ≡ true
      by bs each None so has legal = sym (same_names choice.only.items bs js each) ∙ has
      by bs each (Some k) so has legal = absurd (none_illegal bs (illegal_line k) legal so)

  -- or one of them names none
  pub names_lacking : (choice : Choice) (text : List ℕ) (js : List (Judged K)) → AreJudgedIn keeps choice.last text js → names_found choice js ≡ false
      → RefusesBlocks (All IsLegalBlock) choice.last choice.only.items text RunFault.Only
  names_lacking choice text js are lack = record {
    blocks = are.blocks;
    evidence = are.evidence;
    holds = λ all is. by (counting choice.last all) (are.holds all is) (first_illegal js) (first_found (counting choice.last all) js (are.holds all is)) lack;
  }
    where
      by : (bs : List Block) → AllZip (IsJudgedBlock keeps) bs js → (o : Option Judgement) → IsFirstIllegal bs o
          → (is_some o || have_names judged_name choice.only.items js) ≡ false → All IsLegalBlock bs × (have_names block_name choice.only.items bs ≡ false)
      by bs each None so has = (so, sym (same_names choice.only.items bs js each) ∙ has)
      by bs each (Some k) so has = absurd cc

  -- ---- what `check` makes of them

  pub all_checked : (last : Bool) (picks : Word → Verdict → Bool) (text out : List ℕ) (status : ℕ) (js : List (Judged K)) → AreJudgedIn keeps last text js
      → out ≡ printed picks js → status ≡ (if is_some (first_illegal js) then 3 else 0) → IsChecked last (picked_by picks) text out status
  all_checked last picks text out status js are lines status_is = record {
    blocks = are.blocks;
    evidence = are.evidence;
    holds = λ all is.
        let bs = counting last all in
        subst (λ l. Checks (picked_by picks) bs l status) (sym lines) (subst (Checks (picked_by picks) bs (printed picks js)) (sym status_is) (lines_checked picks bs js (are.holds all is)));
  }

  pub blocks_checked : (choice : Choice) (only : List Word) (text out : List ℕ) (status : ℕ) (js : List (Judged K)) → only ≡ choice.only.items → AreJudgedIn keeps choice.last text js
      → names_found choice js ≡ true → out ≡ printed (is_picked only choice.failed) js
      → status ≡ (if is_some (first_illegal js) then 3 else 0)
      → IsMadeOfBlocks (All IsLegalBlock) choice text (IsSilent (IsChecked choice.last (is_chosen choice) text)) (Ok (answer_of out [] status))
  blocks_checked choice only text out status js same are found lines status_is = (
    (all_checked choice.last (is_picked choice.only.items choice.failed) text out status js are (lines ∙ ap (λ o. printed (is_picked o choice.failed) js) same) status_is, refl),
    all_named choice text js are found,
  )

-- ---- what `report` makes of them

-- the summary of what was played is that of the block, if it is legal
pub summary_kept : (b : Block) (p : Playing) (entries : List Entry) (s : Summary) → IsPlayed b.first_line b.header b.lines p → entries ≡ entries_of b.lines
    → (said : Said) → said ≡ said_in b.lines → (StandsFor p.state (reverse entries) → s ≡ summary_of p.header.name p.state.behaviours entries said) → IsSummaryOf b s
summary_kept b p entries s played are said same says legal = by p.difference played.1
  where
    by : (d : Option Difference) → IsPlayedTo b.header.behaviours b.first_line b.lines p.state p.entries d → s ≡ block_summary b
    by None is =
        says (subst (λ l. StandsFor p.state (reverse l)) (sym are) is.1)
        ∙ (ap₂ (summary_of p.header.name p.state.behaviours) are same
        ∙ ap₂ (λ (name : List ℕ) (n : ℕ). summary_of name n (entries_of b.lines) (said_in b.lines)) (ap (λ h. h.name) played.0) is.0)
    by (Some d) is = absurd (no_difference b.header.behaviours b.lines is.before is.behind is.entry d.reply legal.replies is.place is.answers is.other)

-- what is made of two lists is alike, if it is at each place
map_alike : {A B C : Type 0} (R : A → B → Type 0) (P : A → Type 0) (f : A → C) (g : B → C) → ((x : A) (y : B) → R x y → P x → g y ≡ f x) → (xs : List A) (ys : List B) → AllZip R xs ys
    → All P xs → map g ys ≡ map f xs
map_alike R P f g same [] [] each all = refl
map_alike {A} {B} {C} R P f g same (x ∷ xs) (y ∷ ys) each all =
    ap₂ (λ (z : C) (l : List C). z ∷ l) (same x y each.0 (All-head P x xs all)) (map_alike R P f g same xs ys each.1 (All-tail P x xs all))
map_alike R P f g same _ _ each all = absurd each

module _ {K : Type 0} (keeps : Block → K → Type 0) where
  -- those that are picked, or all
  pub picked_chosen : (picks : Word → Verdict → Bool) (bs : List Block) (js : List (Judged K)) (o : Option Judgement) → AllZip (IsJudgedBlock keeps) bs js
      → o ≡ first_illegal js → AreChosenBlocks keeps bs (filter (picked_by picks) bs) (filter (λ j. picks j.name j.verdict) js) o
  picked_chosen picks bs js o each first = record {
    each = zip_filter (IsJudgedBlock keeps) (picked_by picks) (λ j. picks j.name j.verdict) (λ b j is. ap₂ picks (sym is.name) (sym is.verdict)) bs js each;
    first = subst (IsFirstIllegal bs) (sym first) (first_found keeps bs js each);
    legal = All-filter (picked_by picks) IsLegalBlock bs;
  }

  pub all_chosen : (bs : List Block) (js : List (Judged K)) (o : Option Judgement) → AllZip (IsJudgedBlock keeps) bs js → o ≡ first_illegal js
      → AreChosenBlocks keeps bs bs js o
  all_chosen bs js o each first = record { each = each; first = subst (IsFirstIllegal bs) (sym first) (first_found keeps bs js each); legal = λ legal. legal }

  -- what the forms say of them
  pub chosen_reports : (summary : K → Summary) → ((b : Block) (k : K) → keeps b k → IsLegalBlock b → summary k ≡ block_summary b) → (bs cs : List Block)
      (js : List (Judged K)) (o : Option Judgement) → AreChosenBlocks keeps bs cs js o → Reports bs cs (map (summary_by summary) js) o
  chosen_reports summary same bs cs js o are = (are.first, λ legal. map_alike (IsJudgedBlock keeps) IsLegalBlock block_summary (summary_by summary) (λ c j is. same c j.kept is.kept) cs js are.each (are.legal legal))

  -- some pattern of the choice matches the name of none
  pub pick_refused : (form : ReportForm) (choice : Choice) (text : List ℕ) (js : List (Judged K)) (answer : Result Answer RunFault) (fault : RunFault) → IsErrAnd answer (λ f. f ≡ fault)
      → AreJudgedIn keeps choice.last text js → (fault ≡ RunFault.Only) × (names_found choice js ≡ false) → IsMadeOfBlocks (All IsLegalBlock) choice text (IsReported form choice.last (is_chosen choice) text) answer
  pick_refused form choice text js answer fault passed are lacking =
      passed_on (IsMadeOfBlocks (All IsLegalBlock) choice text (IsReported form choice.last (is_chosen choice) text)) answer fault passed
      (rw lacking.0 (names_lacking keeps choice text js are lacking.1))

  -- what is answered for those that are picked is made of the text
  pub pick_reported : (form : ReportForm) (choice : Choice) (text : List ℕ) (js chosen : List (Judged K)) (illegal : Option Judgement) (notes : List ℕ) (a : Answer) → AreJudgedIn keeps choice.last text js
      → ArePicked choice js chosen illegal → notes ≡ [] → ((bs cs : List Block) → AreChosenBlocks keeps bs cs chosen illegal → IsReport form text bs cs [] notes a)
      → IsMadeOfBlocks (All IsLegalBlock) choice text (IsReported form choice.last (is_chosen choice) text) (Ok a)
  pick_reported form choice text js chosen illegal notes a are picked none reports = (
    record {
      blocks = are.blocks;
      evidence = are.evidence;
      holds = λ all is.
          let bs = counting choice.last all in
          let cs = filter (is_chosen choice) bs in
          subst (λ n. IsReport form text bs cs [] n a) none (reports bs cs (subst (λ l. AreChosenBlocks keeps bs cs l illegal) (sym picked.picked)
          (picked_chosen (is_picked choice.only.items choice.failed) bs js illegal (are.holds all is) picked.first)));
    },
    all_named keeps choice text js are picked.found,
  )

-- what the text report says of a block
abbrev block_report : Block → List ℕ
block_report b = replayed_text (block_summary b) b.header.behaviours (entries_of b.lines) b.verdict

-- the text report of legal blocks
report_alike : (c : Block) (j : Judged Whole) → IsJudgedBlock IsWholeOfBlock c j → IsLegalBlock c → judged_report j ≡ block_report c
report_alike c j is legal =
    ap (λ s. replayed_text s j.kept.behaviours j.kept.entries.items j.verdict) (is.kept.summary legal)
    ∙ rw (is.kept.behaviours, is.kept.entries, is.verdict) refl

pub text_alike : (cs : List Block) (js : List (Judged Whole)) → AllZip (IsJudgedBlock IsWholeOfBlock) cs js → All IsLegalBlock cs
    → judged_text js ≡ blocks_report cs
text_alike cs js each legal =
    let texts = map_alike (IsJudgedBlock IsWholeOfBlock) IsLegalBlock block_report judged_report report_alike cs js each legal in
    let verdicts = map_alike (IsJudgedBlock IsWholeOfBlock) IsLegalBlock (λ b. b.verdict) (λ j. j.verdict) (λ b j is legal. is.verdict) cs js each legal in
    ap₂ (λ l vs. l ++ verdicts_closing vs) (sym (flat_map-map (λ l. l) judged_report js) ∙ (ap (flat_map (λ l. l)) texts ∙ flat_map-map (λ l. l) block_report cs)) verdicts

-- an answer for test cases
pub answer_made : (form : ReportForm) (text notes lent : List ℕ) (ss : List Summary) (out told : List ℕ) (worst status : ℕ)
    → ((given : List ℕ) (chosen : List Block) → IsTextFor form given chosen text → IsForm form given chosen ss out) → told ≡ notes → lent ≡ notes
    → worst ≡ verdict_status (worst_of ss) → status ≡ (if length lent == 0 then worst else 3)
    → (given : List ℕ) (chosen : List Block) → IsTextFor form given chosen text → AnswersCases form given chosen notes ss (answer_of out told status)
answer_made form text notes lent ss out told worst status out_is told_is same worst_is status_is given chosen fits =
    (out_is given chosen fits, told_is, status_is ∙ ap₂ (λ l w. if length l == 0 then w else 3) same worst_is)

-- the text of all blocks is that of each form but the text report
pub other_text : (form : ReportForm) (given : List ℕ) (chosen : List Block) → form ≢ ReportForm.Text → IsTextFor form given chosen given
other_text ReportForm.Text given chosen other = absurd (other refl)
other_text ReportForm.Html given chosen other = refl
other_text _ given chosen other = tt

-- and a form of what is judged needs none
pub no_text : (form : ReportForm) (given text : List ℕ) (chosen : List Block) → is_of_judged form ≡ true → IsTextFor form given chosen text
no_text ReportForm.Text given text chosen is = absurd cc
no_text ReportForm.Html given text chosen is = absurd cc
no_text _ given text chosen is = tt

-- what is made of a text, none of whose blocks is illegal
pub legal_report : (form : ReportForm) (given text : List ℕ) (ss : List Summary) (names : List (List ℕ)) (notes : List ℕ) (a : Answer) (blocks chosen : List Block)
    → (All IsLegalBlock blocks → IsTextFor form given chosen text)
    → (IsTextFor form given chosen text → AnswersCases form given chosen notes (ss ++ map (bare_summary CaseEnd.Missing) names) a)
    → Reports blocks chosen ss None → IsReport form given blocks chosen names notes a
legal_report form given text ss names notes a blocks chosen fits is made =
    IsReport.legal made.0 (subst (λ l. AnswersCases form given chosen notes (l ++ map (bare_summary CaseEnd.Missing) names) a) (made.1 made.0) (is (fits made.0)))
