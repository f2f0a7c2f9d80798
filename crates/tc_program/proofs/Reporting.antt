-- What `check` and `report` make of what a run wrote.
use Rattle.std.{proofs.{Common.{ℕ, ◌≡◌, ◌≢◌, ◌∙◌, All, Bool, false, List, [], ◌∷◌, if◌then◌else◌, filter, map, refl, ap, subst}, lemmas.List.{Elements.{All-head, All-tail}, append-nil}}, specs.List.flat_map}
use Rattle.tc_blocks.specs.{declared.{block.Block.Block, header.Kind.Kind}}
use Rattle.tc_command.specs.declared.task.{Choice.Choice, ReportForm.ReportForm}
use Rattle.tc_report.{specs.{declared.{results.{Finished.Finished, Results.Results}, summary.Summary.Summary}, Prelude.{block_summary, blocks_text, written_summary}}, proofs.Lemmas.Telling.one_same}
use Rattle.tc_answer.specs.declared.{fault.RunFault.RunFault, reply.Answer.Answer}
use Rattle.tc_judge.{specs.{Prelude.{IsChecked, IsLegalBlock, RefusesBlocks, ChoosesEach, counting, is_chosen, AnswersCases}, Inside.{block_name, each, is_picked}, Report.{IsForm, IsReport}}, proofs.Lemmas.{answer_of, none_illegal}}
use Rattle.tc_program.{specs.{Inside.{WasRun, WereRun, legal_case}, WrittenHistories.AreFoundLegal}, proofs.WrittenHistories.{after, are_right, block_of, blocks_of, evidence_of, said_of_written}}

-- all blocks are picked
filter_each : (blocks : List Block) → filter each blocks ≡ blocks
filter_each [] = refl
filter_each (b ∷ bs) = ap (λ l. b ∷ l) (filter_each bs)

-- a choice of each block chooses each
each_chosen : (P : Bool → (Block → Bool) → Type 0) (choice : Choice) → ChoosesEach choice → P choice.last (is_chosen choice) → P false each
each_chosen P choice all so =
    subst (λ l. P l each) all.2
    (subst (λ f. P choice.last (λ b. is_picked [] f (block_name b) b.verdict)) all.1
    (subst (λ o. P choice.last (λ b. is_picked o choice.failed (block_name b) b.verdict)) all.0 so))

summary_written : (kind : Kind) (line : ℕ) (f : Finished) → WasRun kind f → block_summary (block_of kind line f) ≡ written_summary kind f
summary_written kind line f ran =
    one_same kind f (block_of kind line f) (record { name = refl; behaviours = refl; lines = refl; report = ran.report })

summaries_written : (kind : Kind) (line : ℕ) (fs : List Finished) → All (WasRun kind) fs → map block_summary (blocks_of kind line fs) ≡ map (written_summary kind) fs
summaries_written kind line [] all = refl
summaries_written kind line (f ∷ fs) all =
    let first = summary_written kind line f (All-head (WasRun kind) f fs all) in
    let rest = summaries_written kind (after kind line f) fs (All-tail (WasRun kind) f fs all) in
    ap (λ s. s ∷ map block_summary (blocks_of kind (after kind line f) fs)) first ∙ ap (λ l. written_summary kind f ∷ l) rest

-- each form but the text report is made of no chosen blocks
whole_form : (form : ReportForm) (text : List ℕ) (chosen : List Block) (ss : List Summary) (out : List ℕ) → form ≢ ReportForm.Text → IsForm form text chosen ss out → IsForm form text [] ss out
whole_form ReportForm.Text text chosen ss out other is = absurd (other refl)
whole_form ReportForm.Csv text chosen ss out other is = is
whole_form (ReportForm.Junit suite) text chosen ss out other is = is
whole_form ReportForm.Html text chosen ss out other is = is
whole_form ReportForm.Summary text chosen ss out other is = is

module _ (kind : Kind) (r : Results) (ran : WereRun kind r) where
  checked_so : (a : Answer) → IsChecked false each (blocks_text kind r) a.out a.status → a.told ≡ [] → a ≡ answer_of (flat_map legal_case r.finished) [] 0
  checked_so a is told =
      let two = said_of_written kind r a.out a.status ran (is.holds (blocks_of kind 1 r.finished) (evidence_of kind r ran)) in
      let lines = flat_map legal_case r.finished in
      ap (λ x. answer_of x a.told a.status) two.0 ∙ ap (λ x. answer_of lines x a.status) told ∙ ap (λ x. answer_of lines [] x) two.1

  -- the report of what a run wrote: none of it is illegal
  reported_so : (form : ReportForm) (a : Answer) → form ≢ ReportForm.Text → IsReport form (blocks_text kind r) (blocks_of kind 1 r.finished) (filter each (blocks_of kind 1 r.finished)) [] [] a
      → AnswersCases form (blocks_text kind r) [] [] (map (written_summary kind) r.finished) a
  reported_so form a other (IsReport.legal legal is) =
      let blocks = blocks_of kind 1 r.finished in
      let made = subst (λ l. AnswersCases form (blocks_text kind r) (filter each blocks) [] l a)
      (append-nil (map block_summary (filter each blocks)) ∙ (ap (map block_summary) (filter_each blocks) ∙ summaries_written kind 1 r.finished ran.each)) is in
      (whole_form form (blocks_text kind r) (filter each blocks) (map (written_summary kind) r.finished) a.out other made.0, made.1, made.2)
  reported_so form a other (IsReport.illegal line first is) =
      absurd (none_illegal (blocks_of kind 1 r.finished) line (are_right kind 1 r.finished ran.each) first)

  refused_so : (fault : RunFault) → RefusesBlocks (All IsLegalBlock) false [] (blocks_text kind r) fault → fault ≡ RunFault.NoMemory
  refused_so (RunFault.Text fault) refused = absurd (refused.1 (blocks_of kind 1 r.finished) (evidence_of kind r ran))
  refused_so RunFault.NoMemory refused = refl
  refused_so RunFault.Only refused = let no = (refused.holds (blocks_of kind 1 r.finished) (evidence_of kind r ran)).1 in absurd cc
  refused_so fault refused = absurd refused

  -- what `check` and `report` make of it
  pub found_so : AreFoundLegal kind (blocks_text kind r) r
  found_so = record {
    checked_so = λ choice explains a all is. checked_so a (each_chosen (λ l t. IsChecked l t (blocks_text kind r) a.out a.status) choice all is.0.0) is.0.1;
    reported_so = λ form choice explains a other all is.
        let blocks = blocks_of kind 1 r.finished in
        reported_so form a other (each_chosen (λ l t. IsReport form (blocks_text kind r) (counting l blocks) (filter t (counting l blocks)) [] [] a) choice all (is.0.holds blocks (evidence_of kind r ran)));
    refused_so = λ fault refused. refused_so fault refused;
  }
