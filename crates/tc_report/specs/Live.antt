-- The text of a campaign that is written as its test cases finish.
use Rattle.std.specs.{Prelude.{ℕ, ◌≡◌, Bool, true, false, List, [], ◌∷◌, ◌++◌, IsSomeAnd, Option}, Io.KnownBytes.Appends}
use Rattle.tc_rules.specs.Prelude.{worse}
use Rattle.tc_blocks.specs.declared.header.Kind.{Kind}
use Rattle.tc_report.specs.{Blocks.case_block, Csv.{columns_text, row_line}, Output.LeavesPrefix, Report.{case_text, ending_line, tally_line, tally_of_cases}, Summary.case_summary, declared.{live.{LiveForm.LiveForm, LiveWriter.LiveWriter}, results.{CampaignEnd.CampaignEnd, Finished.Finished, Tally.Tally}}}

-- of a form what is before the test cases, what says one of them, and what is after them
abbrev pub form_parts : LiveForm → List ℕ × (Finished → List ℕ) × (Tally → CampaignEnd → List ℕ)
form_parts LiveForm.Text = ([], case_text, λ tally ending. tally_line tally ++ ending_line ending)
form_parts LiveForm.Csv = (columns_text, (λ f. row_line (case_summary f)), λ tally ending. [])
form_parts LiveForm.History = ([], case_block Kind.History2, λ tally ending. [])
form_parts LiveForm.Evidence = ([], case_block Kind.Evidence, λ tally ending. [])

module _ {W : Type 0} (contents : W → Option (List ℕ)) where
  -- what a test case does to a live writer: it is written and counted, and the campaign continues; or a fault says what of it is
  -- out, and it is not counted
  abbrev pub Writes : LiveWriter W → Finished → LiveWriter W → Bool → Type 0
  Writes before f after true =
      (after.form ≡ before.form) × Appends (contents before.writer.now) (contents after.writer.now) ((form_parts before.form).1 f)
      × ((fs : List Finished) → before.tally ≡ tally_of_cases fs → after.tally ≡ tally_of_cases (fs ++ f ∷ []))
      × (after.worst ≡ worse before.worst f.report.verdict) × (after.fault ≡ before.fault)
  Writes before f after false =
      (after.form ≡ before.form) × (after.tally ≡ before.tally) × (after.worst ≡ before.worst)
      × IsSomeAnd after.fault (LeavesPrefix (contents before.writer.now) (contents after.writer.now) ((form_parts before.form).1 f))
