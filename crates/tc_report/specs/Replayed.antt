-- The text report of histories and evidence, in the form of that of a run.
use Rattle.std.specs.{Prelude.{ℕ, List, [], ◌++◌, length, map}, List.flat_map, Option.unwrap_or}
use Rattle.tc_rules.specs.Prelude.{Entry, Verdict, logs_below}
use Rattle.tc_blocks.specs.{declared.block.Block.Block, Prelude.entries_of}
use Rattle.tc_report.specs.{InWords.behaviour_of, Report.{count_of, ending_line, tally_by, tally_line, test_case_text}, Summary.block_summary, declared.{results.CampaignEnd.CampaignEnd, summary.Summary.Summary}}

-- the test case of this summary and that many behaviours, with this history and this verdict
abbrev pub replayed_text : Summary → ℕ → List Entry → Verdict → List ℕ
replayed_text s n history = test_case_text s.name (λ b. unwrap_or (behaviour_of s.names.runs b) []) (logs_below history n) s.locals

-- what follows test cases with these verdicts: their tally, and that the campaign is complete
abbrev pub verdicts_closing : List Verdict → List ℕ
verdicts_closing vs = tally_line (tally_by (length vs) (λ v. count_of v vs)) ++ ending_line CampaignEnd.Complete

-- the text report of blocks: the test case of each with the names that it says, and what follows them
abbrev pub blocks_report : List Block → List ℕ
blocks_report bs =
    flat_map (λ b. replayed_text (block_summary b) b.header.behaviours (entries_of b.lines) b.verdict) bs ++ verdicts_closing (map (λ b. b.verdict) bs)
