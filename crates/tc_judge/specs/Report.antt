-- What `report` writes of histories and evidence, and of them the chosen.
use Rattle.std.specs.Prelude.{ℕ, All, Bool, false, true, ◌≡◌, ◌==◌, if◌then◌else◌, List, [], ◌++◌, codes, filter, length, map}
use Rattle.tc_command.specs.declared.{command.TheConstants.VERSION, task.ReportForm.ReportForm}
use Rattle.tc_blocks.specs.{Prelude.HoldsOfBlocks, declared.block.Block.Block}
use Rattle.tc_answer.specs.{Prelude.page_of, declared.reply.Answer.Answer}
use Rattle.tc_report.specs.{declared.{results.CaseEnd.CaseEnd, summary.Summary.Summary}, Prelude.{csv_of, junit_of, no_times, verdict_status, worst_of, bare_summary, block_summary, blocks_report, summary_text}}
use Rattle.tc_judge.specs.Check.{Checks, IsLegalBlock, counting}

-- the form is made of what is judged, and neither of the text nor of what the runs did
abbrev pub is_of_judged : ReportForm → Bool
is_of_judged ReportForm.Text = false
is_of_judged ReportForm.Html = false
is_of_judged form = true

-- this is the form of the blocks of a text, of which these are chosen, and of the summaries of test cases
abbrev pub IsForm : ReportForm → List ℕ → List Block → List Summary → List ℕ → Type 0
IsForm ReportForm.Text text chosen ss out = out ≡ blocks_report chosen
IsForm ReportForm.Csv text chosen ss out = out ≡ csv_of ss
IsForm (ReportForm.Junit suite) text chosen ss out = out ≡ junit_of VERSION.now suite no_times ss
IsForm ReportForm.Html text chosen ss out = out ≡ page_of text
IsForm ReportForm.Summary text chosen ss out = out ≡ summary_text ss

-- this is answered for test cases, with these lines for standard error: their form, and their status, or 3 if there is a line
abbrev pub AnswersCases : ReportForm → List ℕ → List Block → List ℕ → List Summary → Answer → Type 0
AnswersCases form text chosen notes ss a =
    IsForm form text chosen ss a.out × (a.told ≡ notes) × (a.status ≡ (if length notes == 0 then verdict_status (worst_of ss) else 3))

-- What is answered for blocks of a text, some of them chosen, and after them missing test cases, with lines for standard error. `check`
-- finds each block legal; or it finds one that is not, and this line is all that it prints if no block is chosen. Then nothing is
-- written, the line is printed, and the status is 3.
pub data IsReport (form : ReportForm) (text : List ℕ) (blocks chosen : List Block) (missing : List (List ℕ)) (notes : List ℕ) (a : Answer) : Type 0 where
  legal : All IsLegalBlock blocks → AnswersCases form text chosen notes (map block_summary chosen ++ map (bare_summary CaseEnd.Missing) missing) a
      → IsReport form text blocks chosen missing notes a
  illegal : (line : List ℕ) → Checks (λ b. false) blocks line 3 → a ≡ record { out = []; told = codes "ttrun: " ++ line; status = 3 } → IsReport form text blocks chosen missing notes a

-- this is answered for the blocks of the text that count and are chosen
abbrev pub IsReported : ReportForm → Bool → (Block → Bool) → List ℕ → Answer → Type 0
IsReported form last is_chosen text a = HoldsOfBlocks text (λ all. IsReport form text (counting last all) (filter is_chosen (counting last all)) [] [] a)
