-- What `check` says of the histories and the evidence that `run` writes.
use Rattle.std.specs.{Prelude.{ℕ, ◌≡◌, ◌≢◌, Bool, false, List, [], All, Ok, length, map, take}, List.{AllZip, flat_map}}
use Rattle.tc_report.specs.{declared.results.Results.Results, Prelude.written_summary}
use Rattle.tc_rules.specs.Prelude.{IsBehaviours}
use Rattle.tc_blocks.specs.declared.header.Kind.{Kind}
use Rattle.tc_campaign.specs.Prelude.{Outline}
use Rattle.tc_exec.specs.Prelude.{IsCaseReport}
use Rattle.tc_command.specs.declared.task.{Choice.Choice, ReportForm.ReportForm, Task.Task}
use Rattle.tc_answer.specs.declared.{fault.RunFault.RunFault, reply.Answer.Answer}
use Rattle.tc_judge.specs.Prelude.{AnswersCases, ChoosesEach, IsLegalBlock, RefusesBlocks, legal_line}
use Rattle.tc_program.specs.Made.{IsMade}

-- what `run_campaign` says of its results, if some test case is finished: each finished one has the report of its case,
-- and 1 to 256 behaviours
pub record AreReported (cases : List Outline) (r : Results) : Type 0 where
  pub some : r.finished ≢ []
  pub reports : AllZip (λ c f. IsCaseReport c.jobs f.report) (take (length r.finished) cases) r.finished
  pub behaviours : All (λ f. IsBehaviours f.report.behaviours) r.finished

-- This text of the results, of this kind, is checked and reported so, whatever else is asked for, and refused only if memory
-- runs out. Each test case is legal: its name, how many entries it has, its verdict. The text report has its own definition.
pub record AreFoundLegal (kind : Kind) (text : List ℕ) (r : Results) : Type 0 where
  pub checked_so : (choice : Choice) (explains : Bool) (a : Answer) → ChoosesEach choice → IsMade (Task.Check choice explains) text (Ok a)
      → a ≡ record { out = flat_map (λ f. legal_line f.name (length f.report.history) f.report.verdict) r.finished; told = []; status = 0 }
  pub reported_so : (form : ReportForm) (choice : Choice) (explains : Bool) (a : Answer) → form ≢ ReportForm.Text → ChoosesEach choice
      → IsMade (Task.Report form choice explains) text (Ok a) → AnswersCases form text [] [] (map (written_summary kind) r.finished) a
  pub refused_so : (fault : RunFault) → RefusesBlocks (All IsLegalBlock) false [] text fault → fault ≡ RunFault.NoMemory
