-- What reports say of a test case, by its history or by its own report: both summaries are the same.
use Rattle.std.specs.{Prelude.{ℕ, if◌then◌else◌, None, List, [], ◌∷◌, ◌++◌, drop, length, map, reverse, ◌≡◌}, List.{AllZip, flat_map}, Option.{option_and_then, option_map_or}}
use Rattle.tc_rules.specs.Prelude.{Comp, Entry, created, creation, Verdict, comps, is_over, local, overall, IsOneHistory}
use Rattle.tc_blocks.specs.{Prelude.entries_of, declared.{block.Block.Block, header.Kind.Kind, line.Line.Line}}
use Rattle.tc_report.specs.{Blocks.{block_names, name_lines}, Cause.cause_of, InWords.namings_of, Report.aborted_case, Said.said_in, Waits.{says_stuck, waits_text}, declared.{cause.Cause.Cause, naming.{Names.Names, Naming.Naming}, results.{CaseEnd.CaseEnd, Finished.Finished, Results.Results}, said.Said.Said, summary.Summary.Summary}}

-- the names of the components of a history by their numbers, as a Create that made one gave it, of which the main component has
-- none; and these of behaviours
abbrev pub names_in : List Entry → List Naming → Names
names_in history runs =
    record { comps = None ∷ flat_map (λ e. option_map_or (λ (c : Comp). option_and_then (λ m. m.1) (creation e.op) ∷ []) (created e.op e.reply) []) history; runs = runs }

-- no names
abbrev pub no_names : Names
no_names = record { comps = []; runs = [] }

-- the test case of this name, with these local verdicts, this end and this history of n behaviours, next to which this is said.
-- It has who waits for whom if the call that decided its verdict was replied that no run can continue.
abbrev pub summary_with : List ℕ → List Verdict → CaseEnd → ℕ → List Entry → Said → Summary
summary_with name locals ending n history said =
    let names = names_in history said.names in
    let cause = cause_of ending said.remarks history in
    let waits = option_map_or (λ (c : Cause). if says_stuck c.entry.reply then waits_text names n history else []) cause [] in
    record { name = name; locals = locals; names = names; ending = ending; cause = cause; waits = waits }

-- the test case of this name and of n behaviours, with these entries and what is said next to them; it may not be over
abbrev pub summary_of : List ℕ → ℕ → List Entry → Said → Summary
summary_of name n history said =
    let past = reverse history in
    let ending = if is_over past then CaseEnd.Over (overall past) else CaseEnd.Unfinished in
    summary_with name (map (local past) (comps past)) ending n history said

-- the test case of a block
abbrev pub block_summary : Block → Summary
block_summary b = summary_of b.header.name b.header.behaviours (entries_of b.lines) (said_in b.lines)

-- a finished test case by its report, as its block has it: in evidence with the names of its behaviours, in a history without
abbrev pub written_summary : Kind → Finished → Summary
written_summary kind f =
    summary_with f.name f.report.locals (CaseEnd.Over f.report.verdict) f.report.behaviours f.report.history
    (record { names = namings_of (block_names kind f); remarks = [] })

-- the same with all that evidence says
abbrev pub case_summary : Finished → Summary
case_summary f = written_summary Kind.Evidence f

-- the test case of this name that ended so, without a local verdict
abbrev pub bare_summary : CaseEnd → List ℕ → Summary
bare_summary ending name = record { name = name; locals = []; names = no_names; ending = ending; cause = None; waits = [] }

-- of a campaign of test cases with these names: each finished one, the one that has no report, and those after them, which
-- were not run
abbrev pub results_summaries : List (List ℕ) → Results → List Summary
results_summaries names r =
    let begun = map case_summary r.finished ++ option_map_or (λ c. bare_summary (CaseEnd.Aborted c.1) c.0 ∷ []) (aborted_case r.ending) [] in
    begun ++ map (bare_summary CaseEnd.NotRun) (drop (length begun) names)

-- the report of the finished test case is one history, and the block has its name and the lines that a run writes
pub record IsBlockOf (kind : Kind) (f : Finished) (b : Block) : Type 0 where
  pub name : b.header.name ≡ f.name
  pub behaviours : b.header.behaviours ≡ f.report.behaviours
  pub lines : b.lines ≡ name_lines (block_names kind f) ++ map Line.Entry f.report.history
  pub report : IsOneHistory f.report

-- of the evidence of results the summaries are those of the finished test cases, and so is all that is made of them; of their
-- histories they are that without the names of behaviours
abbrev pub SummariesOfBlocks : Type 0
SummariesOfBlocks = (kind : Kind) (r : Results) (bs : List Block) → AllZip (IsBlockOf kind) r.finished bs → map block_summary bs ≡ map (written_summary kind) r.finished
