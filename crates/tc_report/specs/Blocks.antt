-- The histories and the evidence of a campaign: a block for each finished test case.
use Rattle.std.specs.{Prelude.{ℕ, List, [], ◌++◌, map, take}, List.{enumerate_from, flat_map}}
use Rattle.tc_rules.specs.Prelude.{Entry, Verdict}
use Rattle.tc_blocks.specs.{declared.{header.{Header.Header, Kind.Kind}, line.Line.Line}, Prelude.block_text}
use Rattle.tc_report.specs.declared.results.{Finished.Finished, Results.Results}

-- a line for the name of each behaviour, that of run 0 first
abbrev pub name_lines : List (List ℕ) → List Line
name_lines names = map (λ p. Line.Named (record { 0 = p.0 }) p.1) (enumerate_from 0 names)

-- a block: this first line, the names of these behaviours, the entries and the overall verdict
abbrev pub named_block : Header → List (List ℕ) → List Entry → Verdict → List ℕ
named_block h names history v = block_text h (name_lines names ++ map Line.Entry history) v

-- the names that are in the block of a finished test case: in evidence those of its behaviours, in a history none
abbrev pub block_names : Kind → Finished → List (List ℕ)
block_names Kind.Evidence f = take f.report.behaviours f.names
block_names kind f = []

-- that block
abbrev pub case_block : Kind → Finished → List ℕ
case_block kind f =
    named_block (record { kind = kind; name = f.name; behaviours = f.report.behaviours }) (block_names kind f) f.report.history f.report.verdict

-- the block of each finished test case
abbrev pub blocks_text : Kind → Results → List ℕ
blocks_text kind r = flat_map (case_block kind) r.finished
