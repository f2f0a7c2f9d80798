-- Laws of evidence: what it says next to a history, and what bytes it has.
use Rattle.std.specs.Prelude.{ℕ, ◌==◌, ◌&&◌, not, Bool, List, reverse}
use Rattle.tc_rules.specs.Prelude.{Verdict, overall, IsLegal}
use Rattle.tc_text.specs.Prelude.{is_plain}
use Rattle.tc_blocks.specs.{Line.entries_of, Text.format_of, declared.{block.Block.Block, history_block.History.History, line.Line.Line}}

-- the history of a block: its entries, and nothing of what else it says
abbrev pub history_of : Block → History
history_of b = record {
  format = format_of b.header.kind;
  name = b.header.name;
  behaviours = b.header.behaviours;
  first_line = b.first_line;
  entries = entries_of b.lines;
  verdict = b.verdict;
}

-- what a list of lines is judged by: its entries
abbrev pub LinesAreLegal : ℕ → List Line → Type 0
LinesAreLegal n lines = IsLegal n (reverse (entries_of lines))

-- the overall verdict of a list of lines: that of its entries
abbrev pub overall_of : List Line → Verdict
overall_of lines = overall (reverse (entries_of lines))

-- a byte that no sentence is needed for: from 32 to 126, but not `<`, which is 60
abbrev pub is_quiet_byte : ℕ → Bool
is_quiet_byte b = is_plain b && not (b == 60)
