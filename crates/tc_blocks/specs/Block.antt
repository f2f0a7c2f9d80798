-- The text of a block: a history of format 1 or 2, or evidence.
use Rattle.std.specs.{Prelude.{ℕ, List, [], ◌∷◌, ◌++◌, codes}, Fmt.decimal, List.flat_map}
use Rattle.tc_rules.specs.Prelude.{Verdict}
use Rattle.tc_blocks.specs.{HistoryBlock.end_text, Line.line_text, declared.{header.{Header.Header, Kind.Kind}, line.Line.Line}}

-- the words of a first line, which say the kind of the block
abbrev pub kind_text : Kind → List ℕ
kind_text Kind.History1 = codes "history 1 "
kind_text Kind.History2 = codes "history 2 "
kind_text Kind.Evidence = codes "evidence 1 "

-- the first line, without its LF: the kind, the name of the case, and how many behaviours it has
abbrev pub header_text : Header → List ℕ
header_text h = kind_text h.kind ++ (h.name ++ (codes " " ++ decimal h.behaviours))

-- a line with its LF
abbrev pub with_lf : List ℕ → List ℕ
with_lf line = line ++ (10 ∷ [])

-- a first line, each line inside, and a last line
abbrev pub block_text : Header → List Line → Verdict → List ℕ
block_text h lines v = with_lf (header_text h) ++ (flat_map (λ l. with_lf (line_text l)) lines ++ with_lf (end_text v))
