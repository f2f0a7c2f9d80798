-- Texts of histories and evidence, and what is wrong with other texts.
use Rattle.std.specs.{Prelude.{ℕ, ◌≡◌, ◌≢◌, ◌<◌, ◌≤◌, ◌+◌, false, List, [], ◌∷◌, ◌++◌, length, map}, List.flat_map}
use Rattle.tc_rules.specs.Prelude.{IsBehaviours, IsName}
use Rattle.tc_text.specs.{declared.fault.{TextFault.TextFault, TextKind.TextKind}, Prelude.{IsTextFault, lines_of}}
use Rattle.tc_blocks.specs.{HistoryBlock.end_text, HistoryText.IsEntry, Line.{is_met, line_text}, Sentence.IsSentence, declared.{block.Block.Block, header.{Header.Header, Kind.Kind}, line.Line.Line}, Block.header_text}

-- the format of a block's entries; those of evidence are spelled as in format 2
abbrev pub format_of : Kind → ℕ
format_of Kind.History1 = 1
format_of _ = 2

-- A line that may come inside a block of this kind and n behaviours, after these lines. What is no entry comes only in
-- evidence, and is of a run of the case; a behaviour's name comes before any other line about its run.
abbrev pub IsLine : Kind → ℕ → List Line → Line → Type 0
IsLine kind n before (Line.Named run name) = (kind ≡ Kind.Evidence) × (run.0 < n) × IsName name × (is_met run.0 before ≡ false)
IsLine kind n before (Line.Entry e) = IsEntry (format_of kind) e
IsLine kind n before (Line.Remark run sentence) = (kind ≡ Kind.Evidence) × (run.0 < n) × IsSentence sentence
IsLine kind n before (Line.Refused run sentence) = (kind ≡ Kind.Evidence) × (run.0 < n) × IsSentence sentence

-- lines that may come inside a block, one after the other, after these lines
abbrev pub AreLines : Kind → ℕ → List Line → List Line → Type 0
AreLines kind n before [] = Unit {0}
AreLines kind n before (l ∷ ls) = IsLine kind n before l × AreLines kind n (before ++ l ∷ []) ls

-- a name, and a number of behaviours that a case may have: in format 1, 64 at most
pub record IsHeader (h : Header) : Type 0 where
  pub name_is : IsName h.name
  pub few : IsBehaviours h.behaviours
  pub kind_fits : h.kind ≡ Kind.History1 → h.behaviours ≤ 64

-- a block that begins in the line of this number, with a first line that it may have
pub record IsBlock (may : Header → Type 0) (line : ℕ) (b : Block) : Type 0 where
  pub header : may b.header
  pub inside : AreLines b.header.kind b.header.behaviours [] b.lines
  pub first : b.first_line ≡ line

-- the lines of a block
abbrev pub block_lines : Block → List (List ℕ)
block_lines b = (header_text b.header ∷ map line_text b.lines) ++ end_text b.verdict ∷ []

-- blocks with first lines that they may have, whose first one begins in the line of this number
abbrev pub AreBlocks : (Header → Type 0) → ℕ → List Block → Type 0
AreBlocks may line [] = Unit {0}
AreBlocks may line (b ∷ bs) = IsBlock may line b × AreBlocks may (line + length (block_lines b)) bs

-- the text is that of these blocks, with first lines that they may have, and there is one
pub record IsTextOf (may : Header → Type 0) (text : List ℕ) (blocks : List Block) : Type 0 where
  pub some : blocks ≢ []
  pub fits : AreBlocks may 1 blocks
  pub lines : lines_of text ≡ flat_map block_lines blocks

-- the text is that of these blocks, of any kind, and there is one
abbrev pub AreEvidence : List ℕ → List Block → Type 0
AreEvidence text blocks = IsTextOf IsHeader text blocks

-- the lines are those of blocks with first lines that they may have
abbrev pub AreWhole : (Header → Type 0) → List (List ℕ) → Type 0
AreWhole may lines = (blocks : List Block) × AreBlocks may 1 blocks × (lines ≡ flat_map block_lines blocks)

-- what a fault says of a text whose blocks may have these first lines; such a line may come where no block is open
abbrev pub IsFault : (Header → Type 0) → List ℕ → TextFault → Type 0
IsFault may text fault = IsTextFault (AreWhole may) (AreWhole may) TextKind.Entry text fault

-- the text is that of histories and evidence, and whatever blocks it is of, this holds of them
pub record HoldsOfBlocks (text : List ℕ) (Holds : List Block → Type 0) : Type 0 where
  pub blocks : List Block
  pub evidence : AreEvidence text blocks
  pub holds : (all : List Block) → AreEvidence text all → Holds all
