-- Texts of histories: evidence whose blocks are all histories.
use Rattle.std.specs.Prelude.{ℕ, ◌≡◌, ◌≢◌, List, map}
use Rattle.tc_blocks.specs.{Laws.history_of, Text.{IsHeader, IsTextOf}, declared.{block.Block.Block, header.{Header.Header, Kind.Kind}, history_block.History.History}}

-- the first line of a history, which that of evidence is not
abbrev pub IsHistoryHeader : Header → Type 0
IsHistoryHeader h = IsHeader h × (h.kind ≢ Kind.Evidence)

-- the text is that of these histories, and there is one
abbrev pub AreHistories : List ℕ → List History → Type 0
AreHistories text histories = (blocks : List Block) × IsTextOf IsHistoryHeader text blocks × (histories ≡ map history_of blocks)
