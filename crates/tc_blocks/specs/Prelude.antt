-- What other crates cite of these definitions.
pub use Rattle.tc_blocks.specs.{Block.{block_text, header_text, with_lf}, HistoryBlock.{end_text, entry_text, history_text}, Inside.{outcome_text, AreEntries, entry_line, short_entry, text_of_block, most_of, starts}, HistoryText.IsEntry, Limit.{IsInLimit, IsReadIn}, Laws.{LinesAreLegal, overall_of}, Line.{entries_of, entry_in, is_about, is_met, line_text, naming_text, said_text}, Met.AreMet, Sentence.IsSentence, Text.{AreBlocks, AreEvidence, AreLines, HoldsOfBlocks, IsFault, IsHeader, IsLine, block_lines, format_of}}
