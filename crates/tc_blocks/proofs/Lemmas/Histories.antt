-- Texts of histories are evidence, and are written as it.
use Rattle.std.{proofs.Common.{ℕ, ◌≡◌, ◌≢◌, ◌∙◌, ◌+◌, List, [], ◌∷◌, ◌++◌, codes, length, map, ap, sym, refl, append_assoc}, specs.{Fmt.decimal, List.flat_map}}
use Rattle.tc_text.specs.Prelude.{lines_of}
use Rattle.tc_blocks.{specs.{Block.{header_text, kind_text, with_lf}, Histories.{AreHistories, IsHistoryHeader}, Inside.{text_of_history, text_of_block, format_text, entry_line}, HistoryBlock.end_text, Laws.history_of, Line.{entries_of, line_text}, Text.{AreBlocks, AreEvidence, AreLines, IsHeader, block_lines, format_of}, declared.{block.Block.Block, header.Kind.Kind, history_block.History.History, line.Line.Line}}, proofs.Lemmas.WrittenEvidence.written_lines}

kind_words : (k : Kind) → k ≢ Kind.Evidence → format_text (format_of k) ≡ kind_text k
kind_words Kind.Evidence other = absurd (other refl)
kind_words _ other = refl

-- a history has entries only
entries_ended : (kind : Kind) (n : ℕ) (before ls : List Line) → kind ≢ Kind.Evidence → AreLines kind n before ls → flat_map entry_line (entries_of ls) ≡ flat_map (λ l. with_lf (line_text l)) ls
entries_ended kind n before [] other are = refl
entries_ended kind n before (Line.Entry e ∷ ls) other are = ap (λ l. entry_line e ++ l) (entries_ended kind n (before ++ Line.Entry e ∷ []) ls other are.1)
entries_ended kind n before (Line.Named run name ∷ ls) other are = absurd (other are.0.0)
entries_ended kind n before (Line.Remark run sentence ∷ ls) other are = absurd (other are.0.0)
entries_ended kind n before (Line.Refused run sentence ∷ ls) other are = absurd (other are.0.0)

text_is : (b : Block) → b.header.kind ≢ Kind.Evidence → AreLines b.header.kind b.header.behaviours [] b.lines → text_of_history (history_of b) ≡ text_of_block b
text_is b other are =
    let behind = b.header.name ++ (codes " " ++ decimal b.header.behaviours) in
    let last = with_lf (end_text b.verdict) in
    ap (λ words. (words ++ behind) ++ (10 ∷ (flat_map entry_line (entries_of b.lines) ++ last))) (kind_words b.header.kind other)
    ∙ (ap (λ inside. header_text b.header ++ (10 ∷ (inside ++ last))) (entries_ended b.header.kind b.header.behaviours [] b.lines other are)
    ∙ sym (append_assoc (header_text b.header) (10 ∷ []) (flat_map (λ l. with_lf (line_text l)) b.lines ++ last)))

texts_are : (line : ℕ) (bs : List Block) → AreBlocks IsHistoryHeader line bs → flat_map text_of_history (map history_of bs) ≡ flat_map text_of_block bs
texts_are line [] are = refl
texts_are line (b ∷ bs) are =
    ap (λ l. l ++ flat_map text_of_history (map history_of bs)) (text_is b are.0.header.1 are.0.inside)
    ∙ ap (λ l. text_of_block b ++ l) (texts_are (line + length (block_lines b)) bs are.1)

any_kind : (line : ℕ) (bs : List Block) → AreBlocks IsHistoryHeader line bs → AreBlocks IsHeader line bs
any_kind line [] are = tt
any_kind line (b ∷ bs) are = (record { header = are.0.header.0; inside = are.0.inside; first = are.0.first }, any_kind (line + length (block_lines b)) bs are.1)

pub are_evidence : (text : List ℕ) (histories : List History) → AreHistories text histories → (blocks : List Block) × AreEvidence text blocks × (histories ≡ map history_of blocks)
are_evidence text histories are = (are.0, record { some = are.1.some; fits = any_kind 1 are.0 are.1.fits; lines = are.1.lines }, are.2)

pub are_read : (blocks : List Block) → blocks ≢ [] → AreBlocks IsHistoryHeader 1 blocks → AreHistories (flat_map text_of_history (map history_of blocks)) (map history_of blocks)
are_read blocks some are = (blocks, record { some = some; fits = are; lines = ap lines_of (texts_are 1 blocks are) ∙ written_lines 1 blocks (any_kind 1 blocks are) }, refl)

pub ruleset history_rules = (are_evidence, are_read)
