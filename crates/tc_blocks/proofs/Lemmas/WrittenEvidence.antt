-- Blocks that are written are read again.
use Rattle.std.{proofs.Common.{ℕ, ◌≡◌, ◌≢◌, ◌∙◌, List, [], ◌∷◌, ◌++◌, map, refl, ap, sym, append_assoc}, specs.List.{flat_map, AllByRecursion}}
use Rattle.tc_text.{specs.Prelude.lines_of, proofs.Lemmas.LinesOf.{NoLf, ended_lines, lines-ended_lines}}
use Rattle.tc_blocks.{specs.{Block.{header_text, with_lf}, HistoryBlock.end_text, Line.line_text, Text.{AreBlocks, AreEvidence, IsHeader, block_lines}, Inside.{all_lines, text_of_block}, declared.{block.Block.Block, line.Line.Line}}, proofs.Lemmas.Bytes.{AreAllPlain, blocks_plain, plain_no_lf}}

all_no_lf : (ls : List (List ℕ)) → AllByRecursion AreAllPlain ls → AllByRecursion NoLf ls
all_no_lf [] plain = tt
all_no_lf (l ∷ ls) plain = (plain_no_lf l plain.0, all_no_lf ls plain.1)

-- ---- a block is written as its lines, each ended with LF

ended_lines-append : (xs ys : List (List ℕ)) → ended_lines (xs ++ ys) ≡ ended_lines xs ++ ended_lines ys
ended_lines-append [] ys = refl
ended_lines-append (x ∷ xs) ys = ap (λ l. x ++ 10 ∷ l) (ended_lines-append xs ys) ∙ sym (append_assoc x (10 ∷ ended_lines xs) (ended_lines ys))

inside_ended : (ls : List Line) (rest : List ℕ) → flat_map (λ l. with_lf (line_text l)) ls ++ rest ≡ ended_lines (map line_text ls) ++ rest
inside_ended [] rest = refl
inside_ended (l ∷ ls) rest =
    append_assoc (with_lf (line_text l)) (flat_map (λ x. with_lf (line_text x)) ls) rest
    ∙ (append_assoc (line_text l) (10 ∷ []) (flat_map (λ x. with_lf (line_text x)) ls ++ rest)
    ∙ (ap (λ x. line_text l ++ 10 ∷ x) (inside_ended ls rest) ∙ sym (append_assoc (line_text l) (10 ∷ ended_lines (map line_text ls)) rest)))

pub block_ended : (b : Block) → text_of_block b ≡ ended_lines (block_lines b)
block_ended b =
    append_assoc (header_text b.header) (10 ∷ []) (flat_map (λ l. with_lf (line_text l)) b.lines ++ with_lf (end_text b.verdict))
    ∙ ap (λ l. header_text b.header ++ 10 ∷ l)
    (inside_ended b.lines (with_lf (end_text b.verdict)) ∙ sym (ended_lines-append (map line_text b.lines) (end_text b.verdict ∷ [])))

blocks_ended : (bs : List Block) → flat_map text_of_block bs ≡ ended_lines (all_lines bs)
blocks_ended [] = refl
blocks_ended (b ∷ bs) =
    ap (λ l. text_of_block b ++ l) (blocks_ended bs) ∙ (ap (λ l. l ++ ended_lines (all_lines bs)) (block_ended b) ∙ sym (ended_lines-append (block_lines b) (all_lines bs)))

-- ---- written and read again

pub written_lines : (line : ℕ) (bs : List Block) → AreBlocks IsHeader line bs → lines_of (flat_map text_of_block bs) ≡ all_lines bs
written_lines line bs are = ap lines_of (blocks_ended bs) ∙ lines-ended_lines (all_lines bs) (all_no_lf (all_lines bs) (blocks_plain line bs are))

-- the text of blocks is the text of these blocks
pub written_evidence : (blocks : List Block) → blocks ≢ [] → AreBlocks IsHeader 1 blocks → AreEvidence (flat_map text_of_block blocks) blocks
written_evidence bs some are = record { some = some; fits = are; lines = written_lines 1 bs are }
