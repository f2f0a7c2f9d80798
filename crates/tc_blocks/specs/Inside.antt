-- What only the writer and the reader of one block say.
use Rattle.std.specs.{Prelude.{ℕ, ◌≡◌, ◌≢◌, ◌+◌, ◌-◌, ◌^◌, ◌<◌, false, true, nat_eq, if◌then◌else◌, Bool, Option, None, Some, Result, MatchResult, List, [], ◌∷◌, ◌++◌, codes, length, map, ◌==◌, ◌||◌}, Borrow.Bor, Io.KnownBytes.Consumes, List.{AllByRecursion, flat_map, starts_with}, Option.option_map_or}
use Rattle.tc_rules.specs.Prelude.{Run, Verdict, Entry, Reply, Op, start}
use Rattle.tc_text.specs.{Prelude.{is_plain, lines_of, op_of, reply_text}, declared.short.ShortOp.ShortOp, declared.fault.{TextFault.TextFault, TextKind.TextKind}}
use Rattle.tc_blocks.specs.{Block.{header_text, block_text}, Histories.IsHistoryHeader, HistoryBlock.{end_text, entry_text, history_text}, HistoryText.IsEntry, Limit.may_come, Line.line_text, Met.AreMet, Sentence.IsSentence, Text.{AreBlocks, AreEvidence, AreLines, HoldsOfBlocks, IsFault, IsHeader, IsLine, IsTextOf, block_lines}, declared.{block.Block.Block, header.{Header.Header, Kind.Kind}, limit.{Extent.Extent, Limit.Limit, OpenBytes.OpenBytes}, line.Line.Line, met.MetRuns.MetRuns, reading.{OpenBlock.OpenBlock, Reading.Reading}, source.Pending.Pending, history_block.History.History}}

-- the text of a block
abbrev pub text_of_block : Block → List ℕ
text_of_block b = block_text b.header b.lines b.verdict

-- the text of a history, in its own format
abbrev pub text_of_history : History → List ℕ
text_of_history h = history_text h.format h.name h.behaviours h.entries h.verdict

-- the line of an entry
abbrev pub entry_line : Entry → List ℕ
entry_line e = entry_text e ++ (10 ∷ [])

-- the entry of this caller with a short operation and a reply
abbrev pub short_entry : Run → ShortOp → Reply → Entry
short_entry caller short reply = record { caller = caller; op = op_of short; reply = reply }

-- the operation gives no component a name
abbrev pub IsUnnamed : Op → Type 0
IsUnnamed (Op.Create alive (Some name)) = ⊥
IsUnnamed _ = Unit {0}

-- the lines of blocks, one block after the other
abbrev pub all_lines : List Block → List (List ℕ)
all_lines blocks = flat_map block_lines blocks

-- a byte that evidence may have: LF, or one from 32 to 126
abbrev pub is_text_byte : ℕ → Bool
is_text_byte b = (b == 10) || is_plain b

-- the line is the last one of a block
abbrev pub ends_block : List ℕ → Bool
ends_block line = starts_with nat_eq line (codes "end ")

-- no block of the text has more bytes
abbrev pub blocks_fit : ℕ → List ℕ → Bool
blocks_fit most text = may_come most 0 [] text

-- entries of a block of this format
abbrev pub AreEntries : ℕ → List Entry → Type 0
AreEntries f es = AllByRecursion (IsEntry f) es

-- what follows the move of an entry
abbrev pub outcome_text : Reply → List ℕ
outcome_text r = codes " -> " ++ reply_text r

-- the words of a first line, which say its format: 1 or 2
abbrev pub format_text : ℕ → List ℕ
format_text f = if f == 1 then codes "history 1 " else codes "history 2 "

-- a first line and lines inside, which no line ends yet
abbrev pub open_lines : Header → List Line → List (List ℕ)
open_lines h lines = header_text h ∷ map line_text lines

-- the operation starts run k
abbrev pub starts : ℕ → Op → Bool
starts k op = option_map_or (λ s. s.0.0 == k) (start op) false

-- what is between a run and its sentence
abbrev pub mark_text : Bool → List ℕ
mark_text refused = if refused then codes " ! " else codes " # "

-- no byte but those from 32 to 126
abbrev pub ArePlain : List ℕ → Type 0
ArePlain [] = Unit {0}
ArePlain (b ∷ bs) = (is_plain b ≡ true) × ArePlain bs

-- the text does not begin with a byte from 32 to 126
abbrev pub NoPlainFirst : List ℕ → Type 0
NoPlainFirst text = (b : ℕ) (rest : List ℕ) → text ≡ b ∷ rest → is_plain b ≡ false

-- the line is no entry
abbrev pub IsNoEntry : Line → Type 0
IsNoEntry (Line.Entry e) = ⊥
IsNoEntry _ = Unit {0}

-- what a run says, as a line
abbrev pub line_said : Bool → Run → List ℕ → Line
line_said false run sentence = Line.Remark run sentence
line_said true run sentence = Line.Refused run sentence

-- the line is what a run of the case says
abbrev pub IsSaidBy : ℕ → Line → Type 0
IsSaidBy n (Line.Remark run sentence) = (run.0 < n) × IsSentence sentence
IsSaidBy n (Line.Refused run sentence) = (run.0 < n) × IsSentence sentence
IsSaidBy n _ = ⊥

-- the line is no entry, and may come in evidence of n behaviours after these lines
abbrev pub IsNote : ℕ → List Line → Line → Type 0
IsNote n before l = IsNoEntry l × IsLine Kind.Evidence n before l

-- the first line spells this one, which is one that may come, and no other that may
pub record IsNext (may : Line → Type 0) (text : List ℕ) (l : Line) (rest : List ℕ) : Type 0 where
  pub spelled : lines_of text ≡ line_text l ∷ lines_of rest
  pub fits : may l
  pub less : length rest < length text
  pub only : (m : Line) (others : List (List ℕ)) → may m → lines_of text ≡ line_text m ∷ others → (l ≡ m) × (lines_of rest ≡ others)

-- the first line spells none that may come
abbrev pub IsNone : (Line → Type 0) → List ℕ → Type 0
IsNone may text = (m : Line) (others : List (List ℕ)) → may m → lines_of text ≡ line_text m ∷ others → ⊥

-- the line that may come which the first line spells, and what follows it, if it spells one
abbrev pub IsFound : (Line → Type 0) → List ℕ → Option (Line × Bor (List ℕ)) → Type 0
IsFound may text None = IsNone may text
IsFound may text (Some r) = IsNext may text r.0 r.1.now

-- the first line is no entry of this format
abbrev pub IsNoEntryLine : ℕ → List ℕ → Type 0
IsNoEntryLine format text = (e : Entry) (others : List (List ℕ)) → IsEntry format e → lines_of text ≡ entry_text e ∷ others → ⊥

-- the first line is none that may come after lines that are about these runs
abbrev pub IsNoLine : Kind → ℕ → MetRuns → List ℕ → Type 0
IsNoLine kind n met text = (before : List Line) → AreMet met before → IsNone (IsLine kind n before) text

-- the first line may come after lines that are about these runs; it is added to them, and with it the value before becomes the one after
pub record IsLineTakenBy {O : Type 0} (opens : ℕ → Header → List Line → O → Type 0) (kind : Kind) (n : ℕ) (text : List ℕ) (number : ℕ) (met met' : MetRuns) (value value' : O) (rest : List ℕ) : Type 0 where
  pub line : Line
  pub next : (before : List Line) → AreMet met before → IsNext (IsLine kind n before) text line rest
  pub adds : (before : List Line) → AreMet met before → AreMet met' (line ∷ before)
  pub opened : (first : ℕ) (h : Header) (before : List Line) → number ≡ first + length before + 1 → opens first h before value → opens first h (before ++ line ∷ []) value'

-- ---- blocks that are read part by part

-- the lines are the ones read, and those that the rest has
pub record Remains (kind : Kind) (n : ℕ) (inside : List Line) (rest : List (List ℕ)) (ls : List Line) (w : Verdict) (others : List (List ℕ)) : Type 0 where
  pub tail : List Line
  pub parts : ls ≡ inside ++ tail
  pub spelled : rest ≡ map line_text tail ++ end_text w ∷ others
  pub right : AreLines kind n inside tail

-- these lines may come inside a block, and all that they can be the first of begin with them
pub record AreInside (kind : Kind) (n : ℕ) (inside : List Line) : Type 0 where
  pub right : AreLines kind n [] inside
  pub only : (rest : List (List ℕ)) (ls : List Line) (w : Verdict) (others : List (List ℕ)) → AreLines kind n [] ls → map line_text inside ++ rest ≡ map line_text ls ++ end_text w ∷ others → Remains kind n inside rest ls w others

-- of a block that begins in this line and has this first line, these lines inside are read, and the value is what they make; the next line has that number
pub record IsOpenTo {O : Type 0} (opens : ℕ → Header → List Line → O → Type 0) (kind : Kind) (n : ℕ) (at : ℕ) (h : Header) (inside : List Line) (met : MetRuns) (value : O) (line : ℕ) : Type 0 where
  pub read : AreInside kind n inside
  pub met_are : AreMet met inside
  pub opened : opens at h inside value
  pub line_is : line ≡ at + 1 + length inside

-- the text is these lines inside a block, or begins with them and with a last line, which can be that of no other verdict, and then comes the rest
abbrev pub AreSpelled : List ℕ → List Line → Option (Verdict × Bor (List ℕ)) → Type 0
AreSpelled text taken None = lines_of text ≡ map line_text taken
AreSpelled text taken (Some r) = (lines_of text ≡ map line_text taken ++ end_text r.0 ∷ lines_of r.1.now) × ((w : Verdict) → end_text r.0 ≡ end_text w → r.0 ≡ w)

-- the text continues with lines inside a block, up to its last line or to the end of the text; with them the value before becomes the one after
pub record AreTakenBy {O : Type 0} (opens : ℕ → Header → List Line → O → Type 0) (kind : Kind) (n : ℕ) (text : List ℕ) (first : ℕ) (met met' : MetRuns) (before after : O) (line : ℕ) (end : Option (Verdict × Bor (List ℕ))) : Type 0 where
  pub taken : List Line
  pub spelled : AreSpelled text taken end
  pub opened : (at : ℕ) (h : Header) (inside : List Line) → IsOpenTo opens kind n at h inside met before first → IsOpenTo opens kind n at h (inside ++ taken) met' after line

-- both are open blocks of one kind, with as many behaviours
abbrev pub AreAlike : {O : Type 0} → OpenBlock O → OpenBlock O → Type 0
AreAlike {O} before after = (after.kind ≡ before.kind) × (after.behaviours ≡ before.behaviours)

-- the first line was taken into the open block
abbrev pub TakesLineIn : {O : Type 0} → (ℕ → Header → List Line → O → Type 0) → List ℕ → ℕ → OpenBlock O → OpenBlock O → List ℕ → Type 0
TakesLineIn {O} opens text number before after rest =
    AreAlike before after × IsLineTakenBy opens before.kind before.behaviours text number before.met after.met before.begun after.begun rest

-- the text continues with lines inside a block, and then, in the line of this number, comes neither a line that may come nor the end of the block
pub record IsBadInside (kind : Kind) (n : ℕ) (inside : List Line) (at : ℕ) (text : List ℕ) (line : ℕ) : Type 0 where
  pub all : List Line
  pub taken : List Line
  pub bad_line : List ℕ
  pub others : List (List ℕ)
  pub parts : all ≡ inside ++ taken
  pub read : AreInside kind n all
  pub lines : lines_of text ≡ map line_text taken ++ bad_line ∷ others
  pub number : line ≡ at + 1 + length all
  pub no_line : (l : Line) → IsLine kind n all l → bad_line ≢ line_text l
  pub no_end : (v : Verdict) → bad_line ≢ end_text v

-- the first fault of a text that continues inside a block that begins in this line
abbrev pub IsInsideFault : Kind → ℕ → List Line → ℕ → List ℕ → TextFault → Type 0
IsInsideFault kind n inside at text (TextFault.At line TextKind.Entry) = IsBadInside kind n inside at text line
IsInsideFault kind n inside at text TextFault.NoMemory = Unit {0}
IsInsideFault kind n inside at text fault = ⊥

-- the first lines that the blocks of a text may have: if it has histories only, theirs
abbrev pub IsFirst : Bool → (Header → Type 0)
IsFirst false = IsHeader
IsFirst true = IsHistoryHeader

-- the blocks are the ones read, and those that the rest has
pub record Others (may : Header → Type 0) (blocks : List Block) (rest : List (List ℕ)) (line : ℕ) (all : List Block) : Type 0 where
  pub tail : List Block
  pub parts : all ≡ blocks ++ tail
  pub spelled : rest ≡ all_lines tail
  pub fits : AreBlocks may line tail

-- these blocks may be the first of a text, whose next line has this number, and all that they can be the first of begin with them
pub record AreRead (may : Header → Type 0) (blocks : List Block) (line : ℕ) : Type 0 where
  pub fits : AreBlocks may 1 blocks
  pub number : line ≡ length (all_lines blocks) + 1
  pub only : (rest : List (List ℕ)) (all : List Block) → AreBlocks may 1 all → all_lines blocks ++ rest ≡ all_lines all → Others may blocks rest line all

-- after these blocks the lines are a first line, which is that of no other, and lines inside, and the open block is what they make
pub record IsOpened {O : Type 0} (opens : ℕ → Header → List Line → O → Type 0) (may : Header → Type 0) (blocks : List Block) (at : ℕ) (lines : List (List ℕ)) (block : OpenBlock O) (line : ℕ) : Type 0 where
  pub header : Header
  pub inside : List Line
  pub header_is : may header
  pub header_only : (g : Header) → may g → header_text header ≡ header_text g → header ≡ g
  pub kind_is : block.kind ≡ header.kind
  pub few : block.behaviours ≡ header.behaviours
  pub open_to : IsOpenTo opens block.kind block.behaviours at header inside block.met block.begun line
  pub lines_are : lines ≡ all_lines blocks ++ open_lines header inside

-- the same with this block open
abbrev pub opened : {H O : Type 0} → Reading H O → OpenBlock O → Reading H O
opened {H} {O} r block = record r { block = Some block }

-- the runs that lines of an open block are about are those of some lines
abbrev pub IsKnown : {O : Type 0} → Option (OpenBlock O) → Type 0
IsKnown {O} None = Unit {0}
IsKnown {O} (Some block) = (lines : List Line) × AreMet block.met lines

-- after these blocks there is no other line, or a block is open
abbrev pub IsPlace : {O : Type 0} → (ℕ → Header → List Line → O → Type 0) → (Header → Type 0) → List Block → ℕ → List (List ℕ) → Option (OpenBlock O) → ℕ → Type 0
IsPlace {O} opens may blocks at lines None line = (lines ≡ all_lines blocks) × (line ≡ at)
IsPlace {O} opens may blocks at lines (Some block) line = IsOpened opens may blocks at lines block line

-- these lines are read, and what is made of them is this, with this block open; the next line has that number
pub record IsReadTo {H O : Type 0} (stands : List Block → H → Type 0) (opens : ℕ → Header → List Line → O → Type 0) (may : Header → Type 0) (lines : List (List ℕ)) (made : H) (block : Option (OpenBlock O)) (line : ℕ) : Type 0 where
  pub blocks : List Block
  pub at : ℕ
  pub read : AreRead may blocks at
  pub made_is : stands blocks made
  pub place : IsPlace opens may blocks at lines block line

-- from the lines before the text on, its first ones are read, and then comes the rest
pub record IsReadOn {H O : Type 0} (stands : List Block → H → Type 0) (opens : ℕ → Header → List Line → O → Type 0) (may : Header → Type 0) (before : List (List ℕ)) (text rest : List ℕ) (made : H) (block : Option (OpenBlock O)) (line : ℕ) : Type 0 where
  pub taken : List (List ℕ)
  pub lines : lines_of text ≡ taken ++ lines_of rest
  pub read : IsReadTo stands opens may (before ++ taken) made block line

-- the fault is the first one of each text that begins with these lines
abbrev pub IsRefused : (Header → Type 0) → List (List ℕ) → TextFault → Type 0
IsRefused may lines fault = (whole : List ℕ) (future : List (List ℕ)) → lines_of whole ≡ lines ++ future → IsFault may whole fault

-- the text is that of blocks, and of whatever blocks it is, the value is what they make
pub record IsWholeOf {H : Type 0} (stands : List Block → H → Type 0) (may : Header → Type 0) (text : List ℕ) (made : H) : Type 0 where
  pub blocks : List Block
  pub text_is : IsTextOf may text blocks
  pub made_is : (all : List Block) → IsTextOf may text all → stands all made

-- these lines are read, and this is how far
abbrev pub IsReadBy : {H O : Type 0} → (List Block → H → Type 0) → (ℕ → Header → List Line → O → Type 0) → List (List ℕ) → Reading H O → Type 0
IsReadBy {H} {O} stands opens lines r = IsReadTo stands opens (IsFirst r.only_histories) lines r.made r.block r.line

-- from there on the text is read, up to the rest, and this is how far
pub record GoesOn {H O : Type 0} (stands : List Block → H → Type 0) (opens : ℕ → Header → List Line → O → Type 0) (before : Reading H O) (text : List ℕ) (after : Reading H O) (rest : List ℕ) : Type 0 where
  pub same : after.only_histories ≡ before.only_histories
  pub goes : (lines : List (List ℕ)) → IsReadBy stands opens lines before → IsReadOn stands opens (IsFirst before.only_histories) lines text rest after.made after.block after.line

-- from there on the text has this fault, whatever comes after it
pub record Refuses {H O : Type 0} (stands : List Block → H → Type 0) (opens : ℕ → Header → List Line → O → Type 0) (before : Reading H O) (text : List ℕ) (fault : TextFault) : Type 0 where
  pub refused : (lines : List (List ℕ)) → IsReadBy stands opens lines before → IsRefused (IsFirst before.only_histories) (lines ++ lines_of text) fault

-- what is read of a text: what its blocks make, whatever blocks it is of; or its first fault, and it is of none unless
-- memory ran out
abbrev pub IsReadInto : {H : Type 0} → (List Block → H → Type 0) → List ℕ → Result H TextFault → Type 0
IsReadInto {H} stands text read =
    MatchResult read (λ made. HoldsOfBlocks text (λ all. stands all made)) (λ fault. IsFault IsHeader text fault × ((all : List Block) → AreEvidence text all → fault ≡ TextFault.NoMemory))

-- ---- texts that come as bytes, part by part

-- of these bytes the whole lines are read, and the unfinished one is kept
pub record IsPending {H O : Type 0} (stands : List Block → H → Type 0) (opens : ℕ → Header → List Line → O → Type 0) (bytes : List ℕ) (reading : Reading H O) (unfinished : List ℕ) : Type 0 where
  pub whole : List ℕ
  pub parts : bytes ≡ whole ++ unfinished
  pub closed : (rest : List ℕ) → lines_of (whole ++ rest) ≡ lines_of whole ++ lines_of rest
  pub read : IsReadBy stands opens (lines_of whole) reading

-- if the first was made of some bytes, the second is made of them and this part
pub record TakesPart {H O : Type 0} (stands : List Block → H → Type 0) (opens : ℕ → Header → List Line → O → Type 0) (reading : Reading H O) (unfinished : List ℕ) (part : List ℕ) (after : Reading H O) (unfinished' : List ℕ) : Type 0 where
  pub takes : (bytes : List ℕ) → IsPending stands opens bytes reading unfinished → IsPending stands opens (bytes ++ part) after unfinished'

-- with this part, the bytes have this fault, whatever comes after them
pub record RefusesPart {H O : Type 0} (stands : List Block → H → Type 0) (opens : ℕ → Header → List Line → O → Type 0) (reading : Reading H O) (unfinished : List ℕ) (part : List ℕ) (fault : TextFault) : Type 0 where
  pub refused : (bytes : List ℕ) → IsPending stands opens bytes reading unfinished
      → (rest : List ℕ) → IsFault (IsFirst reading.only_histories) ((bytes ++ part) ++ rest) fault

-- the same, of what is pending
abbrev pub TakesIn : {H O : Type 0} → (List Block → H → Type 0) → (ℕ → Header → List Line → O → Type 0) → Pending H O → List ℕ → Pending H O → Type 0
TakesIn {H} {O} stands opens before part after = TakesPart stands opens before.reading before.unfinished.items part after.reading after.unfinished.items

abbrev pub RefusesIn : {H O : Type 0} → (List Block → H → Type 0) → (ℕ → Header → List Line → O → Type 0) → Pending H O → List ℕ → TextFault → Type 0
RefusesIn {H} {O} stands opens before part fault = RefusesPart stands opens before.reading before.unfinished.items part fault

-- the number of the next line and the bytes that are kept: together they grow at most by the bytes that come
abbrev pub reach : {H O : Type 0} → Pending H O → ℕ
reach {H} {O} p = p.reading.line + length p.unfinished.items

-- the bytes continue with what is due
abbrev pub is_due : Option (Bor (List ℕ)) → List ℕ → Bool
is_due due more = option_map_or (λ w. starts_with nat_eq more w.now) due false

-- no block of this text has more bytes so far, and by what is known of the last one others may come after it
pub record IsOpenAfter (most : ℕ) (text : List ℕ) (o : OpenBytes) : Type 0 where
  pub line : List ℕ
  pub due : (more : List ℕ) → ends_block (line ++ more) ≡ is_due o.due more
  pub comes : (rest : List ℕ) → blocks_fit most (text ++ rest) ≡ may_come most o.bytes line rest

-- the same, if blocks have a limit
abbrev pub IsFitSoFar : Limit → List ℕ → OpenBytes → Type 0
IsFitSoFar (Limit.Whole most) text o = Unit {0}
IsFitSoFar (Limit.Blocks most) text o = IsOpenAfter most text o

-- the most bytes of an input, all together
abbrev pub most_of : Limit → ℕ
most_of (Limit.Whole most) = most
most_of (Limit.Blocks most) = 2 ^ 64 - 2

-- of an input, which has a limit, these bytes are consumed
pub record IsConsumed (input now : Option (List ℕ)) (text : List ℕ) (e : Extent) : Type 0 where
  pub consumed : Consumes input now text
  pub counted : length text + e.left ≡ most_of e.limit
  pub fits : IsFitSoFar e.limit text e.open
