-- What `check` prints for histories and evidence, and of them the chosen.
use Rattle.std.specs.{Prelude.{ℕ, ◌≡◌, ◌≢◌, ◌⊎◌, ◌+◌, Bool, true, false, if◌then◌else◌, List, [], ◌∷◌, ◌++◌, length, reverse, codes, MatchResult, IsErrAnd, Option, Result, ◌==◌, ◌&&◌, fold, not, IfSome}, Fmt.decimal}
use Rattle.tc_rules.specs.Prelude.{Verdict, name_of, Entry, Reply, answer}
use Rattle.tc_text.specs.Prelude.{reply_text}
use Rattle.tc_blocks.specs.{declared.{block.Block.Block, limit.Limit.Limit, line.Line.Line}, Prelude.{entries_of, LinesAreLegal, overall_of, AreEvidence, IsInLimit, HoldsOfBlocks, IsFault, IsHeader, IsReadIn}}
use Rattle.tc_command.specs.declared.task.Choice.{Choice}
use Rattle.tc_answer.specs.{Prelude.{have_names, RefusesText, is_asked}, declared.{fault.RunFault.RunFault, limits.TheConstants.HISTORY_LIMIT, reply.Answer.Answer}}
use Rattle.tc_report.specs.Prelude.{verdict_status}
use Rattle.tc_reader.specs.Prelude.{is_text, Word}

-- the others with this one: in the place of the one of its name, or at the end if there is none
abbrev pub put : {X : Type 0} → (X → Word) → List X → X → List X
put name [] x = x ∷ []
put name (y ∷ ys) x = if is_text (name x) (name y) then x ∷ ys else y ∷ put name ys x

-- those that count: all; or of each name the last, in the place of the first of that name
abbrev pub that_count : {X : Type 0} → (X → Word) → Bool → List X → List X
that_count name last xs = if last then fold (put name) [] xs else xs

-- the blocks that count, all or the last of each name
abbrev pub counting : Bool → List Block → List Block
counting = that_count (λ b. b.header.name)

-- a verdict is none or pass
abbrev pub is_passing : Verdict → Bool
is_passing v = verdict_status v == 0

-- The block is chosen: a pattern matches its name, if there is one; and if only what failed is asked for, its verdict is neither
-- none nor pass. A shard is of a script, and leaves out no block.
abbrev pub is_chosen : Choice → Block → Bool
is_chosen choice b = is_asked choice.only.items b.header.name && not (choice.failed && is_passing b.verdict)

-- the choice leaves out no block, and takes no long text
abbrev pub ChoosesEach : Choice → Type 0
ChoosesEach choice = (choice.only.items ≡ []) × (choice.failed ≡ false) × (choice.last ≡ false) × (choice.long ≡ false)

-- the line of a legal block: its name, how many entries it has, its verdict
abbrev pub legal_line : List ℕ → ℕ → Verdict → List ℕ
legal_line name entries verdict = codes "legal " ++ (name ++ (codes " " ++ (decimal entries ++ (codes " " ++ (name_of verdict ++ (10 ∷ []))))))

-- the line of the text with this number gives one thing, and the table another
unfoldable pub disagreeing_line : ℕ → List ℕ → List ℕ → List ℕ
disagreeing_line line given table = codes "line " ++ (decimal line ++ (codes ": " ++ (given ++ (codes ", table gives " ++ (table ++ (10 ∷ []))))))

-- the block is legal: each reply is the table's, and the verdict is right
pub record IsLegalBlock (b : Block) : Type 0 where
  pub replies : LinesAreLegal b.header.behaviours b.lines
  pub verdict : b.verdict ≡ overall_of b.lines

-- the line of a block that is not legal: its first entry with another reply, or, if there is none, its verdict
pub data IsIllegalLine (b : Block) (line : List ℕ) : Type 0 where
  other_reply : (before behind : List Line) (e : Entry) (reply : Reply) → b.lines ≡ before ++ Line.Entry e ∷ behind → LinesAreLegal b.header.behaviours before
      → reply ≡ answer b.header.behaviours (reverse (entries_of before)) e.caller.0 e.op → e.reply ≢ reply
      → line ≡ disagreeing_line (b.first_line + length before + 1) (reply_text e.reply) (reply_text reply) → IsIllegalLine b line
  other_verdict : LinesAreLegal b.header.behaviours b.lines → b.verdict ≢ overall_of b.lines
      → line ≡ disagreeing_line (b.first_line + length b.lines + 1) (name_of b.verdict) (name_of (overall_of b.lines)) → IsIllegalLine b line

-- What is printed for blocks, one after the other up to the first that is not legal: of the legal ones only the chosen have a
-- line. And the status, 0 if all are legal, otherwise 3.
pub data Checks (is_chosen : Block → Bool) : List Block → List ℕ → ℕ → Type 0 where
  none : Checks is_chosen [] [] 0
  goes_on : (b : Block) (rest : List Block) (out : List ℕ) (status : ℕ) → IsLegalBlock b → Checks is_chosen rest out status
      → Checks is_chosen (b ∷ rest) ((if is_chosen b then legal_line b.header.name (length (entries_of b.lines)) b.verdict else []) ++ out) status
  stops : (b : Block) (rest : List Block) (line : List ℕ) → IsIllegalLine b line → Checks is_chosen (b ∷ rest) line 3

-- of the blocks of the text that count, this output says which of the chosen are legal, and which is the first of all that is not
abbrev pub IsChecked : Bool → (Block → Bool) → List ℕ → List ℕ → ℕ → Type 0
IsChecked last is_chosen text out status = HoldsOfBlocks text (λ all. Checks is_chosen (counting last all) out status)

-- a text is refused as one of histories and evidence, and is none of any
abbrev pub RefusesHistory : List ℕ → RunFault → Type 0
RefusesHistory text = RefusesText (λ fault. IsFault IsHeader text fault × ((blocks : List Block) → AreEvidence text blocks → ⊥))

-- each of these patterns matches the name of a block that counts
abbrev pub are_named : Bool → List (List ℕ) → List Block → Bool
are_named last only all = have_names (λ b. b.header.name) only (counting last all)

-- the text is refused as one of histories and evidence; or this is so of its blocks that count, and some pattern matches the name of
-- none
abbrev pub RefusesBlocks : (List Block → Type 0) → Bool → List (List ℕ) → List ℕ → RunFault → Type 0
RefusesBlocks Are last only text RunFault.Only = HoldsOfBlocks text (λ all. Are (counting last all) × (are_named last only all ≡ false))
RefusesBlocks Are last only text fault = RefusesHistory text fault

-- an answer of which nothing is printed, with such an output and status
abbrev pub IsSilent : (List ℕ → ℕ → Type 0) → Answer → Type 0
IsSilent Is a = Is a.out a.status × (a.told ≡ [])

-- The answer is so, and if this is so of the blocks that count, each pattern of the choice matches the name of one. Otherwise the text is
-- refused, and after its blocks are read a pattern.
abbrev pub IsMadeOfBlocks : (List Block → Type 0) → Choice → List ℕ → (Answer → Type 0) → Result Answer RunFault → Type 0
IsMadeOfBlocks Are choice text Is made = MatchResult made
    (λ a. Is a × ((all : List Block) → AreEvidence text all → Are (counting choice.last all) → are_named choice.last choice.only.items all ≡ true))
    (RefusesBlocks Are choice.last choice.only.items text)

-- how many bytes histories may have: all together, or, if they may be long, each block
abbrev pub history_limit : Bool → Limit
history_limit long = if long then Limit.Blocks HISTORY_LIMIT else Limit.Whole HISTORY_LIMIT

-- the input was not read whole: it has more bytes than it may have, or the device failed, or memory ran out
abbrev pub IsUnreadIn : Limit → Option (List ℕ) → RunFault → Type 0
IsUnreadIn limit input RunFault.TooLong = IfSome input (λ text. IsInLimit limit text → ⊥)
IsUnreadIn limit input RunFault.Read = Unit {0}
IsUnreadIn limit input RunFault.NoMemory = Unit {0}
IsUnreadIn limit input fault = ⊥

-- the input was read, and this is made of its text; or it was not, and the fault says why
abbrev pub IsMadeOfInput : Limit → Option (List ℕ) → (List ℕ → Result Answer RunFault → Type 0) → Result Answer RunFault → Type 0
IsMadeOfInput limit input Made made = IsReadIn limit input (λ text. Made text made) ⊎ IsErrAnd made (IsUnreadIn limit input)
