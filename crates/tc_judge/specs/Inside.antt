-- What the functions inside of this crate say, which no clause of the program names.
use Rattle.std.specs.{Prelude.{ℕ, ◌≡◌, ◌≢◌, ◌&&◌, ◌≤◌, ◌+◌, ◌||◌, filter, is_some, nat_lt, All, Bool, true, false, Option, Some, None, List, [], ◌∷◌, ◌++◌, length, map, reverse, codes, if◌then◌else◌, not}, List.{AllZip, find, flat_map, list_any}}
use Rattle.tc_entry.specs.declared.limits.TheConstants.{BEHAVIOURS}
use Rattle.tc_rules.specs.Prelude.{Verdict, Entry, Kept, StandsFor, answer, name_of, Reply}
use Rattle.tc_text.specs.Prelude.{reply_text}
use Rattle.tc_step.specs.Prelude.{ScriptView}
use Rattle.tc_reader.specs.Prelude.{is_text, Word, add, among, has_twice, CampaignView}
use Rattle.tc_blocks.specs.Prelude.{AreEvidence, entries_of, HoldsOfBlocks, LinesAreLegal, overall_of}
use Rattle.tc_blocks.specs.declared.{block.Block.Block, header.Header.Header, line.Line.Line as BlockLine}
use Rattle.tc_report.specs.{Prelude.{block_summary, blocks_report, replayed_text, said_in, verdicts_closing}, declared.summary.Summary.Summary}
use Rattle.tc_exec.specs.declared.test_case.Case.{Case}
use Rattle.tc_command.specs.declared.task.{Choice.Choice, ReportForm.ReportForm}
use Rattle.tc_answer.specs.{Prelude.{AreChosen, blocks_part, have_names, is_asked, script_part}, Inside.{place_text, IsCaseOf}}
use Rattle.tc_judge.specs.{Check.{Checks, IsLegalBlock, legal_line, counting, is_passing}, Compared.{IsCompared, IsJudged, has_block_named, has_later, missing}, declared.{compare.{Comparing.Comparing, Comparison.Comparison, Wrong.Wrong}, judged.{Judged.Judged, Recorded.Recorded}, kept.{Nothing.Nothing, Whole.Whole}, passed.Seen.Seen, playing.{Difference.Difference, Judgement.Judgement, Playing.Playing}}}

-- the name of a block
abbrev pub block_name : Block → Word
block_name b = b.header.name

-- what has this name and this verdict is picked
abbrev pub is_picked : List Word → Bool → Word → Verdict → Bool
is_picked only failed name v = is_asked only name && not (failed && is_passing v)

-- each block is chosen
abbrev pub each : Block → Bool
each b = true

-- the words before what the table gives
unfoldable pub gives_text : List ℕ
gives_text = codes ", table gives "

-- the line of another reply or verdict, as it is made
abbrev pub made_line : ℕ → List ℕ → List ℕ → List ℕ
made_line line given table = place_text line ++ (given ++ (gives_text ++ (table ++ (10 ∷ []))))

-- of these lines below a first line, the one with this number is the first entry with another reply than the table's
pub record IsOtherReply (n first_line : ℕ) (lines : List BlockLine) (line : ℕ) (given reply : Reply) : Type 0 where
  pub before : List BlockLine
  pub behind : List BlockLine
  pub entry : Entry
  pub place : lines ≡ before ++ BlockLine.Entry entry ∷ behind
  pub legal : LinesAreLegal n before
  pub answers : reply ≡ answer n (reverse (entries_of before)) entry.caller.0 entry.op
  pub other : entry.reply ≢ reply
  pub given_is : given ≡ entry.reply
  pub line_is : line ≡ first_line + length before + 1

-- what the table says of a block: each reply is the table's and the verdict is right, or the first other reply, or another verdict
abbrev pub IsJudgement : Block → Judgement → Type 0
IsJudgement b (Judgement.Legal entries) = IsLegalBlock b × (entries ≡ length (entries_of b.lines))
IsJudgement b (Judgement.OtherReply line given reply) = IsOtherReply b.header.behaviours b.first_line b.lines line given reply
IsJudgement b (Judgement.OtherVerdict line given verdict) =
    LinesAreLegal b.header.behaviours b.lines × (verdict ≡ overall_of b.lines) × (b.verdict ≢ verdict) × (given ≡ b.verdict) × (line ≡ b.first_line + length b.lines + 1)

-- whether it is the judgement of a legal block
abbrev pub judges_legal : Judgement → Bool
judges_legal (Judgement.Legal entries) = true
judges_legal judgement = false

-- what is printed for a block that is not legal
abbrev pub illegal_line : Judgement → List ℕ
illegal_line (Judgement.Legal entries) = []
illegal_line (Judgement.OtherReply line given reply) = made_line line (reply_text given) (reply_text reply)
illegal_line (Judgement.OtherVerdict line given verdict) = made_line line (name_of given) (name_of verdict)

-- this state represents the entries among the lines, of which there are that many, and each of whose replies is the table's; or this is their first difference
abbrev pub IsPlayedTo : ℕ → ℕ → List BlockLine → Kept → ℕ → Option Difference → Type 0
IsPlayedTo n first_line lines k entries None =
    (k.behaviours ≡ n) × StandsFor k (reverse (entries_of lines)) × LinesAreLegal n lines × (entries ≡ length (entries_of lines))
IsPlayedTo n first_line lines k entries (Some d) = IsOtherReply n first_line lines d.line d.given d.reply

-- these lines of a block, which are below its first line, are played
abbrev pub IsPlayed : ℕ → Header → List BlockLine → Playing → Type 0
IsPlayed first_line h lines p = (p.header ≡ h) × IsPlayedTo h.behaviours first_line lines p.state p.entries p.difference

-- the same, and the entries and what is said next to them are recorded, if it is asked for; otherwise nothing is
abbrev pub IsRecorded : Bool → ℕ → Header → List BlockLine → Recorded → Type 0
IsRecorded records first_line h lines r =
    IsPlayed first_line h lines r.playing × (records ≡ true → (r.entries.items ≡ entries_of lines) × (r.said ≡ said_in lines))
    × (records ≡ false → (r.entries.items ≡ []) × (r.said ≡ said_in []))

-- the line with this number was played after those of a block, if it is the next
abbrev pub PlaysNext : ℕ → BlockLine → Playing → Playing → Type 0
PlaysNext line l before after =
    (first_line : ℕ) (h : Header) (lines : List BlockLine) → line ≡ first_line + length lines + 1
    → IsPlayed first_line h lines before → IsPlayed first_line h (lines ++ l ∷ []) after

-- of a block that was played, with this last line and this verdict, it is what the table says
abbrev pub JudgesPlayed : Playing → ℕ → Verdict → Judgement → Type 0
JudgesPlayed p line given j =
    (b : Block) → IsPlayed b.first_line b.header b.lines p → line ≡ b.first_line + length b.lines + 1 → given ≡ b.verdict → IsJudgement b j

-- nothing is kept of a block
abbrev pub KeepsNothing : Block → Nothing → Type 0
KeepsNothing b kept = Unit {0}

-- what is kept of a block for its report: what the forms say of it, if it is legal
abbrev pub IsSummaryOf : Block → Summary → Type 0
IsSummaryOf b s = IsLegalBlock b → s ≡ block_summary b

-- and what is kept of it next to a script, or for its text report: its entries too
pub record IsWholeOfBlock (b : Block) (w : Whole) : Type 0 where
  pub summary : IsSummaryOf b w.summary
  pub behaviours : w.behaviours ≡ b.header.behaviours
  pub entries : w.entries.items ≡ entries_of b.lines

-- a block was judged so, and this is kept of it
pub record IsJudgedBlock {K : Type 0} (keeps : Block → K → Type 0) (b : Block) (j : Judged K) : Type 0 where
  pub name : j.name ≡ b.header.name
  pub verdict : j.verdict ≡ b.verdict
  pub judgement : IsJudgement b j.judgement
  pub kept : keeps b j.kept

-- the text is that of histories and evidence, and whatever blocks it is of, those that count were judged so
abbrev pub AreJudgedIn : {K : Type 0} → (Block → K → Type 0) → Bool → List ℕ → List (Judged K) → Type 0
AreJudgedIn {K} keeps last text js = HoldsOfBlocks text (λ all. AllZip (IsJudgedBlock keeps) (counting last all) js)

-- the name of a judged block
abbrev pub judged_name : {K : Type 0} → Judged K → Word
judged_name j = j.name

-- the judgement of the first block that is not legal
abbrev pub first_illegal : {K : Type 0} → List (Judged K) → Option Judgement
first_illegal js = find (λ judgement. not (judges_legal judgement)) (map (λ j. j.judgement) js)

-- of judged blocks one is not legal, or each pattern of the choice matches the name of one
abbrev pub names_found : {K : Type 0} → Choice → List (Judged K) → Bool
names_found choice js = is_some (first_illegal js) || have_names judged_name choice.only.items js

-- then these are the chosen ones, and this is the judgement of the first of all that is not legal
pub record ArePicked {K : Type 0} (choice : Choice) (js chosen : List (Judged K)) (illegal : Option Judgement) : Type 0 where
  pub picked : chosen ≡ filter (λ j. is_picked choice.only.items choice.failed j.name j.verdict) js
  pub first : illegal ≡ first_illegal js
  pub found : names_found choice js ≡ true

-- the blocks that are picked by name and verdict
abbrev pub picked_by : (Word → Verdict → Bool) → Block → Bool
picked_by picks b = picks (block_name b) b.verdict

-- the same by its name, its verdict and its judgement, and whether it is picked
abbrev pub line_of_judgement : Bool → Word → Verdict → Judgement → List ℕ
line_of_judgement picked name verdict (Judgement.Legal entries) = if picked then legal_line name entries verdict else []
line_of_judgement picked name verdict judgement = illegal_line judgement

-- what is printed for a block, if it is picked or not legal
abbrev pub line_by : {K : Type 0} → (Word → Verdict → Bool) → Judged K → List ℕ
line_by picks j = line_of_judgement (picks j.name j.verdict) j.name j.verdict j.judgement

-- what is printed for blocks, up to the first that is not legal
abbrev pub printed : {K : Type 0} → (Word → Verdict → Bool) → List (Judged K) → List ℕ
printed picks [] = []
printed picks (j ∷ js) = if judges_legal j.judgement then line_by picks j ++ printed picks js else line_by picks j

-- what the forms say of a block, by what is kept of it
abbrev pub summary_by : {K : Type 0} → (K → Summary) → Judged K → Summary
summary_by summary j = summary j.kept

-- the form of these chosen blocks is not made of a text, or is made of this one: the page of that of all blocks, the text report
-- of itself
abbrev pub IsTextFor : ReportForm → List ℕ → List Block → List ℕ → Type 0
IsTextFor ReportForm.Html given chosen text = text ≡ given
IsTextFor ReportForm.Text given chosen text = text ≡ blocks_report chosen
IsTextFor form given chosen text = Unit {0}

-- what the text report says of a judged block
abbrev pub judged_report : Judged Whole → List ℕ
judged_report j = replayed_text j.kept.summary j.kept.behaviours j.kept.entries.items j.verdict

-- the text report of judged blocks
abbrev pub judged_text : List (Judged Whole) → List ℕ
judged_text js = flat_map judged_report js ++ verdicts_closing (map (λ j. j.verdict) js)

-- this is the judgement of the first of these blocks that is not legal, if there is one
abbrev pub IsFirstIllegal : List Block → Option Judgement → Type 0
IsFirstIllegal blocks None = All IsLegalBlock blocks
IsFirstIllegal blocks (Some judgement) = Checks (λ b. false) blocks (illegal_line judgement) 3

-- and these are the test cases of the chosen ones, if there is none
abbrev pub Reports : List Block → List Block → List Summary → Option Judgement → Type 0
Reports blocks chosen ss illegal = IsFirstIllegal blocks illegal × (All IsLegalBlock blocks → ss ≡ map block_summary chosen)

-- these judged blocks are chosen ones, all legal if all blocks are, and this is the judgement of the first that is not
pub record AreChosenBlocks {K : Type 0} (keeps : Block → K → Type 0) (blocks chosen : List Block) (js : List (Judged K)) (illegal : Option Judgement) : Type 0 where
  pub each : AllZip (IsJudgedBlock keeps) chosen js
  pub first : IsFirstIllegal blocks illegal
  pub legal : All IsLegalBlock blocks → All IsLegalBlock chosen

-- by its judgement a block shows its test case to have passed
abbrev pub passes : Judged Nothing → Bool
passes j = judges_legal j.judgement && is_passing j.verdict

-- the block has this name, and does not show its test case to have passed
abbrev pub fails : Word → Judged Nothing → Bool
fails name j = not (passes j) && is_text name j.name

-- the names of the blocks that do not show it, with one block more
abbrev pub with_failed : List Word → Judged Nothing → List Word
with_failed ns j = if passes j then ns else add j.name ns

-- these are the names that the blocks have, and those of the blocks that do not show their test cases to have passed
abbrev pub HasSeen : List (Judged Nothing) → Seen → Type 0
HasSeen js s = (name : Word) → (among name s.names.keys ≡ list_any (λ j. is_text name j.name) js) × (among name s.failed.keys ≡ list_any (fails name) js)

-- the names show that the test case of this name has passed
abbrev pub shows_passed : Seen → Word → Bool
shows_passed s name = among name s.names.keys && not (among name s.failed.keys)

-- a test case has as few jobs as it may have
abbrev pub HasFewJobs : Case ScriptView → Type 0
HasFewJobs k = length k.jobs.items ≤ BEHAVIOURS

-- ---- blocks beside their script

-- these test cases have different names, and each has few behaviours
pub record AreComparable (ready : List (Case ScriptView)) : Type 0 where
  pub distinct : has_twice (map (λ k. k.name) ready) ≡ false
  pub few : All (λ k. length k.jobs.items ≤ BEHAVIOURS) ready

-- this is said of blocks next to test cases, and these are missing
abbrev pub Finds : CampaignView → List Block → Comparison → Type 0
Finds cases blocks r = IsCompared cases [] blocks r.notes.items × (r.missing.items ≡ missing (reverse blocks) cases)

-- the blocks after a script were judged so, and this is found of those that count next to its chosen test cases
pub record AreComparedIn (choice : Choice) (text : List ℕ) (js : List (Judged Whole)) (r : Comparison) : Type 0 where
  pub cases : CampaignView
  pub chosen : AreChosen choice (script_part text) cases
  pub judged : AreJudgedIn IsWholeOfBlock choice.last (blocks_part text) js
  pub found : (all : List Block) → AreEvidence (blocks_part text) all → Finds cases (counting choice.last all) r

-- as much is kept of each test case, and its behaviours are few
pub record IsWhole (c : Comparing) : Type 0 where
  pub ready : length c.ready.items ≡ length c.names.keys
  pub few : All HasFewJobs c.ready.items

-- what is kept of these test cases after these blocks, the newest first
pub record StandsBeside (cases : CampaignView) (before : List Block) (c : Comparing) : Type 0 where
  pub names : c.names.keys ≡ map (λ t. t.0) cases
  pub ready : AllZip IsCaseOf cases c.ready.items
  pub met : (name : Word) → among name c.met.keys ≡ has_block_named before name
  pub next : (p : ℕ) → has_later cases before p ≡ nat_lt (p + 1) c.next

-- this is wrong with a block after those before it, if something is
abbrev pub Judges : Comparing → Judged Whole → Option Wrong → Type 0
Judges c j wrong = (cases : CampaignView) (before : List Block) (b : Block) → IsJudgedBlock IsWholeOfBlock b j → StandsBeside cases before c → IsJudged cases before b wrong

-- a block of this name was taken in
abbrev pub Meets : Word → Comparing → Comparing → Type 0
Meets name c after = (cases : CampaignView) (before : List Block) (b : Block) → name ≡ b.header.name → StandsBeside cases before c → StandsBeside cases (b ∷ before) after
