-- Histories and evidence after their script in one text, and what of them is no course of its test cases.
use Rattle.std.specs.{Prelude.{ℕ, ◌≡◌, ◌==◌, MatchBool, nat_lt, Bool, true, false, if◌then◌else◌, Option, Some, None, not, List, [], ◌∷◌, ◌++◌, codes, filter, length, map, position, reverse, slice_get, ◌↔◌, All}, List.{flat_map, list_any}, Option.{MatchOption, option_map_or}}
use Rattle.tc_command.specs.declared.task.{Choice.Choice, ReportForm.ReportForm}
use Rattle.tc_answer.specs.{declared.{fault.RunFault.RunFault, reply.Answer.Answer}, Prelude.{AreChosen, RefusesChoice, CaseView, scripts_of, script_part, blocks_part}}
use Rattle.tc_blocks.specs.{declared.block.Block.Block, Prelude.{entries_of, HoldsOfBlocks}}
use Rattle.tc_course.specs.Prelude.{IsShown}
use Rattle.tc_reader.specs.Prelude.{is_text, CampaignView, Word}
use Rattle.tc_judge.specs.{Check.{Checks, RefusesHistory, counting, IsLegalBlock, is_passing}, Report.IsReport, declared.compare.Wrong.Wrong}

-- the place of the test case of this name in the script
abbrev pub place_in : CampaignView → Word → Option ℕ
place_in cases name = position (is_text name) (map (λ c. c.0) cases)

-- one of these blocks has this name
abbrev pub has_block_named : List Block → Word → Bool
has_block_named blocks name = list_any (λ b. is_text name b.header.name) blocks

-- one of these blocks is of a later test case than the one at this place
abbrev pub has_later : CampaignView → List Block → ℕ → Bool
has_later cases blocks p = list_any (λ b. option_map_or (nat_lt p) (place_in cases b.header.name) false) blocks

-- What is wrong with a block after these, if something is. The script has no test case of its name; or one of these blocks has its name,
-- or is of a later test case. Or it is no complete course of the scripts of its test case with its verdict.
abbrev pub IsJudged : CampaignView → List Block → Block → Option Wrong → Type 0
IsJudged cases before b wrong = MatchOption (place_in cases b.header.name) (wrong ≡ Some Wrong.Unknown) (λ p.
    MatchBool (has_block_named before b.header.name) (wrong ≡ Some Wrong.Twice)
    (MatchBool (has_later cases before p) (wrong ≡ Some Wrong.OutOfOrder)
    ((c : CaseView) × (is : Bool) × (slice_get cases p ≡ Some c) × (wrong ≡ (if is then None else Some Wrong.NoCourse))
    × ((is ≡ true) ↔ IsShown (scripts_of c.1) b.header.behaviours (entries_of b.lines) b.verdict))))

-- the words for what is wrong
abbrev pub wrong_text : Wrong → List ℕ
wrong_text Wrong.Unknown = codes "unknown "
wrong_text Wrong.Twice = codes "twice "
wrong_text Wrong.OutOfOrder = codes "out of order "
wrong_text Wrong.NoCourse = codes "no course "
wrong_text Wrong.Missing = codes "missing "

-- the line that says what is wrong, with the name of the test case
abbrev pub note : Word → Wrong → List ℕ
note name wrong = wrong_text wrong ++ (name ++ (10 ∷ []))

-- the names of test cases, in their order, that none of these blocks has
abbrev pub missing : List Block → CampaignView → List Word
missing blocks cases = filter (λ n. not (has_block_named blocks n)) (map (λ c. c.0) cases)

-- what is said of the blocks that come after those before, the newest first, and then of the test cases that have no block
abbrev pub IsCompared : CampaignView → List Block → List Block → List ℕ → Type 0
IsCompared cases before [] out = out ≡ flat_map (λ n. note n Wrong.Missing) (missing before cases)
IsCompared cases before (b ∷ blocks) out = (wrong : Option Wrong) × (rest : List ℕ) × IsJudged cases before b wrong
    × IsCompared cases (b ∷ before) blocks rest × (out ≡ option_map_or (note b.header.name) wrong [] ++ rest)

-- ---- a whole text

-- The text is a script, and histories and evidence after it. This is so of the chosen test cases of the script, of the blocks that
-- count, and of the lines that say what is wrong with these as courses of those.
pub record IsBeside (choice : Choice) (text : List ℕ) (Is : CampaignView → List Block → List ℕ → Type 0) : Type 0 where
  pub cases : CampaignView
  pub chosen : AreChosen choice (script_part text) cases
  pub notes : List ℕ
  pub holds : HoldsOfBlocks (blocks_part text) (λ all.
      let blocks = counting choice.last all in IsCompared cases [] blocks notes × Is cases blocks notes)

-- What `check` prints for the blocks is printed, and then what is wrong. The status is that of `check` if nothing is wrong, otherwise 3.
abbrev pub IsCheckedAgainst : Choice → List ℕ → List ℕ → ℕ → Type 0
IsCheckedAgainst choice text out status = IsBeside choice text (λ cases blocks notes.
    (lines : List ℕ) × (checked : ℕ) × Checks (λ b. true) blocks lines checked × (out ≡ lines ++ notes)
    × (status ≡ (if length notes == 0 then checked else 3)))

-- The script is refused, or a name that is asked for. If neither is, the text after it may be refused as one of histories
-- and evidence, its lines counted from its own first.
abbrev pub RefusesAgainst : Choice → List ℕ → RunFault → Type 0
RefusesAgainst choice text (RunFault.Text fault) =
    ((cases : CampaignView) × AreChosen choice (script_part text) cases) × RefusesHistory (blocks_part text) (RunFault.Text fault)
RefusesAgainst choice text fault = RefusesChoice choice (script_part text) fault

-- The test cases of the blocks are reported, and after them the chosen ones that are missing; what is wrong goes to standard error.
abbrev pub IsReportedAgainst : ReportForm → Choice → List ℕ → Answer → Type 0
IsReportedAgainst form choice text a = IsBeside choice text (λ cases blocks notes.
    IsReport form (blocks_part text) blocks blocks (missing (reverse blocks) cases) notes a)

-- ---- the test cases that the blocks show to have passed

-- a block has this name, and each block of this name shows its test case to have passed: it is legal, and its verdict is none
-- or pass
pub record HasPassed (blocks : List Block) (name : Word) : Type 0 where
  pub some : has_block_named blocks name ≡ true
  pub each : All (λ b. is_text name b.header.name ≡ true → IsLegalBlock b × (is_passing b.verdict ≡ true)) blocks

-- the text is a script, and histories and evidence after it; these are the chosen test cases of the script but those that
-- have passed by the blocks that count
pub record AreUnpassed (choice : Choice) (text : List ℕ) (cases : CampaignView) : Type 0 where
  pub all : CampaignView
  pub chosen : AreChosen choice (script_part text) all
  pub has_passed : Word → Bool
  pub passed : HoldsOfBlocks (blocks_part text) (λ all. (name : Word) → (has_passed name ≡ true) ↔ HasPassed (counting choice.last all) name)
  pub are : cases ≡ filter (λ c. not (has_passed c.0)) all

-- these are the test cases that a run is asked for: the chosen ones, without those that have passed if it is asked for
abbrev pub AreToRun : Choice → List ℕ → CampaignView → Type 0
AreToRun choice = elim choice.failed [ true ↦ AreUnpassed choice | false ↦ AreChosen choice ]

-- the text is refused, which then has histories and evidence after its script
abbrev pub RefusesRun : Choice → List ℕ → RunFault → Type 0
RefusesRun choice = elim choice.failed [ true ↦ RefusesAgainst choice | false ↦ RefusesChoice choice ]
