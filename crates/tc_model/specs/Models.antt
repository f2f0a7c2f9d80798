-- The models of blocks: scripts of which they are complete courses; and what is said of a block that has none.
use Rattle.std.specs.Prelude.{ℕ, ◌≡◌, ◌<◌, ◌≤◌, ◌+◌, ◌⊎◌, if◌then◌else◌, Option, Some, is_some, Ok, List, [], ◌∷◌, ◌++◌, codes, filter, map, not, unwrap_or}
use Rattle.std.specs.{Fmt.decimal, List.AllZip, Option.{MatchOption, option_map_or}}
use Rattle.tc_blocks.specs.declared.block.Block.{Block}
use Rattle.tc_blocks.specs.Prelude.{entries_of}
use Rattle.tc_course.specs.Prelude.{IsShown}
use Rattle.tc_step.specs.Prelude.{ScriptView}
use Rattle.tc_rules.specs.Prelude.{IsBehaviours}
use Rattle.tc_reader.specs.{Prelude.{CampaignView, Word, campaign}, declared.counts.TheConstants.{TEST_CASES}}
use Rattle.tc_model.specs.{Reasons.{Has, IsFirstFault}, declared.{models.Attempt.Attempt, reason.Reason.Reason, reason.Refusal.Refusal}}

-- the block is a complete course of the scripts of this test case, with its verdict; it may have more behaviours, and leave out last
-- arguments of starts
abbrev pub IsModel : Block → Word × List (Word × ScriptView) → Type 0
IsModel b c = IsShown (map (λ s. s.1) c.1) b.header.behaviours (entries_of b.lines) b.verdict

-- the blocks that are not refused
abbrev pub written : List Attempt → List Block
written attempts = map (λ a. a.block) (filter (λ a. not (is_some a.refusal)) attempts)

-- the text is the script of one model of each block, in their order; of none it is empty
abbrev pub AreModels : List ℕ → List Block → Type 0
AreModels text blocks = ((blocks ≡ []) × (text ≡ [])) ⊎ ((cases : CampaignView) × (campaign text ≡ Ok cases) × AllZip IsModel blocks cases)

-- a refusal of the whole block
abbrev pub of_block : Block → Reason → Refusal
of_block b reason = record { line = b.first_line; reason = reason }

-- each line of the block is one that a script can bring
abbrev pub IsFollowed : Block → Type 0
IsFollowed b = (at : ℕ) (r : Reason) → Has b at r → ⊥

-- What comes of a block after that many that have a model. If there is room for its test case and its behaviours, it is refused for its
-- first fault; if it has none, at most because the script would be too long.
abbrev pub IsTried : ℕ → Block → Option Refusal → Type 0
IsTried models b o =
    ((TEST_CASES ≤ models) × (o ≡ Some (of_block b Reason.ManyCases)))
    ⊎ ((models < TEST_CASES) × (IsBehaviours b.header.behaviours → ⊥) × (o ≡ Some (of_block b Reason.ManyBehaviours)))
    ⊎ ((models < TEST_CASES) × IsBehaviours b.header.behaviours × MatchOption o (IsFollowed b) (λ r.
    IsFirstFault b r ⊎ ((r ≡ of_block b Reason.LongScript) × IsFollowed b)))

-- the same of blocks one after the other, the first after that many that have a model
abbrev pub AreTried : ℕ → List Attempt → Type 0
AreTried models [] = Unit {0}
AreTried models (a ∷ attempts) = IsTried models a.block a.refusal × AreTried (if is_some a.refusal then models else models + 1) attempts

-- Each block that has a fault is refused for its first one. All others have a model, except those for which a script has no room;
-- or none has, because what was written is not read as their models.
abbrev pub AreAttempts : List Attempt → Type 0
AreAttempts attempts = (tried : List Attempt) × AreTried 0 tried
    × ((attempts ≡ tried) ⊎ (attempts ≡ map {A = Attempt} (λ a. record a { refusal = Some (unwrap_or a.refusal (of_block a.block Reason.NotRead)) }) tried))

-- the words for a reason
abbrev pub reason_text : Reason → List ℕ
reason_text Reason.NotLegal = codes "not what the table gives"
reason_text Reason.NotOver = codes "a behaviour has not ended"
reason_text Reason.NotCalled = codes "a call that no script makes here"
reason_text Reason.ManySteps = codes "too many steps"
reason_text Reason.NotGiven = codes "a component that the run is not given"
reason_text Reason.ManyArguments = codes "too many arguments"
reason_text Reason.ManyBehaviours = codes "too many behaviours"
reason_text Reason.ManyCases = codes "too many test cases"
reason_text Reason.LongScript = codes "too long a script"
reason_text Reason.NotRead = codes "not read as its model"

-- the line for a block, if it has no model
abbrev pub attempt_note : Attempt → List ℕ
attempt_note a = option_map_or (λ r. codes "ttrun: line " ++ (decimal r.line ++ (codes ": no model of "
    ++ (a.block.header.name ++ (codes ": " ++ (reason_text r.reason ++ (10 ∷ []))))))) a.refusal []
