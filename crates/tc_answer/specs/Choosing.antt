-- The test cases of a script, and which test cases of a campaign are chosen.
use Rattle.std.specs.{Prelude.{ℕ, ◌≡◌, ◌+◌, ◌==◌, ◌||◌, Bool, true, List, [], ◌∷◌, Option, filter, if◌then◌else◌, length, Ok, Err, false, map}, List.{list_all, list_any}, Option.option_map_or}
use Rattle.tc_exec.specs.declared.test_case.Case.{Case}
use Rattle.tc_rules.specs.Prelude.{matches, ShardView, has_place}
use Rattle.tc_command.specs.declared.task.Choice.{Choice}
use Rattle.tc_reader.specs.Prelude.{CampaignView, Word, campaign}
use Rattle.tc_step.specs.Prelude.{ScriptView}
use Rattle.tc_answer.specs.declared.fault.RunFault.{RunFault}

-- one of the patterns that are asked for matches the name; if there is none, each name is asked for
abbrev pub is_asked : List (List ℕ) → List ℕ → Bool
is_asked only name = (length only == 0) || list_any (λ pattern. matches pattern name) only

-- those of the shard, if the first is at this place
abbrev pub placed_in_shard : {C : Type 0} → ShardView → ℕ → List C → List C
placed_in_shard s place [] = []
placed_in_shard s place (c ∷ cs) = if has_place s place then c ∷ placed_in_shard s (place + 1) cs else placed_in_shard s (place + 1) cs

module _ {C : Type 0} (name_of : C → List ℕ) where
  -- those whose names are asked for, in their order, and of these the ones of the shard; without a shard all of them
  abbrev pub chosen : List (List ℕ) → Option ShardView → List C → List C
  chosen only shard cs = let asked = filter (λ c. is_asked only (name_of c)) cs in option_map_or (λ s. placed_in_shard s 0 asked) shard asked

  -- each pattern that is asked for matches the name of a test case
  abbrev pub have_names : List (List ℕ) → List C → Bool
  have_names only cs = list_all (λ pattern. list_any (λ c. matches pattern (name_of c)) cs) only

-- the name of a test case
abbrev pub case_name : {B : Type 0} → Case B → List ℕ
case_name c = c.name

-- a test case of a script: its name, and its behaviours by name
abbrev pub CaseView : Type 0
CaseView = Word × List (Word × ScriptView)

-- their scripts, without the names
abbrev pub scripts_of : List (Word × ScriptView) → List ScriptView
scripts_of bs = map (λ b. b.1) bs

module _ {C : Type 0} (name_of : C → List ℕ) (Are : List C → Type 0) where
  -- these test cases are those that are chosen of the ones that there are, and each pattern matches the name of one
  pub record AreChosenOf (choice : Choice) (cases : List C) : Type 0 where
    pub all : List C
    pub spelled : Are all
    pub named : have_names name_of choice.only.items all ≡ true
    pub are : cases ≡ chosen name_of choice.only.items choice.shard all

  -- some pattern that is asked for matches the name of none that there is
  abbrev pub LackName : Choice → Type 0
  LackName choice = (all : List C) × Are all × (have_names name_of choice.only.items all ≡ false)

-- the same of the test cases that the text spells
abbrev pub AreChosen : Choice → List ℕ → CampaignView → Type 0
AreChosen choice text = AreChosenOf (λ (c : CaseView). c.0) (λ all. campaign text ≡ Ok all) choice

-- a text is refused as a script; if memory runs out, nothing is said about it
abbrev pub RefusesScript : List ℕ → RunFault → Type 0
RefusesScript text (RunFault.Script fault) = campaign text ≡ Err fault
RefusesScript text RunFault.NoMemory = Unit {0}
RefusesScript text fault = ⊥

-- the same, or it spells test cases, and some pattern that is asked for matches the name of none
abbrev pub RefusesChoice : Choice → List ℕ → RunFault → Type 0
RefusesChoice choice text RunFault.Only = LackName (λ (c : CaseView). c.0) (λ all. campaign text ≡ Ok all) choice
RefusesChoice choice text fault = RefusesScript text fault
