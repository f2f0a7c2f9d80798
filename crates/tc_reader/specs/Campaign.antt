-- The campaign that a text spells, or its first fault; and what holds of each of its test cases.
use Rattle.std.specs.{Prelude.{ℕ, Result, Ok, Err, List, [], ◌∷◌, length, map, ◌≡◌, false, ◌≤◌, Some, IfSome, slice_get, All}, Option.{option_map_or, option_map}}
use Rattle.tc_step.specs.{declared.{place.Place.Place, step.Step.Step}, Prelude.{place_map, group_map, target_map, ScriptView}}
use Rattle.tc_entry.specs.declared.limits.TheConstants.{BEHAVIOURS}
use Rattle.tc_reader.specs.{FirstPass.parsed, Line.◌>>=◌, Names.{Word, all_of, has_twice, index_of}, Scope.{Head, heads_with, with_bound}, SecondPass.misnamed, Text.lines, declared.{fault.{ReadFault.ReadFault, ScriptFault.ScriptFault}, line.{Call.Call, Line.Line}}}

-- ---- steps

-- the component that a line names, if these names are bound
abbrev pub place : List Word → Place Word → Place ℕ
place ns p = place_map (λ n. index_of n ns) p

-- a call where the names ns are bound, in a test case with the behaviours hs: the run of a behaviour is its place among them
unfoldable pub step_of : List Head → List Word → Call → Step
step_of hs ns (Call.Create n alive given_name) = Step.Create alive given_name
step_of hs ns (Call.Start on b args) = Step.Start (place ns on) (record { 0 = index_of b (map (λ h. h.0) hs) }) (map (place ns) args)
step_of hs ns (Call.Stop g) = Step.Stop (group_map (place ns) g)
step_of hs ns (Call.Kill g) = Step.Kill (group_map (place ns) g)
step_of hs ns (Call.Ask s t) = Step.Ask s (target_map (place ns) t)
step_of hs ns (Call.Wait killed t) = Step.Wait killed (target_map (place ns) t)
step_of hs ns (Call.SetVerdict v) = Step.SetVerdict v
step_of hs ns Call.StopCase = Step.StopCase
step_of hs ns Call.GetVerdict = Step.GetVerdict

-- the steps up to the end of the behaviour
abbrev pub steps : List Head → List Word → List Line → List Step
steps hs ns (Line.Step call ∷ rest) = step_of hs ns call ∷ steps hs (with_bound call ns) rest
steps hs ns (Line.Skipped ∷ rest) = steps hs ns rest
steps hs ns _ = []

-- ---- test cases

-- the behaviours up to the next test case, in the order of the text
abbrev pub behaviours : List Head → List Line → List (Word × ScriptView)
behaviours hs [] = []
behaviours hs (Line.TestCase n ∷ rest) = []
behaviours hs (Line.Behaviour n ps ∷ rest) = (n, record { parameters = length ps; steps = steps hs (all_of [] ps) rest }) ∷ behaviours hs rest
behaviours hs (_ ∷ rest) = behaviours hs rest

-- the test cases, in the order of the text
abbrev pub cases : List Line → List (Word × List (Word × ScriptView))
cases [] = []
cases (Line.TestCase n ∷ rest) = (n, behaviours (heads_with [] rest) rest) ∷ cases rest
cases (_ ∷ rest) = cases rest

-- ---- a whole text

-- a campaign: its test cases by name, each with its behaviours by name
abbrev pub CampaignView : Type 0
CampaignView = List (Word × List (Word × ScriptView))

-- the lines are judged by the kinds from BadByte to Cut; only if there is no such fault, by the others
unfoldable pub campaign : List ℕ → Result CampaignView ScriptFault
campaign text = parsed [] (lines text) >>= λ ls. option_map_or (λ fault. Err fault) (misnamed [] ls) (Ok (cases ls))

-- what a function returned is what the text gives, unless memory ran out
abbrev pub Reads : {A B : Type 0} → (A → B) → Result A ReadFault → Result B ScriptFault → Type 0
Reads view (Ok x) said = said ≡ Ok (view x)
Reads view (Err ReadFault.NoMemory) said = Unit {0}
Reads view (Err (ReadFault.Script fault)) said = said ≡ Err fault

-- a start is of a run of the test case, with as many arguments as its behaviour has parameters
abbrev pub StartsOne : List Head → Step → Type 0
StartsOne hs (Step.Start on run args) = option_map (λ h. h.1) (slice_get hs run.0) ≡ Some (length args)
StartsOne hs _ = Unit {0}

-- its behaviours are few, their names are distinct, the first has no parameter, and each start is of one of them
pub record IsCase (scripts : List (Word × ScriptView)) : Type 0 where
  pub few : length scripts ≤ BEHAVIOURS
  pub distinct : has_twice (map (λ b. b.0) scripts) ≡ false
  pub main : IfSome (slice_get scripts 0) (λ b. b.1.parameters ≡ 0)
  pub starts : All (λ b. All (StartsOne (map (λ s. (s.0, s.1.parameters)) scripts)) b.1.steps) scripts
