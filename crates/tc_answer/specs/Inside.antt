-- What the functions inside of this crate say, and those of the tasks above it, which no clause of the program names.
use Rattle.std.specs.{Prelude.{ℕ, ◌≡◌, All, false, List, ◌++◌, map, codes, filter}, Fmt.decimal, List.AllZip}
use Rattle.tc_reader.specs.Prelude.{Word, has_twice, CampaignView, IsCase}
use Rattle.tc_stream.specs.declared.input.InputFault.{InputFault}
use Rattle.tc_text.specs.declared.fault.TextFault.{TextFault}
use Rattle.tc_step.specs.Prelude.{ScriptView}
use Rattle.tc_exec.specs.declared.test_case.Case.{Case}
use Rattle.tc_answer.specs.{Choosing.{CaseView, is_asked, scripts_of}, declared.fault.RunFault.RunFault}

-- the name of a test case of a script
abbrev pub script_name : CaseView → Word
script_name c = c.0

-- the number of a line
unfoldable pub place_text : ℕ → List ℕ
place_text line = codes "line " ++ (decimal line ++ codes ": ")

-- the fault for an input that could not be read whole
abbrev pub of_input : InputFault → RunFault
of_input InputFault.TooLong = RunFault.TooLong
of_input InputFault.Read = RunFault.Read
of_input InputFault.NoMemory = RunFault.NoMemory

-- the fault for a text that was refused
abbrev pub of_text : TextFault → RunFault
of_text (TextFault.At line kind) = RunFault.Text (TextFault.At line kind)
of_text TextFault.NoMemory = RunFault.NoMemory

-- a test case is ready to be run: it has the names of this one, and its jobs are the scripts
pub record IsCaseOf (c : CaseView) (ready : Case ScriptView) : Type 0 where
  pub name : ready.name ≡ c.0
  pub names : ready.names.items ≡ map (λ b. b.0) c.1
  pub jobs : ready.jobs.items ≡ scripts_of c.1

-- these are test cases of which this holds, ready to be run
pub record AreReadyAs (Are : CampaignView → Type 0) (ready : List (Case ScriptView)) : Type 0 where
  pub cases : CampaignView
  pub chosen : Are cases
  pub distinct : has_twice (map (λ c. c.0) cases) ≡ false
  pub lawful : All (λ c. IsCase c.1) cases
  pub each : AllZip IsCaseOf cases ready

-- the name of a test case, the names of its behaviours, and its scripts
abbrev pub case_parts : Case ScriptView → List ℕ × (List (List ℕ) × List ScriptView)
case_parts k = (k.name, (k.names.items, k.jobs.items))

-- those whose names are asked for, in their order
abbrev pub named : {C : Type 0} → (C → List ℕ) → List (List ℕ) → List C → List C
named name_of only cs = filter (λ c. is_asked only (name_of c)) cs
