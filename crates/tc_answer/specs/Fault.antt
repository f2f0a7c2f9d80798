-- The faults of the program, and their lines on standard error.
use Rattle.std.specs.Prelude.{ℕ, List, [], ◌∷◌, ◌++◌, Option, None, Some, codes}
use Rattle.tc_stream.specs.{declared.input.InputFault.InputFault, Prelude.{input_text, write_text}}
use Rattle.tc_rules.specs.Prelude.{memory_text}
use Rattle.tc_text.specs.Prelude.{fault_text as text_fault_text}
use Rattle.tc_text.specs.declared.fault.TextFault.{TextFault}
use Rattle.tc_reader.specs.Prelude.{script_fault_text}
use Rattle.tc_command.specs.{Prelude.word_fault_text, declared.word.WordFault.WordFault}
use Rattle.tc_answer.specs.declared.fault.RunFault.{RunFault}

-- a text is refused by such a fault of it; if memory runs out, nothing is said about it
abbrev pub RefusesText : (TextFault → Type 0) → RunFault → Type 0
RefusesText Is (RunFault.Text fault) = Is fault
RefusesText Is RunFault.NoMemory = Unit {0}
RefusesText Is fault = ⊥

-- the text of a fault
abbrev pub run_fault_text : RunFault → List ℕ
run_fault_text RunFault.TooLong = input_text InputFault.TooLong
run_fault_text RunFault.Read = input_text InputFault.Read
run_fault_text RunFault.Write = write_text
run_fault_text RunFault.NoMemory = memory_text
run_fault_text (RunFault.Text fault) = text_fault_text fault
run_fault_text (RunFault.Script fault) = script_fault_text fault
run_fault_text RunFault.StopOn = word_fault_text WordFault.StopOn
run_fault_text RunFault.Only = word_fault_text WordFault.Only

-- a line on standard error
abbrev pub said : List ℕ → List ℕ
said words = codes "ttrun: " ++ (words ++ (10 ∷ []))

-- the line of a fault
abbrev pub run_fault_line : RunFault → List ℕ
run_fault_line fault = said (run_fault_text fault)

-- the number of the line that a fault is in, if it is in one
abbrev pub number_of : RunFault → Option ℕ
number_of (RunFault.Text (TextFault.At line kind)) = Some line
number_of (RunFault.Script fault) = Some fault.line
number_of fault = None
