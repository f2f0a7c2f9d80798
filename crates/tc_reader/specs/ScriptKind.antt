-- The texts of faults.
use Rattle.std.specs.{Prelude.{ℕ, List, codes, ◌++◌}, Fmt.decimal}
use Rattle.tc_verdict.specs.Prelude.{early_text, memory_text}
use Rattle.tc_reader.specs.declared.{fault.{ReadFault.ReadFault, ScriptFault.ScriptFault}, kind.{LineFault.LineFault, ScriptKind.ScriptKind}}

-- the words that name a fault
abbrev pub script_kind_text : ScriptKind → List ℕ
script_kind_text ScriptKind.BadByte = codes "byte not allowed"
script_kind_text ScriptKind.BadLine = codes "line not understood"
script_kind_text ScriptKind.BadName = codes "bad name"
script_kind_text ScriptKind.BadPlace = codes "not allowed here"
script_kind_text ScriptKind.TooMany = codes "too many"
script_kind_text ScriptKind.Cut = early_text
script_kind_text ScriptKind.Twice = codes "name already used"
script_kind_text ScriptKind.NoReference = codes "unbound reference"
script_kind_text ScriptKind.UnknownBehaviour = codes "unknown behaviour"
script_kind_text ScriptKind.MainParameters = codes "main behaviour takes no parameters"
script_kind_text ScriptKind.Arguments = codes "wrong number of arguments"

-- why a line could not be read
abbrev pub line_fault_text : LineFault → List ℕ
line_fault_text (LineFault.Kind kind) = script_kind_text kind
line_fault_text LineFault.NoMemory = memory_text

-- the line and the words of its fault
abbrev pub script_fault_text : ScriptFault → List ℕ
script_fault_text fault = codes "line " ++ (decimal fault.line ++ (codes ": " ++ script_kind_text fault.kind))

-- why a script could not be read
abbrev pub read_fault_text : ReadFault → List ℕ
read_fault_text (ReadFault.Script fault) = script_fault_text fault
read_fault_text ReadFault.NoMemory = line_fault_text LineFault.NoMemory
