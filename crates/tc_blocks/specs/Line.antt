-- The lines inside a block of evidence; their spelling is this project's own.
use Rattle.std.specs.{Prelude.{ℕ, ◌==◌, ◌||◌, Bool, if◌then◌else◌, false, true, List, [], ◌∷◌, ◌++◌, codes}, Fmt.decimal, List.{flat_map, list_any}, Option.option_map_or}
use Rattle.tc_rules.specs.Prelude.{Entry, start}
use Rattle.tc_blocks.specs.{HistoryBlock.entry_text, declared.line.Line.Line}

-- the name of the behaviour that a run has
abbrev pub naming_text : ℕ → List ℕ → List ℕ
naming_text run name = codes "behaviour " ++ (decimal run ++ (codes " " ++ name))

-- what a run said: a remark has `#` before its sentence, a refused line `!`
abbrev pub said_text : Bool → ℕ → List ℕ → List ℕ
said_text refused run sentence = decimal run ++ ((if refused then codes " ! " else codes " # ") ++ sentence)

-- a line, without its LF
abbrev pub line_text : Line → List ℕ
line_text (Line.Named run name) = naming_text run.0 name
line_text (Line.Entry e) = entry_text e
line_text (Line.Remark run sentence) = said_text false run.0 sentence
line_text (Line.Refused run sentence) = said_text true run.0 sentence

-- the line is one of run k, or an entry that starts it
abbrev pub is_about : ℕ → Line → Bool
is_about k (Line.Named run name) = run.0 == k
is_about k (Line.Entry e) = (e.caller.0 == k) || option_map_or (λ s. s.0.0 == k) (start e.op) false
is_about k (Line.Remark run sentence) = run.0 == k
is_about k (Line.Refused run sentence) = run.0 == k

-- some line is about run k
abbrev pub is_met : ℕ → List Line → Bool
is_met k lines = list_any (is_about k) lines

-- the entry that the line is, if it is one
abbrev pub entry_in : Line → List Entry
entry_in (Line.Entry e) = e ∷ []
entry_in _ = []

-- the entries among the lines, in their order
abbrev pub entries_of : List Line → List Entry
entries_of lines = flat_map entry_in lines
