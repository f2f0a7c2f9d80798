-- The text of a test case's history; it is this project's own.
use Rattle.std.specs.{Prelude.{ℕ, List, [], ◌∷◌, ◌++◌, codes, ◌==◌, if◌then◌else◌}, Fmt.decimal, List.flat_map}
use Rattle.tc_rules.specs.Prelude.{Verdict, name_of, Entry}
use Rattle.tc_text.specs.Prelude.{move_text, reply_text}

-- an entry, without its LF
abbrev pub entry_text : Entry → List ℕ
entry_text e = move_text e.caller.0 e.op ++ (codes " -> " ++ reply_text e.reply)

-- the last line, without its LF
abbrev pub end_text : Verdict → List ℕ
end_text v = codes "end " ++ name_of v

-- a first line, a line for each entry, and a last line; the first one has the format, 1 or 2, the name of the case, and how
-- many behaviours it has
abbrev pub history_text : ℕ → List ℕ → ℕ → List Entry → Verdict → List ℕ
history_text f name n entries v = ((if f == 1 then codes "history 1 " else codes "history 2 ") ++ (name ++ (codes " " ++ decimal n)))
    ++ (10 ∷ (flat_map (λ e. entry_text e ++ (10 ∷ [])) entries ++ (end_text v ++ (10 ∷ []))))
