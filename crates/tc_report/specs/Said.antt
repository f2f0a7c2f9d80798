-- What a block says next to its entries: the names of behaviours, remarks, and which of these are about an entry.
use Rattle.std.specs.{Prelude.{ℕ, ◌+◌, ◌==◌, ◌&&◌, nat_le, nat_lt, if◌then◌else◌, List, [], ◌∷◌, ◌++◌, length, reverse, take}, List.{find, flat_map}, Option.option_map_or}
use Rattle.tc_rules.specs.Prelude.{Entry, part}
use Rattle.tc_blocks.specs.declared.line.Line.{Line as BlockLine}
use Rattle.tc_report.specs.declared.{naming.Naming.Naming, said.{Remark.Remark, Said.Said}}

-- the name in a line, if it has one
abbrev pub named_in : BlockLine → List Naming
named_in (BlockLine.Named run name) = record { run = run.0; name = name } ∷ []
named_in _ = []

-- the remarks among lines that come after that many entries, each with how many entries are before it
abbrev pub remarks_from : ℕ → List BlockLine → List Remark
remarks_from at [] = []
remarks_from at (BlockLine.Entry e ∷ lines) = remarks_from (at + 1) lines
remarks_from at (BlockLine.Remark run sentence ∷ lines) = record { at = at; run = run; sentence = sentence } ∷ remarks_from at lines
remarks_from at (l ∷ lines) = remarks_from at lines

-- what the lines of a block say next to its entries
abbrev pub said_in : List BlockLine → Said
said_in lines = record { names = flat_map named_in lines; remarks = remarks_from 0 lines }

-- what the remark says, if its run makes no entry between it and this place: as many come before both
abbrev pub if_next_to : List Entry → ℕ → Remark → List (List ℕ)
if_next_to history place r =
    if length (part (take r.at history) r.run.0) == length (part (take place history) r.run.0) then r.sentence ∷ [] else []

-- what run b said right before and right after its entry at this place: its last remark up to there, and its first after it, if
-- no other entry of it is between
abbrev pub reasons : List Remark → List Entry → ℕ → ℕ → List (List ℕ)
reasons remarks history at b =
    option_map_or (if_next_to history at) (find (λ r. (r.run.0 == b) && nat_le r.at at) (reverse remarks)) []
    ++ option_map_or (if_next_to history (at + 1)) (find (λ r. (r.run.0 == b) && nat_lt at r.at) remarks) []
