-- Words that more than one crate says.
use Rattle.std.specs.Prelude.{ℕ, List, codes}

-- memory ran out
abbrev pub memory_text : List ℕ
memory_text = codes "no memory"

-- a text ends where more of it is wanted
abbrev pub early_text : List ℕ
early_text = codes "text ends too early"
