-- Names, and the place of one in a list of them.
use Rattle.std.specs.{Prelude.{ℕ, Bool, ◌||◌, false, if◌then◌else◌, List, [], ◌∷◌, ◌++◌}, List.{list_any, position_or_len}}
use Rattle.tc_reader.specs.Words.{is_text}

-- a name, by its bytes
abbrev pub Word : Type 0
Word = List ℕ

-- the name is one of these
unfoldable pub among : Word → List Word → Bool
among n ns = list_any (is_text n) ns

-- the place of the name; the length if it is none of them
unfoldable pub index_of : Word → List Word → ℕ
index_of n ns = position_or_len (is_text n) ns

-- with the name after the others, if it is none of them
abbrev pub add : Word → List Word → List Word
add n ns = if among n ns then ns else ns ++ n ∷ []

-- each of them once, after those that are there
abbrev pub all_of : List Word → List Word → List Word
all_of ns [] = ns
all_of ns (m ∷ ms) = all_of (add m ns) ms

-- one of them is there twice
abbrev pub has_twice : List Word → Bool
has_twice [] = false
has_twice (n ∷ ns) = among n ns || has_twice ns
