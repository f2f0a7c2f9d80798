-- Bytes that are shown to a reader, and lines for a reader next to an answer, by what matters of each: its numbers and
-- its names. No clause spells the prose around them.
use Rattle.std.specs.{Prelude.{ℕ, ◌&&◌, nat_le, Bool, ◌≡◌, ◌⊎◌, not, true, false, slice_get, List, [], ◌∷◌, ◌++◌, map, if◌then◌else◌}, Fmt.decimal, List.flat_map, Option.option_map_or}
use Rattle.tc_entry.specs.Prelude.{is_name_byte}
use Rattle.tc_text.specs.declared.said.Part.{Part}

-- a byte from 32 to 126
abbrev pub is_plain : ℕ → Bool
is_plain b = nat_le 32 b && nat_le b 126

-- what a line holds: its words
abbrev pub Line : Type 0
Line = List (List ℕ)

-- a word ends before this text: no letter, digit or `_` comes first
abbrev pub ends_word : List ℕ → Bool
ends_word text = not (option_map_or is_name_byte (slice_get text 0) false)

-- the text has these words in this order, each after a space
abbrev pub Holds : Line → List ℕ → Type 0
Holds [] text = Unit {0}
Holds (word ∷ words) text =
    (front : List ℕ) × (rest : List ℕ) × (text ≡ front ++ (32 ∷ (word ++ rest))) × (ends_word rest ≡ true) × Holds words rest

-- a line of this text: it begins with a space, and has a question mark for each byte that is not printable
abbrev pub shown_line : List ℕ → List ℕ
shown_line text = 32 ∷ (map (λ b. if is_plain b then b else 63) text ++ 10 ∷ [])

-- one line is appended, which begins with a space and holds these words
unfoldable pub TellsLine : Line → List ℕ → List ℕ → Type 0
TellsLine words before after = (text : List ℕ) × (after ≡ before ++ shown_line text) × Holds words text

-- among these texts some hold these words, in their order
abbrev pub AreAmong : List Line → List (List ℕ) → Type 0
AreAmong [] texts = Unit {0}
AreAmong (line ∷ lines) [] = ⊥
AreAmong (line ∷ lines) (text ∷ texts) = (Holds line text × AreAmong lines texts) ⊎ AreAmong (line ∷ lines) texts

-- lines are appended, and among them are some that hold these words
unfoldable pub TellsAmong : List Line → List ℕ → List ℕ → Type 0
TellsAmong lines before after = (texts : List (List ℕ)) × (after ≡ before ++ flat_map shown_line texts) × AreAmong lines texts

-- what a part of a line holds
abbrev pub part_words : Part → Line
part_words (Part.Text t) = []
part_words (Part.Number n) = decimal n ∷ []
part_words (Part.Word w) = w.now ∷ []
