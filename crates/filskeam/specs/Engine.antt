-- What the engine answers.
use Rattle.std.specs.Prelude.{ℕ, ◌≡◌, ◌==◌, ◌⊎◌, ◌++◌, ◌∷◌, All, List, [], Some, codes, if◌then◌else◌}
use Rattle.std.specs.{Str.IsUtf8, declared.io.ErrorKind.ErrorKind as IoKind, declared.io.ErrorKind.TheVariants.OutOfMemory}
use Rattle.tc_program.specs.Prelude.{IsAnsweredAlone, IsUnreadInput, Outcome}

-- the words of what is left of a line, if the first has these bytes before it; each word ends with a zero byte
abbrev pub words_from : List ℕ → List ℕ → List (List ℕ)
words_from word [] = []
words_from word (byte ∷ line) = if byte == 0 then word ∷ words_from [] line else words_from (word ++ (byte ∷ [])) line

-- the words that a line gives the program: its name, and those of the line
abbrev pub line_words : List ℕ → List (List ℕ)
line_words line = codes "ttrun" ∷ words_from [] line

-- This output, these errors and this status are what the program answers to the line and the input. No run is begun. Or the words
-- are not available, since memory ran out or one is no text.
pub record Answers (line input output errors : List ℕ) (status : ℕ) : Type 0 where
  pub outcome : Outcome
  pub status_is : status ≡ outcome.status
  pub answered : IsAnsweredAlone (line_words line) (Some input)
      (record { before = Some []; after = Some output; untold = Some []; told = Some errors }) (Unit {0}) (output ≡ []) outcome
      ⊎ ((kind : IoKind) × IsUnreadInput kind (Some []) (Some errors) outcome × (output ≡ []) × ((kind ≡ OutOfMemory) ⊎ (All IsUtf8 (line_words line) → ⊥)))
