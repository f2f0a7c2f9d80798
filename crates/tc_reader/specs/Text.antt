-- The lines of a text and the words of a line.
use Rattle.std.specs.{Prelude.{ℕ, ◌==◌, ◌-◌, not, if◌then◌else◌, List, [], length, filter, take, slice_index}, List.slice_split}

-- the lines, each without its LF; after a last LF there is none
unfoldable pub lines : List ℕ → List (List ℕ)
lines text =
    if length text == 0 then []
    else slice_split (λ b. b == 10) (if slice_index text (length text - 1) == 10 then take (length text - 1) text else text)

-- the parts between spaces that are not empty
unfoldable pub words : List ℕ → List (List ℕ)
words line = filter (λ w. not (length w == 0)) (slice_split (λ b. b == 32) line)
