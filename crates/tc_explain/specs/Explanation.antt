-- What matters of what is printed about a refused text, besides its fault: what some of the lines hold, and what is open
-- before a line.
use Rattle.std.specs.{Prelude.{ℕ, suc, nat_le, true, false, if◌then◌else◌, Option, Some, None, List, [], ◌∷◌, codes, not, take, ◌+◌, ◌++◌, ◌||◌}, Fmt.decimal, List.{before_first, position}, Option.option_map_or}
use Rattle.tc_reader.specs.{declared.line.Keyword.Keyword, Prelude.{words, is_text, keyword, lines}}
use Rattle.tc_text.specs.Prelude.{is_plain, Line}
use Rattle.tc_explain.specs.declared.{quote.TheConstants.SHOWN, scan.Opened.Opened}

-- what is open after a line of a script, by its number and its keyword
abbrev pub after_keyword : ℕ → Option Keyword → Opened → Opened
after_keyword number (Some Keyword.TestCase) o = Opened.Begun number false
after_keyword number (Some Keyword.Behaviour) (Opened.Begun outer filled) = Opened.Inside outer number
after_keyword number (Some Keyword.End) (Opened.Inside outer inner) = Opened.Begun outer true
after_keyword number (Some Keyword.End) o = Opened.Nothing
after_keyword number keyword o = o

-- what is open after the line with this number and these words; a history and evidence end by the same word as a test case
abbrev pub after_line : ℕ → List (List ℕ) → Opened → Opened
after_line number [] o = o
after_line number (w ∷ ws) o = if is_text w (codes "history") || is_text w (codes "evidence") then Opened.Begun number false else after_keyword number (keyword w) o

-- what is open before the wanted line, and that line, if it is among these, of which the first has this number
abbrev pub find : ℕ → ℕ → Opened → List (List ℕ) → Opened × Option (List ℕ)
find wanted number o [] = (o, None)
find wanted number o (l ∷ ls) = if nat_le wanted number then (o, Some l) else find wanted (suc number) (after_line number (words l) o) ls

-- the begin of a line or a word in quotation: a backquote, and the bytes before the first odd one, which no line may have; of a
-- long one the first
abbrev pub quoted : List ℕ → List ℕ
quoted bytes = 96 ∷ before_first (λ b. not (is_plain b)) (take SHOWN bytes)

-- the line, and the column of its first odd byte, if it has one
abbrev pub line_note : List ℕ → List Line
line_note line = (quoted line ∷ []) ∷ option_map_or (λ at. (decimal (at + 1) ∷ []) ∷ []) (position (λ b. not (is_plain b)) line) []

-- the lines where what is open began, the innermost first
abbrev pub open_note : Opened → List Line
open_note Opened.Nothing = []
open_note (Opened.Begun outer filled) = (decimal outer ∷ []) ∷ []
open_note (Opened.Inside outer inner) = (decimal inner ∷ []) ∷ (decimal outer ∷ []) ∷ []

-- what is printed at least about a refused text, the first fault of which is in the line of this number
unfoldable pub explanation : List ℕ → ℕ → List Line
explanation text number =
    let f = find number 1 Opened.Nothing (lines text) in
    option_map_or line_note f.1 [] ++ open_note f.0
