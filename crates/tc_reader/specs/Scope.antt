-- The names at a line: what is used, and what is bound. `past` lists the lines before, the newest first; `rest` lists the line and those
-- after it.
use Rattle.std.specs.{Prelude.{ℕ, Option, is_some, if◌then◌else◌, List, [], ◌∷◌, ◌++◌, length}, Map.lookup}
use Rattle.tc_reader.specs.{Names.{Word, add, all_of}, Words.is_text, declared.line.{Call.Call, Line.Line}}

-- the names of the test cases before
abbrev pub cases_before : List Line → List Word
cases_before [] = []
cases_before (Line.TestCase n ∷ past) = cases_before past ++ n ∷ []
cases_before (_ ∷ past) = cases_before past

-- the names of the behaviours before, in the same test case
abbrev pub behaviours_before : List Line → List Word
behaviours_before [] = []
behaviours_before (Line.TestCase n ∷ past) = []
behaviours_before (Line.Behaviour n ps ∷ past) = behaviours_before past ++ n ∷ []
behaviours_before (_ ∷ past) = behaviours_before past

-- the names that are bound after a call
abbrev pub with_bound : Call → List Word → List Word
with_bound (Call.Create n alive given_name) ns = add n ns
with_bound _ ns = ns

-- the names that are bound in the behaviour that is open: its parameters, and then what the creates before bind, in the
-- order of the text. The name that a create gives its component binds nothing.
abbrev pub bound : List Line → List Word
bound [] = []
bound (Line.Behaviour n ps ∷ past) = all_of [] ps
bound (Line.Step call ∷ past) = with_bound call (bound past)
bound (_ ∷ past) = bound past

-- a behaviour: its name, and the number of its parameters
abbrev pub Head : Type 0
Head = Word × ℕ

-- how many parameters the behaviour of that name has
unfoldable pub parameters_of : Word → List Head → Option ℕ
parameters_of n hs = lookup (is_text n) hs

-- with the behaviours of these lines after them, up to the next test case, and of each name the first: after none, those of
-- the test case whose lines these begin with
abbrev pub heads_with : List Head → List Line → List Head
heads_with hs [] = hs
heads_with hs (Line.TestCase n ∷ rest) = hs
heads_with hs (Line.Behaviour n ps ∷ rest) = heads_with (if is_some (parameters_of n hs) then hs else hs ++ (n, length ps) ∷ []) rest
heads_with hs (_ ∷ rest) = heads_with hs rest

-- the behaviours of the test case that the lines before have begun
abbrev pub heads_around : List Line → List Line → List Head
heads_around [] rest = []
heads_around (Line.TestCase n ∷ past) rest = heads_with [] rest
heads_around (l ∷ past) rest = heads_around past (l ∷ rest)
