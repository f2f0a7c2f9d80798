-- What is open at a line, and which lines are out of place. `past` lists the lines before, the newest first.
use Rattle.std.specs.{Prelude.{ℕ, ◌+◌, ◌||◌, ◌&&◌, not, nat_le, nat_lt, Bool, false, if◌then◌else◌, Option, Some, None, is_some, Result, Ok, Err, List, [], ◌∷◌, length, reverse}, Option.unwrap_or, Result.result_map_both}
use Rattle.tc_entry.specs.declared.limits.TheConstants.{ARGUMENTS, BEHAVIOURS}
use Rattle.tc_step.specs.declared.limits.TheConstants.{STEPS}
use Rattle.tc_reader.specs.{Line.{line_of, ◌>>=◌}, Scope.{behaviours_before, cases_before}, declared.{fault.ScriptFault.ScriptFault, kind.ScriptKind.ScriptKind, line.{Call.Call, Line.Line}, counts.Open.Open}}

-- what is open after a line, by what is open before it, if the line may be there
abbrev pub open_after : Line → Open → Option Open
open_after Line.Skipped o = Some o
open_after (Line.TestCase n) Open.Nothing = Some Open.NewCase
open_after (Line.Behaviour n ps) Open.NewCase = Some Open.Behaviour
open_after (Line.Behaviour n ps) Open.Case = Some Open.Behaviour
open_after Line.End Open.Case = Some Open.Nothing
open_after Line.End Open.Behaviour = Some Open.Case
open_after (Line.Step call) Open.Behaviour = Some Open.Behaviour
open_after _ _ = None

-- what is open after these lines, each of which may be where it is
unfoldable pub opened : List Line → Open
opened [] = Open.Nothing
opened (l ∷ past) = unwrap_or (open_after l (opened past)) Open.Nothing

-- the steps so far of the behaviour that is open
unfoldable pub steps_in : List Line → ℕ
steps_in [] = 0
steps_in (Line.Behaviour n ps ∷ past) = 0
steps_in (Line.Step call ∷ past) = steps_in past + 1
steps_in (_ ∷ past) = steps_in past

-- how many arguments a call gives
abbrev pub argument_count : Call → ℕ
argument_count (Call.Start on b args) = length args
argument_count _ = 0

-- the line passes a limit
abbrev pub passes_limit : Line → List Line → Bool
passes_limit (Line.TestCase n) past = nat_le 1000 (length (cases_before past))
passes_limit (Line.Behaviour n ps) past = nat_le BEHAVIOURS (length (behaviours_before past)) || nat_lt ARGUMENTS (length ps)
passes_limit (Line.Step call) past = nat_le STEPS (steps_in past) || nat_lt ARGUMENTS (argument_count call)
passes_limit _ past = false

-- the line, if it may be there and passes no limit
abbrev pub placed : List Line → Line → Result Line ScriptKind
placed past l =
    if not (is_some (open_after l (opened past))) then Err ScriptKind.BadPlace
    else if passes_limit l past then Err ScriptKind.TooMany
    else Ok l

-- a fault of the line after these
abbrev pub at_next : List Line → ScriptKind → ScriptFault
at_next past kind = record { line = length past + 1; kind = kind }

-- The lines of a text, the first ones read already: all of them, or the first fault, BadByte to Cut. A line has its first
-- fault, BadByte to TooMany, with its number. The text may end where a test case may begin, if there is one before.
abbrev pub parsed : List Line → List (List ℕ) → Result (List Line) ScriptFault
parsed past [] =
    if is_some (open_after (Line.TestCase []) (opened past)) && nat_lt 0 (length (cases_before past)) then Ok (reverse past)
    else Err (at_next past ScriptKind.Cut)
parsed past (bytes ∷ more) = result_map_both (λ l. l) (at_next past) (line_of bytes >>= placed past) >>= λ l. parsed (l ∷ past) more
