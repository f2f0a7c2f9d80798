-- The faults of names: kinds Twice, NoReference, UnknownBehaviour, MainParameters and Arguments.
use Rattle.std.specs.{Prelude.{◌==◌, ◌&&◌, ◌||◌, not, Bool, false, if◌then◌else◌, Option, Some, None, List, [], ◌∷◌, length}, List.list_any, Option.{option_map, option_map_or, option_or}}
use Rattle.tc_step.specs.{declared.place.Place.Place, Prelude.{of_group, of_target}}
use Rattle.tc_reader.specs.{FirstPass.at_next, Names.{Word, among, has_twice}, Scope.{Head, behaviours_before, bound, cases_before, heads_around, parameters_of}, declared.{fault.ScriptFault.ScriptFault, kind.ScriptKind.ScriptKind, line.{Call.Call, Line.Line}}}

-- a component whose name is not bound
abbrev pub is_unbound : List Word → Place Word → Bool
is_unbound ns (Place.Bound n) = not (among n ns)
is_unbound ns _ = false

-- the first fault of a line, where these names of test cases and of behaviours are used, and these are bound, in a test
-- case with the behaviours hs
abbrev pub name_fault : List Word → List Word → List Word → List Head → Line → Option ScriptKind
name_fault cs bs ns hs (Line.TestCase n) = if among n cs then Some ScriptKind.Twice else None
name_fault cs bs ns hs (Line.Behaviour n ps) =
    if among n bs || has_twice ps then Some ScriptKind.Twice
    else if length bs == 0 && not (length ps == 0) then Some ScriptKind.MainParameters
    else None
name_fault cs bs ns hs (Line.Step (Call.Create n alive given_name)) = if among n ns then Some ScriptKind.Twice else None
name_fault cs bs ns hs (Line.Step (Call.Start on b args)) =
    if list_any (is_unbound ns) (on ∷ args) then Some ScriptKind.NoReference
    else option_map_or (λ expected. if length args == expected then None else Some ScriptKind.Arguments) (parameters_of b hs) (Some ScriptKind.UnknownBehaviour)
name_fault cs bs ns hs (Line.Step (Call.Stop g)) = if list_any (is_unbound ns) (of_group g) then Some ScriptKind.NoReference else None
name_fault cs bs ns hs (Line.Step (Call.Kill g)) = if list_any (is_unbound ns) (of_group g) then Some ScriptKind.NoReference else None
name_fault cs bs ns hs (Line.Step (Call.Ask status t)) = if list_any (is_unbound ns) (of_target t) then Some ScriptKind.NoReference else None
name_fault cs bs ns hs (Line.Step (Call.Wait killed t)) = if list_any (is_unbound ns) (of_target t) then Some ScriptKind.NoReference else None
name_fault cs bs ns hs _ = None

-- the first line with a fault of names, past the lines before
abbrev pub misnamed : List Line → List Line → Option ScriptFault
misnamed past [] = None
misnamed past (l ∷ rest) = option_or (option_map (at_next past) (name_fault (cases_before past) (behaviours_before past) (bound past) (heads_around past (l ∷ rest)) l)) (misnamed (l ∷ past) rest)
