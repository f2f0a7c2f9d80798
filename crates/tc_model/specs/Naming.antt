-- What a run of a model can name, and what it must be given for that. As in the component table's definitions `past` lists
-- entries, the newest first, and components and runs are numbers.
use Rattle.std.specs.{Prelude.{ℕ, ◌==◌, ◌&&◌, ◌||◌, not, if◌then◌else◌, Bool, Some, is_some, List, [], ◌∷◌, filter, fold, map, take_while}, List.list_any, Option.option_map_or}
use Rattle.tc_rules.specs.Prelude.{Entry, add_new, components, is_comp, is_in, names, start}
use Rattle.tc_course.specs.Prelude.{stand}
use Rattle.tc_model.specs.declared.given.Starter.{Starter}

-- run b can name component c: it is the main one, its own, or bound in it
abbrev pub can_name : List Entry → ℕ → ℕ → Bool
can_name past b c = (c == 0) || is_comp (stand past b).comp c || is_in c (map (λ d. d.0) (stand past b).bound)

-- the entry starts run b: it was on no component, and is on one
abbrev pub starts : List Entry → Entry → ℕ → Bool
starts past e b = not (is_some (stand past b).comp) && is_some (stand (e ∷ past) b).comp

-- run b, the run that started it, and so on to a run that no run started; each with the number of components before its start
abbrev pub starters : List Entry → ℕ → List Starter
starters [] b = record { run = record { 0 = b }; there = 0 } ∷ []
starters (e ∷ past) b =
    if starts past e b then record { run = record { 0 = b }; there = components past } ∷ starters past e.caller.0 else starters past b

-- those of them, from run b on, that can name component c only if they are given it
abbrev pub lacking : List Entry → ℕ → ℕ → List Starter
lacking past b c = take_while (λ s. not (can_name past s.run.0 c)) (starters past b)

-- what run b is given: its arguments, and then each component that it lacks when it, or a run below it, names it
abbrev pub given_to : List Entry → ℕ → List ℕ
given_to [] b = []
given_to (e ∷ past) b =
    if starts past e b then map (λ c. c.0) (option_map_or (λ s. s.2) (start e.op) [])
    else fold (λ given c. add_new (Some c) given) (given_to past b)
    (filter (λ c. list_any (λ s. s.run.0 == b) (lacking past e.caller.0 c.0)) (names e.op))
