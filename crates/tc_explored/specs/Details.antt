-- What `--details` prints of a test case that was explored.
use Rattle.std.specs.{Prelude.{ℕ, ◌==◌, ◌+◌, ◌&&◌, if◌then◌else◌, Bool, true, false, Option, Some, List, [], ◌∷◌, ◌++◌, codes, length, reverse, slice_get, slice_index_or}, Fmt.decimal, List.{flat_map, range_with_len}, Option.option_map_or}
use Rattle.tc_step.specs.{declared.{place.{Place.Place, TargetPlace.TargetPlace}, step.Step.Step}, Prelude.ScriptView}
use Rattle.tc_course.specs.{declared.{found.Explored.Explored, witness.Witness.Witness}, Prelude.steps_of}
use Rattle.tc_rules.specs.Prelude.{name_of, Entry, components, local_if_any}
use Rattle.tc_text.specs.Prelude.{shown_line}
use Rattle.tc_report.specs.{Prelude.{cause_of, component_in, decided_text, names_in, namings_of, waits_text}, declared.{cause.Cause.Cause, naming.Names.Names, results.CaseEnd.CaseEnd}}
use Rattle.tc_explored.specs.{Line.if_complete, Race.races, Steps.step_text}

-- component c of a test case with these names, and its local verdict at the end of a history
abbrev pub local_words : Names → List Entry → ℕ → List ℕ
local_words names history c =
    (if c == 0 then codes ": " else codes ", ")
    ++ (component_in names c ++ option_map_or (λ v. 32 ∷ name_of v) (local_if_any (reverse history) c) [])

-- the verdict of a witness, and the local verdicts
unfoldable pub locals : Names → Witness → List ℕ
locals names w = shown_line (32 ∷ (name_of w.verdict ++ flat_map (local_words names w.history) (range_with_len 0 (components (reverse w.history)))))

-- the local verdicts of a witness of n behaviours with these names, what decided its verdict if it is worse than pass, and who
-- waits for whom at its end
unfoldable pub witness_text : List (List ℕ) → ℕ → Witness → List ℕ
witness_text names n w =
    let named = names_in w.history (namings_of names) in
    let decided = λ (c : Cause). shown_line ((32 ∷ (name_of w.verdict ++ codes ": ")) ++ decided_text named c) in
    locals named w ++ (option_map_or decided (cause_of (CaseEnd.Over w.verdict) [] w.history) [] ++ waits_text named n w.history)

-- the step waits for the component that it is on
abbrev pub waits_for_own : Option Step → Bool
waits_for_own (Some (Step.Wait killed (TargetPlace.One Place.Own))) = true
waits_for_own step = false

-- only the last step is not carried out, and it waits for its own component: the behaviour continues until it is killed
abbrev pub lasts_until_killed : ℕ → List Step → Bool
lasts_until_killed k steps = (length steps == k + 1) && waits_for_own (slice_get steps k)

-- which step of run b is not carried out, after k others, of n
unfoldable pub unseen_place : ℕ → ℕ → ℕ → List ℕ
unseen_place b k n = codes " not seen: run " ++ (decimal b ++ (codes " from step " ++ (decimal (k + 1) ++ (codes " of " ++ (decimal n ++ codes " on: ")))))

-- the first step of run b that is not carried out, where k of these are, unless it continues until it is killed
unfoldable pub unseen_among : ℕ → ℕ → List Step → List ℕ
unseen_among b k steps =
    if lasts_until_killed k steps then [] else option_map_or (λ s. shown_line (unseen_place b k (length steps) ++ step_text s)) (slice_get steps k) []

-- the same of all runs of these scripts, of which that many calls are reached
unfoldable pub unseen : List ScriptView → List ℕ → List ℕ
unseen scripts reached = flat_map (λ b. unseen_among b (slice_index_or reached b 0) (steps_of scripts b)) (range_with_len 0 (length scripts))

-- each witness, where they part, and, if the search came to its end, steps that are not carried out; of a test case without
-- behaviours nothing
unfoldable pub details : List (List ℕ) → List ScriptView → Explored → List ℕ
details names scripts e =
    if length scripts == 0
    then []
    else flat_map (witness_text names (length scripts)) e.found
    ++ (races names (length scripts) e.found ++ if_complete e.ending (unseen scripts e.reached) [])
