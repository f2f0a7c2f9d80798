-- What is printed about a test case that was explored.
use Rattle.std.specs.{Prelude.{ℕ, ◌==◌, if◌then◌else◌, nat_lt, Bool, List, [], ◌∷◌, ◌++◌, codes, filter, length, ◌+◌, ◌/◌, None, drop, slice_index_or}, Fmt.decimal, List.{flat_map, range_with_len}}
use Rattle.tc_rules.specs.Prelude.{Verdict, name_of}
use Rattle.tc_blocks.specs.declared.header.Header.{Header}
use Rattle.tc_report.specs.Prelude.{component_text, named_block}
use Rattle.tc_course.specs.{Prelude.{is_found, is_local}, declared.found.{Ending.Ending, Explored.Explored, Limit.Limit, Locals.Locals}}
use Rattle.tc_text.specs.Prelude.{shown_line}

-- the verdicts of which this holds, from the best to the worst
unfoldable pub verdicts_where : (Verdict → Bool) → List Verdict
verdicts_where holds = filter holds (Verdict.None ∷ Verdict.Pass ∷ Verdict.Inconc ∷ Verdict.Fail ∷ Verdict.Error ∷ [])

-- the first if the search came to its end, and the other if it met its limit
abbrev pub if_complete : {A : Type 0} → Ending → A → A → A
if_complete Ending.Complete first other = first
if_complete (Ending.Undecided limit) first other = other

-- the status of a test case: 0 for one verdict that was found, or 2 if it is error; 1 for more; 3 for none, and if the search met
-- its limit
abbrev pub explored_status : Explored → ℕ
explored_status e =
    let count = length (verdicts_where (is_found e.found)) in
    if_complete e.ending (if count == 1 then (if is_found e.found Verdict.Error then 2 else 0) else if nat_lt 1 count then 1 else 3) 3

-- how the search ended, and, if something may be missed, after how many states and at which limit
abbrev pub ending_words : Ending → ℕ → List ℕ
ending_words Ending.Complete states = codes " complete"
ending_words (Ending.Undecided Limit.States) states = codes " undecided after " ++ (decimal states ++ codes " states: limit of states")
ending_words (Ending.Undecided Limit.Memory) states = codes " undecided after " ++ (decimal states ++ codes " states: limit of memory")

-- the line of a test case of this name: the verdicts that were found, and how the search ended
abbrev pub explored_line : List ℕ → Explored → List ℕ
explored_line name e =
    name ++ (flat_map (λ v. codes " " ++ name_of v) (verdicts_where (is_found e.found)) ++ (ending_words e.ending e.states ++ (10 ∷ [])))

-- a block with this first line for each witness, with these names of behaviours
abbrev pub witnesses_text : Header → List (List ℕ) → Explored → List ℕ
witnesses_text h names e = flat_map (λ w. named_block h names w.history w.verdict) e.found

-- a component, and the verdicts that it is found with, from the best to the worst, with `or` between them, if these are more than one
unfoldable pub local_line : Locals → ℕ → List ℕ
local_line l c =
    let verdicts = verdicts_where (is_local l.found c) in
    if nat_lt 1 (length verdicts)
    then shown_line (codes " local " ++ (component_text c (slice_index_or l.names c None) ++ (codes ":" ++ drop 3 (flat_map (λ v. codes " or " ++ name_of v) verdicts))))
    else []

-- all that is printed; of a search that met its limit how many states it looked at
unfoldable pub locals_text : Locals → List ℕ
locals_text l =
    flat_map (local_line l) (range_with_len 0 (length l.found / 5 + 1))
    ++ if_complete l.ending [] (shown_line (codes " local verdicts undecided after " ++ (decimal l.states ++ codes " states")))
