-- How reports for people name components, runs and calls: by their numbers, and next to these by their names.
use Rattle.std.specs.{Prelude.{ℕ, ◌==◌, if◌then◌else◌, Option, List, [], ◌∷◌, ◌++◌, codes, length, map, slice_get}, Fmt.decimal, List.{enumerate_from, find, flat_map}, Option.{option_and_then, option_map, option_map_or}}
use Rattle.tc_rules.specs.Prelude.{Entry, Group, Op, Reply, Target, is_parked}
use Rattle.tc_text.specs.Prelude.{op_text, reply_text}
use Rattle.tc_report.specs.{Report.shown_op, declared.naming.{Names.Names, Naming.Naming}}

-- the name of the behaviour of run b, if it has one
abbrev pub behaviour_of : List Naming → ℕ → Option (List ℕ)
behaviour_of runs b = option_map (λ n. n.name) (find (λ n. n.run == b) runs)

-- these names of behaviours, that of run 0 first
abbrev pub namings_of : List (List ℕ) → List Naming
namings_of names = map (λ p. record { run = p.0; name = p.1 }) (enumerate_from 0 names)

-- a number, and a name if there is one
unfoldable pub numbered : ℕ → Option (List ℕ) → List ℕ
numbered k name = decimal k ++ option_map_or (λ n. 32 ∷ n) name []

-- a component: its number and its name, if it has one; the main one as mtc
abbrev pub component_text : ℕ → Option (List ℕ) → List ℕ
component_text c name = if c == 0 then codes "mtc" else numbered c name

-- component c
abbrev pub component_in : Names → ℕ → List ℕ
component_in names c = component_text c (option_and_then (λ n. n) (slice_get names.comps c))

-- run b
abbrev pub run_in : Names → ℕ → List ℕ
run_in names b = numbered b (behaviour_of names.runs b)

-- a component, or any or all of them
abbrev pub target_in : Names → Target → List ℕ
target_in names (Target.One c) = component_in names c.0
target_in names Target.Any = codes "any"
target_in names Target.All = codes "all"

-- a call that is shown
unfoldable pub named_op : Names → Op → List ℕ
named_op names (Op.Start c run args) = codes "start " ++ (component_in names c.0 ++ (codes " run " ++ (run_in names run.0
    ++ (if length args == 0 then [] else codes " with" ++ flat_map (λ a. codes " " ++ component_in names a.0) args))))
named_op names (Op.Stop (Group.One c)) = codes "stop " ++ component_in names c.0
named_op names (Op.Kill (Group.One c)) = codes "kill " ++ component_in names c.0
named_op names (Op.Running t) = codes "running " ++ target_in names t
named_op names (Op.Alive t) = codes "alive " ++ target_in names t
named_op names (Op.Done t) = codes "done " ++ target_in names t
named_op names (Op.Killed t) = codes "killed " ++ target_in names t
named_op names (Op.Wait killed t) = (if killed then codes "wait killed " else codes "wait done ") ++ target_in names t
named_op names op = op_text op

-- a call, and its reply
unfoldable pub named_call : Names → Op → Reply → List ℕ
named_call names op reply = named_op names (shown_op op) ++ (codes " -> " ++ reply_text reply)

-- the line of an entry after this front: none if it was parked
abbrev pub named_entry : List ℕ → Names → Entry → List ℕ
named_entry front names e = if is_parked e.reply then [] else front ++ (named_call names e.op e.reply ++ (10 ∷ []))
