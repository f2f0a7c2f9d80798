-- Which runs wait as no run can continue, and for whom. Only the calls of a history count, and its replies do not: the table
-- replies to each again.
use Rattle.std.specs.{Prelude.{ℕ, ◌&&◌, nat_le, if◌then◌else◌, Bool, true, false, Option, Some, None, List, [], ◌∷◌, ◌++◌, codes, drop, reverse}, List.{flat_map, list_any, range_with_len}, Option.option_map_or}
use Rattle.tc_entry.specs.declared.limits.TheConstants.{BEHAVIOURS}
use Rattle.tc_rules.specs.{Prelude.{Comp, Entry, Phase, Reply, Target, comp_of, entry_made, is_active, phase_if_any, waiting, Fault}, declared.awaited.Awaited.Awaited}
use Rattle.tc_report.specs.{InWords.{component_in, run_in, target_in}, declared.naming.Names.Names}

-- the reply says that no run can continue
abbrev pub says_stuck : Reply → Bool
says_stuck (Reply.Fault Fault.Stuck) = true
says_stuck _ = false

-- these calls, with the replies of the table of n behaviours, up to the first reply that no run can continue
abbrev pub played : ℕ → List Entry → List Entry
played n [] = []
played n (e ∷ past) =
    if list_any (λ m. says_stuck m.reply) (played n past) then played n past else entry_made n (played n past) e.caller e.op ∷ played n past

-- what a component is doing that is waited for
abbrev pub phase_words : Names → Phase → List ℕ
phase_words names Phase.Inactive = codes ", not started"
phase_words names Phase.Stopped = codes ", stopped"
phase_words names Phase.Killed = codes ", killed"
phase_words names (Phase.Running run) = codes ", where run " ++ (run_in names run.0 ++ codes " is")

-- what a component is doing after these entries, if one is waited for
abbrev pub awaited_phase : List Entry → Target → Option Phase
awaited_phase past (Target.One c) = phase_if_any past c.0
awaited_phase past target = None

-- the line of run b on a component after these entries, if it waits: for whom, and what that component is doing
abbrev pub wait_line : Names → List Entry → ℕ → Option Comp → Option Awaited → List ℕ
wait_line names past b (Some c) (Some a) =
    (codes "  stuck: run " ++ (run_in names b ++ (codes " on " ++ component_in names c.0)))
    ++ ((if a.killed then codes " waits for killed of " else codes " waits for done of ")
    ++ (target_in names a.target ++ (option_map_or (phase_words names) (awaited_phase past a.target) [] ++ codes "\n")))
wait_line names past b _ _ = []

-- the lines of the first n runs after these entries: of those that are active
abbrev pub waits_after : Names → ℕ → List Entry → List ℕ
waits_after names n past =
    flat_map (λ b. if is_active past b then wait_line names past b (comp_of past b) (waiting past b) else []) (range_with_len 0 n)

-- the lines of a history of 1 to 256 behaviours; none unless the table replies that no run can continue
unfoldable pub waits_text : Names → ℕ → List Entry → List ℕ
waits_text names n history =
    let past = played n (reverse history) in
    if nat_le 1 n && nat_le n BEHAVIOURS && list_any (λ m. says_stuck m.reply) past then waits_after names n (drop 1 past) else []
