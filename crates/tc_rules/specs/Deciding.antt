-- Which entry decided the verdict of a test case, and who made it.
use Rattle.std.specs.{Prelude.{ℕ, nat_lt, if◌then◌else◌, Option, Some, None, List, [], ◌∷◌, length}, List.flat_map, Option.{option_and_then, option_or}}
use Rattle.tc_entry.specs.{Prelude.{Verdict, level_of, worst}, declared.entry.Entry.Entry}
use Rattle.tc_rules.specs.{History.created, History.creation, History.is_comp, Local.gives}

-- the worst of the verdicts that entries gave
unfoldable pub worst_given : List Entry → Verdict
worst_given past = worst (flat_map (λ e. gives e.op e.reply) past)

-- the place of the last entry that gave a verdict worse than all before it
abbrev pub deciding : List Entry → Option ℕ
deciding [] = None
deciding (e ∷ past) =
    if nat_lt (level_of (worst_given past)) (level_of (worst_given (e ∷ past))) then Some (length past) else deciding past

-- the name of component c, if its creation gave it one
abbrev pub component_name : List Entry → ℕ → Option (List ℕ)
component_name [] c = None
component_name (e ∷ past) c = option_or (component_name past c) (if is_comp (created e.op e.reply) c then option_and_then (λ m. m.1) (creation e.op) else None)
