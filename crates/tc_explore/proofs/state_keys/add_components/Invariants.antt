use Rattle.std.{proofs.Common.{◌≡◌, ◌++◌}, specs.List.{flat_map, range_with_len}}
use Rattle.tc_rules.specs.Prelude.{past_of}
use Rattle.tc_explore.specs.Inside.Twins.{comp_key}
use Rattle.tc_explore.proofs.state_keys.add_components.Given as goal

abbrev pub invariant-loop-comp : goal.invariant-loop-comp
invariant-loop-comp l = l.key.items ≡ l.fn.key.items ++ flat_map (comp_key l.locals (past_of l.course)) (range_with_len 0 l.comp)
