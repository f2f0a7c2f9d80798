use Rattle.std.proofs.{Common.{◌≡◌, ◌∷◌, [], arith}, lemmas.Grind.common_steps}
use Rattle.tc_rules.{specs.Inside.Counts.main_state, proofs.Counting.counted_main}
use Rattle.tc_rules.proofs.component_states.ComponentStates.new.Goals as goal

pub invariant_of-result : goal.invariant_of-result
invariant_of-result c = let made : c.in_ok-from_slice.field-0.items ≡ main_state ∷ [] = grind (arith, common_steps) in rw made counted_main
