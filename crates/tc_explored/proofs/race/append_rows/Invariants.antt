use Rattle.std.{proofs.Common.{◌≡◌, ◌++◌}, specs.List.{flat_map, range_with_len}}
use Rattle.tc_explored.specs.Race.{row, text_at}
use Rattle.tc_explored.proofs.race.append_rows.Given as goal

abbrev pub invariant-loop-at : goal.invariant-loop-at
invariant-loop-at l = l.out.items ≡ l.fn.out.items ++ flat_map (λ at. row (text_at l.left at) (text_at l.right at)) (range_with_len 0 l.at)
