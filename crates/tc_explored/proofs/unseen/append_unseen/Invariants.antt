use Rattle.std.{proofs.Common.{◌≡◌, ◌++◌}, specs.{Prelude.slice_index_or, List.{flat_map, range_with_len}}}
use Rattle.tc_course.specs.Prelude.{steps_of}
use Rattle.tc_explored.specs.Details.{unseen_among}
use Rattle.tc_explored.proofs.unseen.append_unseen.Given as goal

abbrev pub invariant-loop-run : goal.invariant-loop-run
invariant-loop-run l =
    l.out.items ≡ l.fn.out.items ++ flat_map (λ b. unseen_among b (slice_index_or l.reached b 0) (steps_of l.scripts b)) (range_with_len 0 l.run)
