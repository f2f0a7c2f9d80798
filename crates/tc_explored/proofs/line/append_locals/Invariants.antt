use Rattle.std.{proofs.Common.{◌≡◌, ◌++◌}, specs.List.{flat_map, range_with_len}}
use Rattle.tc_explored.specs.Line.{local_line}
use Rattle.tc_explored.proofs.line.append_locals.Given as goal

abbrev pub invariant-loop-comp : goal.invariant-loop-comp
invariant-loop-comp l = l.out.items ≡ l.fn.out.items ++ flat_map (local_line l.locals) (range_with_len 0 l.comp)
