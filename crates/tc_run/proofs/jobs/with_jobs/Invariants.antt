use Rattle.std.{proofs.Common.{◌≡◌, ◌++◌, length}, specs.{Prelude.map, Vec.Iter.{into_iter_items, into_iter_len}}}
use Rattle.tc_answer.specs.Inside.{case_parts}
use Rattle.tc_run.proofs.jobs.with_jobs.Given as goal

-- the test cases so far, and those that are left, are the test cases
abbrev pub invariant-loop-case : goal.invariant-loop-case
invariant-loop-case g l =
    (goal.iterator-loop-case g).can_next l.case-iterator
    × (goal.iterator-loop-case g).is_finite l.case-iterator
    × (into_iter_len l.case-iterator ≡ length (into_iter_items l.case-iterator))
    × (map case_parts l.ready.items ++ map case_parts (into_iter_items l.case-iterator) ≡ map case_parts l.fn.cases.items)
