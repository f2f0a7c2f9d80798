use Rattle.std.{proofs.Common.{◌≡◌, All, length}, specs.Vec.Iter.{into_iter_items, into_iter_len}}
use Rattle.tc_exec.specs.Inside.{AreDone}
use Rattle.tc_judge.specs.Inside.{HasFewJobs}
use Rattle.tc_program.specs.Inside.{IsExploredOf}
use Rattle.tc_program.proofs.explore.explore_cases.Given as goal

-- the test cases so far were explored, and those that are left have few jobs
abbrev pub invariant-loop-case : goal.invariant-loop-case
invariant-loop-case l =
    goal.iterator-loop-case.can_next l.case-iterator
    × goal.iterator-loop-case.is_finite l.case-iterator
    × (into_iter_len l.case-iterator ≡ length (into_iter_items l.case-iterator))
    × AreDone (IsExploredOf l.fn.options) l.fn.cases.items (into_iter_items l.case-iterator) l.explored.items
    × All HasFewJobs (into_iter_items l.case-iterator)
