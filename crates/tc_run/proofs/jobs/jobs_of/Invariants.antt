use Rattle.std.{proofs.Common.{◌≡◌, ◌++◌, length}, specs.Vec.Iter.{into_iter_items, into_iter_len}}
use Rattle.tc_run.proofs.jobs.jobs_of.Given as goal

-- the jobs so far, and the scripts that are left, are the scripts
abbrev pub invariant-loop-script : goal.invariant-loop-script
invariant-loop-script g l =
    (goal.iterator-loop-script g).can_next l.script-iterator
    × (goal.iterator-loop-script g).is_finite l.script-iterator
    × (into_iter_len l.script-iterator ≡ length (into_iter_items l.script-iterator))
    × (l.jobs.items ++ into_iter_items l.script-iterator ≡ l.fn.scripts.items)
