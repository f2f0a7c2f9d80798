use Rattle.std.{proofs.Common.{List, ◌≡◌, ◌<◌, ◌≤◌, ◌+◌, ◌++◌, length, get_or}, specs.Vec.{Iter.{into_iter_items, into_iter_len}, vec_capacity, vec_len}}
use Rattle.tc_book.specs.Prelude.{LeftState}
use Rattle.tc_exec.specs.Inside.{GathersMore, jobs_of, runs_of}
use Rattle.tc_exec.proofs.worker.join_workers.Given as goal

abbrev pub invariant-loop-worker : goal.invariant-loop-worker
invariant-loop-worker g l =
    (vec_len l.gathered.lefts + into_iter_len l.rest ≤ vec_capacity l.gathered.lefts)
    × (vec_len l.gathered.lefts + into_iter_len l.rest ≡ vec_len l.fn.gathered.lefts + vec_len l.fn.workers)
    × ((done : List _) × (done ++ into_iter_items l.rest ≡ l.fn.workers.items) × GathersMore g.B.Callable.outcome (runs_of done) (jobs_of done) l.fn.gathered l.gathered)
    × ((d : LeftState) → 0 < length l.fn.gathered.lefts.items → (0 < length l.gathered.lefts.items) × (get_or l.gathered.lefts.items 0 d ≡ get_or l.fn.gathered.lefts.items 0 d))

abbrev pub decreases-loop-worker : goal.decreases-loop-worker
decreases-loop-worker g l = into_iter_len l.rest
