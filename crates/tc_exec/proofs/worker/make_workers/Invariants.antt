use Rattle.std.{proofs.Common.{◌≡◌, ◌≤◌, ◌+◌, ◌++◌, length, map}, specs.Vec.{Iter.{into_iter_items, into_iter_len}, vec_capacity, vec_len}}
use Rattle.tc_exec.specs.Gates.{IsPassed}
use Rattle.tc_exec.proofs.worker.make_workers.Given as goal

abbrev pub invariant-loop-behaviour : goal.invariant-loop-behaviour
invariant-loop-behaviour g l =
    (vec_len l.workers + into_iter_len l.behaviour-iterator ≡ vec_len l.fn.behaviours)
    × (vec_len l.workers + into_iter_len l.tickets ≡ vec_len l.fn.tickets)
    × (vec_len l.fn.tickets ≤ vec_capacity l.workers)
    × (map (λ w. w.handle.promise.run) l.workers.items ++ into_iter_items l.tickets ≡ l.fn.tickets.items)
    × (map (λ w. w.handle.promise.behaviour.value) l.workers.items ++ into_iter_items l.behaviour-iterator ≡ l.fn.behaviours.items)
    × IsPassed g.G.Gate.asks (length l.workers.items) l.fn.gate l.gate
