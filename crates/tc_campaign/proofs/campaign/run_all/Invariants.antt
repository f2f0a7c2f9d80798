use Rattle.std.{proofs.Common.{◌≡◌, length}, specs.Vec.Iter.{into_iter_items, into_iter_len}}
use Rattle.tc_campaign.specs.Inside.{IsGoing}
use Rattle.tc_campaign.proofs.campaign.run_all.Given as goal

abbrev pub invariant-loop-case : goal.invariant-loop-case
invariant-loop-case g l =
    (goal.iterator-loop-case g).can_next l.case-iterator
    × (goal.iterator-loop-case g).is_finite l.case-iterator
    × (into_iter_len l.case-iterator ≡ length (into_iter_items l.case-iterator))
    × IsGoing g.B.Callable.outcome g.O.Observer.takes l.stop_on l.threads l.fn.cases.items (into_iter_items l.case-iterator) l.fn.observer l.observer
