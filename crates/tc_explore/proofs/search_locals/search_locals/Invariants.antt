use Rattle.std.proofs.Common.{◌≡◌, ◌-◌, []}
use Rattle.tc_explore.specs.Inside.Locals.{AreLocalsClosed, IsLocalSearch, IsTwinSeen}
use Rattle.tc_explore.proofs.search_locals.search_locals.Given as goal

abbrev pub invariant-loop-at : goal.invariant-loop-at
invariant-loop-at l = record {
  search : IsLocalSearch l.search;
  scripts : l.search.met.scripts.now ≡ l.scripts;
  limit : l.search.met.limit ≡ l.most.states;
  seen : IsTwinSeen l.search.met [];
  closed : AreLocalsClosed l.search l.at;
}

abbrev pub decreases-loop-at : goal.decreases-loop-at
decreases-loop-at l = l.search.met.limit - l.at
