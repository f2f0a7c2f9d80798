use Rattle.std.proofs.Common.{◌≡◌, All, length}
use Rattle.tc_model.proofs.Starting.{IsNoStart, IsNothing}
use Rattle.tc_model.proofs.given.Ways.opening.Given as goal

abbrev pub invariant-loop : goal.invariant-loop
invariant-loop l = record {
  as_many_starts : length l.starts.items ≡ l.counter;
  as_many_given : length l.given.items ≡ l.counter;
  starts : All IsNoStart l.starts.items;
  given : All IsNothing l.given.items;
}
