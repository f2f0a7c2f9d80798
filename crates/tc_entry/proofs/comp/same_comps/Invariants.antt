use Rattle.std.proofs.Common.{◌≡◌, ◌↔◌, length}
use Rattle.tc_entry.proofs.comp.same_comps.Given as goal

abbrev pub invariant-loop-x : goal.invariant-loop-x
invariant-loop-x l = (l.rest ≡ l.others) ↔ (l.a ≡ l.b)

abbrev pub decreases-loop-x : goal.decreases-loop-x
decreases-loop-x l = length l.rest
