use Rattle.std.proofs.{Common.{arith}, lemmas.List.Sorted.length_permutation}
use Rattle.tc_explore.{proofs.{Noting.{all_found_moved, covered_moved, from_best, noted_moved, witnesses_legal}}}
use Rattle.tc_explore.proofs.explored.explore.Goals as goal

pub returns-clause-legal : goal.returns-clause-legal
returns-clause-legal c = rw c.new-2.ensures (witnesses_legal c.args.scripts.now _ (noted_moved c.args.scripts.now _ _ c.order.ensures.same c.in_ok-searched.ensures.searched.noted.0).sound)

pub returns-clause-ordered : goal.returns-clause-ordered
returns-clause-ordered c = rw c.new-2.ensures (from_best _ c.order.ensures.ordered (noted_moved c.args.scripts.now _ _ c.order.ensures.same c.in_ok-searched.ensures.searched.noted.0).once)

pub returns-clause-covered : goal.returns-clause-covered
returns-clause-covered c = rw (c.new-2.ensures, c.new-3.ensures) (covered_moved _ _ _ c.order.ensures.same c.in_ok-searched.ensures.searched.noted.2)

pub returns-clause-complete : goal.returns-clause-complete
returns-clause-complete c h = rw c.new-2.ensures (all_found_moved c.args.scripts.now _ _ c.order.ensures.same (c.in_ok-searched.ensures.searched.complete (c.ending_of.ensures.whole h)))

pub returns-clause-told : goal.returns-clause-told
returns-clause-told c l h some =
    let size = length_permutation _ _ c.order.ensures.same in
    let told = c.in_ok-searched.ensures.told (c.ending_of.ensures.part l h).0 in
    rw c.new-2.ensures (omega (arith, size, told))
