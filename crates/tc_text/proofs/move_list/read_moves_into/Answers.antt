use Rattle.std.proofs.{Common.{◌≡◌, ◌<◌, length, arith}, lemmas.Grind.common_steps, lemmas.List.nil_from_length}
use Rattle.tc_text.proofs.{Lemmas.LinesOf.not_empty, SoFar.bad_first, SoFar.made_all, SoFar.made_bad, SoFar.made_more, SoFar.made_none, SoFar.made_only, SoFar.no_lines, SoFar.no_list}
use Rattle.tc_text.proofs.move_list.read_moves_into.Goals as goal

pub returns-then-is_empty-clause-fault : goal.returns-then-is_empty-clause-fault
returns-then-is_empty-clause-fault g c =
    let none : length c.args.text.now ≡ 0 = grind (arith, common_steps) in
    rw c.at.ensures (no_lines c.args.text.now (nil_from_length c.args.text.now none))

pub returns-in_default-clause-fault : goal.returns-in_default-clause-fault
returns-in_default-clause-fault g c =
    let some : 0 < length c.args.text.now = grind (arith, common_steps) in
    rw c.at-in_default.ensures (bad_first c.args.text.now (not_empty c.args.text.now some) c.in_default.ensures.only)

pub returns-in_default-clause-only : goal.returns-in_default-clause-only
returns-in_default-clause-only g c n ms list = absurd (c.in_default.ensures.only n _ list.behaviours list.lines)

pub loop-rest-init : goal.loop-rest-init
loop-rest-init g c =
    let first = c.in-Some.ensures in
    (made_none g.T.TakesMoves.stands c.args.text.now c.in-Some.behaviours c.in-Some.rest.now c.in_ok-made.made first.few first.spelled first.only c.in_ok-made.ensures, grind (arith, common_steps))

pub returns-in_default-2-clause-fault : goal.returns-in_default-2-clause-fault
returns-in_default-2-clause-fault g c =
    let some : 0 < length c.loop-rest.rest.now = grind (arith, common_steps) in
    rw c.at-in_default-2.ensures
    (made_bad g.T.TakesMoves.stands c.args.text.now c.in-Some.behaviours c.loop-rest.line c.loop-rest.rest.now c.loop-rest.made c.loop-rest.invariant.0 (not_empty c.loop-rest.rest.now some) (rw c.in_default-2.is at c.in_ok-behind.ensures))

pub returns-in_default-2-clause-only : goal.returns-in_default-2-clause-only
returns-in_default-2-clause-only g c n ms list =
    let some : 0 < length c.loop-rest.rest.now = grind (arith, common_steps) in
    let none = rw c.in_default-2.is at c.in_ok-behind.ensures in
    absurd (no_list c.args.text.now c.in-Some.behaviours c.loop-rest.invariant.0.moves c.loop-rest.rest.now (not_empty c.loop-rest.rest.now some) c.loop-rest.invariant.0.read none n ms list)

pub loop-rest-preserved : goal.loop-rest-preserved
loop-rest-preserved g c =
    let next = rw c.in-Some-2.is at c.in_ok-behind.ensures in
    let less = next.less in (
      made_more g.T.TakesMoves.stands c.args.text.now c.in-Some.behaviours c.loop-rest.line c.loop-rest.rest.now c.in-Some-2.behind.now c.loop-rest.made c.take_next.new.made next.move c.loop-rest.invariant.0 next.spelled next.fits next.only next.taken,
      grind (arith, common_steps, less),
    )

pub returns-clause-ok : goal.returns-clause-ok
returns-clause-ok g c =
    let none : length c.loop-rest.rest.now ≡ 0 = grind (arith, common_steps) in
    made_all g.T.TakesMoves.stands c.args.text.now c.in-Some.behaviours c.loop-rest.line c.loop-rest.rest.now c.loop-rest.made c.loop-rest.invariant.0 (nil_from_length c.loop-rest.rest.now none)

pub returns-clause-only : goal.returns-clause-only
returns-clause-only g c n ms list =
    let none : length c.loop-rest.rest.now ≡ 0 = grind (arith, common_steps) in
    made_only g.T.TakesMoves.stands c.args.text.now c.in-Some.behaviours c.loop-rest.line c.loop-rest.rest.now c.loop-rest.made c.loop-rest.invariant.0 (nil_from_length c.loop-rest.rest.now none) n ms list
