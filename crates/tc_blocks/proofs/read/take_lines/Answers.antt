use Rattle.std.proofs.{Common.{◌<◌, length, refl, arith}, lemmas.Grind.common_steps}
use Rattle.tc_text.proofs.Lemmas.LinesOf.{not_empty}
use Rattle.tc_blocks.proofs.InsideLines.{bad_inside, on_more_in, on_none}
use Rattle.tc_blocks.proofs.read.take_lines.Goals as goal

pub loop-rest-init : goal.loop-rest-init
loop-rest-init g c =
    let old = c.args.block.now in
    ((refl, refl), on_none g.H.TakesEvidence.opens old.kind old.behaviours c.args.text.now c.args.first_line old.met old.begun c.requires.met)

pub loop-rest-preserved : goal.loop-rest-preserved
loop-rest-preserved g c =
    on_more_in g.H.TakesEvidence.opens c.args.text.now c.args.first_line c.args.block.now c.loop-rest.block c.take_line.new.block c.loop-rest.rest.now c.in-Some-2.behind.now c.loop-rest.line
    c.loop-rest.invariant (rw c.in-Some-2.is at c.in_ok-behind.ensures) c.in_default.ensures.only

pub returns-in_default-2-clause-fault : goal.returns-in_default-2-clause-fault
returns-in_default-2-clause-fault g c at h inside from =
    let some : 0 < length c.loop-rest.rest.now = grind (arith, common_steps) in
    let old = c.args.block.now in
    let block = c.loop-rest.block in
    let so = c.loop-rest.invariant in
    let none = rw c.in_default-2.is at c.in_ok-behind.ensures in
    rw c.at.ensures
    (bad_inside g.H.TakesEvidence.opens old.kind old.behaviours c.args.text.now c.args.first_line old.met block.met old.begun block.begun c.loop-rest.rest.now c.loop-rest.line
    so.1 (not_empty c.loop-rest.rest.now some) (rw (so.0.0, so.0.1) at none) c.in_default.ensures.only at h inside from)
