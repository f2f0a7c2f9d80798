use Rattle.std.proofs.{Common.{arith, refl}, lemmas.Grind.common_steps}
use Rattle.tc_serve.proofs.Orders.{only_move, order_short, remark_none, remark_only}
use Rattle.tc_serve.proofs.order.read_order.Goals as goal

pub returns-then-text-ge-LINE_BYTES-clause-only : goal.returns-then-text-ge-LINE_BYTES-clause-only
returns-then-text-ge-LINE_BYTES-clause-only c o asks = absurd (grind (arith, common_steps, order_short c.args.text.now o asks))

pub returns-in-Some-clause-only : goal.returns-in-Some-clause-only
returns-in-Some-clause-only c = only_move c.args.text.now c.in-Some.caller c.in-Some.op c.in-Some.ensures.fits c.in-Some.ensures.spelled c.in-Some.ensures.only

pub returns-in-Some-2-clause-only : goal.returns-in-Some-2-clause-only
returns-in-Some-2-clause-only c o asks =
    let spelled = rw c.in-Some-2.is at c.in_ok-sentence.ensures.spelled in
    remark_only c.args.text.now c.in-Some-read_remark.run' c.in-Some-read_remark.bytes.now c.in-Some-2.sentence c.in-Some-read_remark.ensures.fits c.in-Some-read_remark.ensures.spelled c.in-Some-read_remark.ensures.only spelled o asks

pub returns-in-None-clause-only : goal.returns-in-None-clause-only
returns-in-None-clause-only c o asks =
    let valid = rw c.in-None.is at c.in_ok-sentence.ensures.valid in
    absurd (remark_none c.args.text.now c.in-Some-read_remark.run' c.in-Some-read_remark.bytes.now c.in-Some-read_remark.ensures.fits c.in-Some-read_remark.ensures.spelled c.in-Some-read_remark.ensures.only (λ is. let found = valid.1 is in cc) o asks)

pub returns-in-None-clause-why : goal.returns-in-None-clause-why
returns-in-None-clause-why c = (refl, grind (arith, common_steps), (c.in-Some-read_remark.run'.0, c.in-Some-read_remark.bytes.now, c.in-Some-read_remark.ensures.fits, c.in-Some-read_remark.ensures.spelled))
