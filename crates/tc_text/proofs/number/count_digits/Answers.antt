use Rattle.std.proofs.Common.{arith}
use Rattle.tc_text.proofs.Lemmas.Digits.{digits_further}
use Rattle.tc_text.proofs.number.count_digits.Goals as goal

pub loop-end-preserved : goal.loop-end-preserved
loop-end-preserved c =
    let at = c.in-Some.ensures.some in
    (omega (arith, at.0), digits_further c.args.text.now c.loop-end.end c.in-Some.field-0 c.loop-end.invariant.1 at.0 at.1 at.2)
