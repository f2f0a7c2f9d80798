use Rattle.std.proofs.Common.{arith}
use Rattle.tc_text.proofs.Lemmas.Digits.{counted_all, counted_more, never_large}
use Rattle.tc_text.proofs.number.value_of.Goals as goal

pub returns-then-number-gt4294967295-clause-none : goal.returns-then-number-gt4294967295-clause-none
returns-then-number-gt4294967295-clause-none c n rest fits ends e =
    let at = c.in-Some.ensures.some in
    never_large c.args.text.now c.loop-digit.end c.loop-digit.number c.in-Some.digit n rest c.loop-digit.invariant at.0 at.1 at.2 (omega (arith, c.if-number-gt4294967295.true)) fits ends e

pub returns-clause-some : goal.returns-clause-some
returns-clause-some c end are = counted_all c.args.text.now c.loop-digit.end c.loop-digit.number end c.loop-digit.invariant c.in_default.ensures.none are

pub loop-digit-preserved : goal.loop-digit-preserved
loop-digit-preserved c =
    let at = c.in-Some.ensures.some in
    counted_more c.args.text.now c.loop-digit.end c.loop-digit.number c.in-Some.digit c.loop-digit.invariant at.0 at.1 at.2 (omega (arith, c.if-number-gt4294967295.false))
