use Rattle.std.proofs.{Common.arith, lemmas.Bool.Decides.nat_tests}
use Rattle.tc_serve.proofs.Feeding.{no_lf_next}
use Rattle.tc_serve.proofs.serving.cut_line.Goals as goal

pub loop-place-preserved : goal.loop-place-preserved
loop-place-preserved c = no_lf_next c.args.bytes.now c.loop-place.place 0 c.loop-place-test.true c.loop-place.invariant (grind (arith, nat_tests, c.if-byte-eq10.false))
