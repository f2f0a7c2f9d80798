use Rattle.std.proofs.Common.{◌∙◌, arith}
use Rattle.tc_stream.proofs.Bytes.{consumes_more}
use Rattle.tc_stream.proofs.input.read_counted.Goals as goal

pub loop-bytes-preserved : goal.loop-bytes-preserved
loop-bytes-preserved g c = record {
  fits = c.in_ok-read_more.ensures.fits;
  takes = consumes_more _ _ _ _ _ c.loop-bytes.invariant.takes c.in_ok-read_more.ensures.keeps c.in_ok-read_more.ensures.takes;
  counted = omega (arith, c.loop-bytes.invariant.counted, c.in_ok-read_more.ensures.counted, c.in_ok-read_more.ensures.grows);
  sound = c.in_ok-read_more.ensures.sound;
  same = c.in_ok-read_more.ensures.same ∙ c.loop-bytes.invariant.same;
}
