use Rattle.std.proofs.Common.{ℕ, ◌∙◌, arith, length-drop}
use Rattle.tc_stream.proofs.Bytes.{appends_more, rest_of}
use Rattle.tc_stream.proofs.output.write_counted.Goals as goal

pub loop-done-preserved : goal.loop-done-preserved
loop-done-preserved g c =
    let taken = rw rest_of at c.in_ok-done.ensures.taken in
    record {
      within = omega (arith, c.in_ok-done.ensures.within, length-drop {A = ℕ});
      written = appends_more _ _ _ c.args.bytes.now c.loop-done.done c.in_ok-done.field-0 c.loop-done.invariant.written taken;
      counted = omega (arith, c.loop-done.invariant.counted, c.in_ok-done.ensures.counted, c.in_ok-done.ensures.some);
      sound = c.in_ok-done.ensures.sound;
      same = c.in_ok-done.ensures.same ∙ c.loop-done.invariant.same;
    }
