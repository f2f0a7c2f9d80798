use Rattle.std.{proofs.Common.{◌≡◌, ◌≤◌, ◌+◌, ◌-◌, false, length, take}, specs.Io.KnownBytes.Appends}
use Rattle.tc_stream.proofs.output.write_counted.Given as goal

abbrev pub invariant-loop-done : goal.invariant-loop-done
invariant-loop-done g l = record {
  within : l.done ≤ length l.bytes;
  written : Appends (g.W.CountedWrite.contents l.fn.writer) (g.W.CountedWrite.contents l.writer) (take l.done l.bytes);
  counted : g.W.CountedWrite.writes l.writer ≤ g.W.CountedWrite.writes l.fn.writer + l.done;
  sound : g.W.CountedWrite.has_failed l.writer ≡ false;
  same : g.W.CountedWrite.name l.writer ≡ g.W.CountedWrite.name l.fn.writer;
}

abbrev pub decreases-loop-done : goal.decreases-loop-done
decreases-loop-done g l = length l.bytes - l.done
