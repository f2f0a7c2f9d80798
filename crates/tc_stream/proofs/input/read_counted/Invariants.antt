use Rattle.std.{proofs.Common.{◌≡◌, ◌≤◌, ◌+◌, ◌-◌, false, vec_len}, specs.Io.KnownBytes.Consumes}
use Rattle.tc_stream.proofs.input.read_counted.Given as goal

abbrev pub invariant-loop-bytes : goal.invariant-loop-bytes
invariant-loop-bytes g l = record {
  fits : vec_len l.bytes ≤ l.limit;
  takes : Consumes (g.R.CountedRead.remaining l.fn.reader) (g.R.CountedRead.remaining l.reader) l.bytes.items;
  counted : g.R.CountedRead.reads l.reader ≤ g.R.CountedRead.reads l.fn.reader + vec_len l.bytes;
  sound : g.R.CountedRead.has_failed l.reader ≡ false;
  same : g.R.CountedRead.name l.reader ≡ g.R.CountedRead.name l.fn.reader;
}

abbrev pub decreases-loop-bytes : goal.decreases-loop-bytes
decreases-loop-bytes g l = l.limit - vec_len l.bytes
