use Rattle.std.proofs.Common.{◌≡◌, ◌≤◌, ◌*◌, ◌^◌, false, not}
use Rattle.tc_serve.specs.Inside.{IsAt}
use Rattle.tc_serve.proofs.service.serve_lines.Given as goal

abbrev pub invariant-loop-turns : goal.invariant-loop-turns
invariant-loop-turns g l = record {
  at_ : IsAt (g.R.CountedRead.remaining l.fn.reader) (g.R.CountedRead.remaining l.reader) (g.W.FlushedWrite.contents l.fn.writer) (g.W.FlushedWrite.contents l.writer)
      (g.E.CountedWrite.contents l.fn.errors) (g.E.CountedWrite.contents l.errors) l.heard l._turns l.serving;
  heard : l.heard ≡ not (g.E.CountedWrite.has_failed l.errors);
  few : g.E.CountedWrite.writes l.errors ≤ 2 ^ 64 * l._turns;
  read : g.R.CountedRead.has_failed l.reader ≡ false;
  reads : g.R.CountedRead.reads l.reader ≡ l._turns;
  written : g.W.FlushedWrite.has_failed l.writer ≡ false;
  same_reader : g.R.CountedRead.name l.reader ≡ g.R.CountedRead.name l.fn.reader;
  same_writer : g.W.FlushedWrite.name l.writer ≡ g.W.FlushedWrite.name l.fn.writer;
  same : g.E.CountedWrite.name l.errors ≡ g.E.CountedWrite.name l.fn.errors;
}
