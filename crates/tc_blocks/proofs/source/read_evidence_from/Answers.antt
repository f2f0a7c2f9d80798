use Rattle.std.proofs.Common.{◌∙◌, ◌++◌, [], ap, arith, length, refl, sym, take}
use Rattle.tc_blocks.proofs.Unfinished.{more_so_far, refused_input, whole_input}
use Rattle.tc_blocks.proofs.source.read_evidence_from.Goals as goal

pub loop-pending-preserved : goal.loop-pending-preserved
loop-pending-preserved g c =
    let so = c.loop-pending.invariant.0 in
    let found = rw c.in-Some.is at c.in_ok-count.ensures in
    let next = rw c.in_default-take_bytes.is at c.take_bytes.ensures in
    let input = g.R.Read.remaining c.args.reader.now in
    let pending = c.take_bytes.new.pending in (
      more_so_far g.H.TakesEvidence.stands g.H.TakesEvidence.opens input (g.R.Read.remaining c.loop-pending.reader) (g.R.Read.remaining c.read.new.reader) c.loop-pending.extent c.read.new.self
          c.loop-pending.pending.reading pending.reading c.loop-pending.pending.unfinished.items pending.unfinished.items (take c.in-Some.count c.read.new.room) so (found.takes input so.bytes so.consumed)
          next.read next.room next.known next.same,
      found.limit ∙ c.loop-pending.invariant.1,
    )

pub returns-in-Err-clause-read : goal.returns-in-Err-clause-read
returns-in-Err-clause-read g c =
    let so = c.loop-pending.invariant.0 in
    let found = rw c.in-Some.is at c.in_ok-count.ensures in
    let input = g.R.Read.remaining c.args.reader.now in
    let part = take c.in-Some.count c.read.new.room in
    let rest = c.in_ok-skip.ensures.rest input (so.bytes ++ part) (found.takes input so.bytes so.consumed) in
    refused_input g.H.TakesEvidence.stands g.H.TakesEvidence.opens input (g.R.Read.remaining c.skip.new.reader) c.args.limit c.skip.new.extent
    c.loop-pending.pending.reading c.loop-pending.pending.unfinished.items part so.bytes rest.0 c.in-Err.fault so.any so.pending c.in-Err.ensures.fault rest.1
    (c.in_ok-skip.ensures.limit ∙ (found.limit ∙ c.loop-pending.invariant.1)) c.in_ok-skip.ensures.end

pub returns-clause-read : goal.returns-clause-read
returns-clause-read g c =
    let so = c.loop-pending.invariant.0 in
    let found = rw c.in_default.is at c.in_ok-count.ensures in
    let input = g.R.Read.remaining c.args.reader.now in
    whole_input g.H.TakesEvidence.stands input (g.R.Read.remaining c.read.new.reader) c.args.limit c.read.new.self so.bytes c.finish_bytes.result
    (found.none input so.bytes so.consumed) (found.limit ∙ c.loop-pending.invariant.1) found.end (c.finish_bytes.ensures so.bytes so.pending)

pub loop-pending-init : goal.loop-pending-init
loop-pending-init g c =
    let first = c.new.ensures.first in
    let none = ap length c.new-2.ensures.items in (
      record {
        bytes = [];
        consumed = c.new-extent.ensures.none (g.R.Read.remaining c.args.reader.now);
        pending = record { whole = []; parts = sym c.new-2.ensures.items; closed = λ rest. refl; read = c.new.ensures.read };
        room = omega (arith, first, none);
        known = c.new.ensures.known;
        any = c.new.ensures.same;
      },
      c.new-extent.ensures.limit,
    )
