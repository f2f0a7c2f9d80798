use Rattle.std.proofs.{Common.{[], ◌∙◌, ◌++◌, refl, append_assoc, subst, sym, take}, lemmas.List.append-nil}
use Rattle.tc_blocks.specs.Inside.{IsConsumed}
use Rattle.tc_blocks.proofs.source.skip.Goals as goal

pub loop-count-init : goal.loop-count-init
loop-count-init g c = record {
  goes = λ input text so. ([], subst (λ l. IsConsumed input (g.R.Read.remaining c.args.reader.now) l c.args.extent.now) (sym (append-nil text)) so);
  room = refl;
  limit = refl;
}

pub loop-count-preserved : goal.loop-count-preserved
loop-count-preserved g c =
    let found = rw c.in-Some.is at c.in_ok-_count.ensures in
    let so = c.loop-count.invariant in
    record {
      goes = λ input text begun.
          let rest = so.goes input text begun in
          let part = take c.in-Some._count c.read.new.room in
          (rest.0 ++ part, subst (λ l. IsConsumed input (g.R.Read.remaining c.read.new.reader) l c.read.new.self) (append_assoc text rest.0 part) (found.takes input (text ++ rest.0) rest.1));
      room = found.room ∙ so.room;
      limit = found.limit ∙ so.limit;
    }
