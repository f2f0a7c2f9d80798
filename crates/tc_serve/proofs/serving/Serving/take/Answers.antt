use Rattle.std.proofs.lemmas.List.{nil_from_length}
use Rattle.tc_serve.proofs.Feeding.{fed_piece, stops_at_line, stops_bytes, takes_all, takes_line}
use Rattle.tc_serve.proofs.serving.Serving.take.Goals as goal

pub returns-in-None-clause-ok : goal.returns-in-None-clause-ok
returns-in-None-clause-ok c =
    let kept = c.in_default.ensures in
    takes_all c.args.bytes.now c.cut_line.result.0.now c.cut_line.result.1.now c.args.self.now c.keep.new.self c.args.texts.now.out.items c.args.texts.now.told.items c.requires c.cut_line.ensures.parts
    (nil_from_length c.cut_line.result.1.now (rw c.in-None.is at c.split_first.ensures.cases))
    (λ read before before' fed. fed_piece read c.cut_line.result.0.now c.args.self.now c.keep.new.self before _ before' _ fed c.cut_line.ensures.before kept.kept kept.same)

pub returns-in-Ok-clause-ok : goal.returns-in-Ok-clause-ok
returns-in-Ok-clause-ok c =
    let kept = c.in_default.ensures in
    let first = (rw c.in-Some.is at c.split_first.ensures.cases).0 in
    takes_line c.args.bytes.now c.cut_line.result.0.now c.cut_line.result.1.now _ c.in-Some.behind.now c.args.self.now c.keep.new.self c.args.texts.now.out.items c.args.texts.now.told.items c.cut_line.ensures.parts first (c.cut_line.ensures.behind _ _ first)
    (λ read before before' fed. fed_piece read c.cut_line.result.0.now c.args.self.now c.keep.new.self before _ before' _ fed c.cut_line.ensures.before kept.kept kept.same)
    c.end_line.new.self c.end_line.new.texts.out.items c.end_line.new.texts.told.items c.in-Ok.ensures.ok

pub returns-in-Err-clause-stopped : goal.returns-in-Err-clause-stopped
returns-in-Err-clause-stopped c = stops_bytes c.args.bytes.now c.args.self.now c.args.texts.now.out.items c.args.texts.now.told.items

pub returns-in-Err-end_line-clause-stopped : goal.returns-in-Err-end_line-clause-stopped
returns-in-Err-end_line-clause-stopped c =
    let kept = c.in_default.ensures in
    let first = (rw c.in-Some.is at c.split_first.ensures.cases).0 in
    stops_at_line c.args.bytes.now c.cut_line.result.0.now c.cut_line.result.1.now _ c.in-Some.behind.now c.args.self.now c.keep.new.self c.args.texts.now.out.items c.args.texts.now.told.items c.cut_line.ensures.parts first (c.cut_line.ensures.behind _ _ first)
    (λ read before before' fed. fed_piece read c.cut_line.result.0.now c.args.self.now c.keep.new.self before _ before' _ fed c.cut_line.ensures.before kept.kept kept.same)
    c.end_line.new.texts.out.items c.end_line.new.texts.told.items c.in-Err-end_line.fault c.in-Err-end_line.ensures.stopped
