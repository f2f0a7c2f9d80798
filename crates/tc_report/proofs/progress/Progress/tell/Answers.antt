use Rattle.std.proofs.Common.{◌∙◌, ◌++◌, ◌∷◌, [], true, false, None, refl, ap, subst, sym}
use Rattle.tc_report.proofs.Lemmas.Telling.{lines_of, IsCut, cut_of, lost, moved, so_of, so_part, so_told}
use Rattle.tc_report.proofs.progress.Progress.tell.Goals as goal

pub returns-in-Ok-clause-told : goal.returns-in-Ok-clause-told
returns-in-Ok-clause-told g c start fs at =
    let p = c.tell_next.new.self in
    let q = c.tell_case.new.self in
    let before = g.E.Write.contents p.writer.now in
    let after = g.E.Write.contents q.writer.now in
    let again = p.failed.now.items in
    let more = q.failed.now.items in
    let only = c.tell_case.ensures.only in
    let begun = c.tell_next.ensures.begun c.in-None.is in
    let so = moved (lines_of p.shown) (lines_of p.shown) start fs before again again p.fault None p.tally p.tally p.begun true refl refl (sym c.in-None.is) refl (sym begun) (c.tell_next.ensures.told start fs at) in
    moved (lines_of p.shown) (lines_of q.shown) start (fs ++ c.args.case.now ∷ []) after more more None q.fault _ _ false false (ap lines_of only.shown)
    refl (only.fault ∙ c.in-None.is) refl refl
    (so_told (lines_of p.shown) start before after fs again p.tally c.args.case.now c.args.time more _ c.in-Ok.ensures.tally so c.in-Ok.ensures.all c.in-Ok.ensures.failed)

pub returns-in-Err-clause-told : goal.returns-in-Err-clause-told
returns-in-Err-clause-told g c start fs at =
    let p = c.tell_next.new.self in
    let q = c.tell_case.new.self in
    let before = g.E.Write.contents p.writer.now in
    let after = g.E.Write.contents q.writer.now in
    let again = p.failed.now.items in
    let begun = c.tell_next.ensures.begun c.in-None.is in
    let so = moved (lines_of p.shown) (lines_of p.shown) start fs before again again p.fault None p.tally p.tally p.begun true refl refl (sym c.in-None.is) refl (sym begun) (c.tell_next.ensures.told start fs at) in
    subst (λ lines. IsCut lines start (fs ++ c.args.case.now ∷ []) after) (sym (ap lines_of c.tell_case.ensures.only.shown))
    (so_part (lines_of p.shown) start before after fs again p.tally c.args.case.now c.args.time again so c.in-Err.ensures.part)

pub returns-in-Some-clause-told : goal.returns-in-Some-clause-told
returns-in-Some-clause-told g c start fs at =
    let p = c.tell_next.new.self in
    let now = g.E.Write.contents p.writer.now in
    let again = p.failed.now.items in
    so_of (lines_of p.shown) start (fs ++ c.args.case.now ∷ []) now again p.fault p.tally p.begun _ c.in-Some.is
    (lost (lines_of p.shown) start now fs c.args.case.now (cut_of (lines_of p.shown) start fs now again p.fault p.tally p.begun _ c.in-Some.is (c.tell_next.ensures.told start fs at)))
