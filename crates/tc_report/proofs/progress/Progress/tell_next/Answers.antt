use Rattle.std.proofs.Common.{◌≡◌, ◌∙◌, true, false, None, refl, ap, subst, sym}
use Rattle.tc_report.proofs.Lemmas.Telling.{lines_of, IsCut, moved, so_begun, so_cut}
use Rattle.tc_report.proofs.progress.Progress.tell_next.Goals as goal

pub returns-in-Ok-clause-told : goal.returns-in-Ok-clause-told
returns-in-Ok-clause-told g c start fs at =
    let p = c.args.self.now in
    let q = c.print_next.new.self in
    let before = g.E.Write.contents p.writer.now in
    let after = g.E.Write.contents q.writer.now in
    let again = p.failed.now.items in
    let only = c.print_next.ensures.only in
    let fresh : p.begun ≡ false = cc in
    let so = moved (lines_of p.shown) (lines_of p.shown) start fs before again again p.fault None p.tally p.tally p.begun false refl refl (sym c.in-None.is) refl (sym fresh) at in
    moved (lines_of p.shown) (lines_of q.shown) start fs after again q.failed.now.items None q.fault p.tally q.tally true true (ap lines_of only.shown)
    (ap (λ l. l.now.items) c.print_next.ensures.failed) (only.fault ∙ c.in-None.is) only.tally refl
    (so_begun (lines_of p.shown) start before after fs again p.tally so c.in-Ok.ensures.all)

pub returns-in-Err-clause-told : goal.returns-in-Err-clause-told
returns-in-Err-clause-told g c start fs at =
    let p = c.args.self.now in
    let q = c.print_next.new.self in
    let before = g.E.Write.contents p.writer.now in
    let after = g.E.Write.contents q.writer.now in
    let again = p.failed.now.items in
    let fresh : p.begun ≡ false = cc in
    let so = moved (lines_of p.shown) (lines_of p.shown) start fs before again again p.fault None p.tally p.tally p.begun false refl refl (sym c.in-None.is) refl (sym fresh) at in
    subst (λ lines. IsCut lines start fs after) (sym (ap lines_of c.print_next.ensures.only.shown))
    (so_cut (lines_of p.shown) start before after fs again p.tally so c.in-Err.ensures.part)
