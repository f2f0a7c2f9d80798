use Rattle.std.proofs.Common.{None, refl, sym}
use Rattle.tc_report.{specs.declared.fault.OutFault.OutFault, proofs.Lemmas.Telling.{cut_of, cut_told, lines_of, moved, so_ended}}
use Rattle.tc_report.proofs.progress.Progress.end.Goals as goal

pub returns-in-None-clause-told : goal.returns-in-None-clause-told
returns-in-None-clause-told g c start fs at =
    let p = c.args.self.now in
    let before = g.E.Write.contents p.writer.now in
    let now = g.E.Write.contents c.print_closing.new.self.writer.now in
    let again = p.failed.now.items in
    let so = moved (lines_of p.shown) (lines_of p.shown) start fs before again again p.fault None p.tally p.tally p.begun p.begun refl refl (sym c.in-None.is) refl refl at in
    so_ended (lines_of p.shown) start before now fs again p.tally p.begun c.whole-time.result c.print_closing.result so c.print_closing.ensures.all c.print_closing.ensures.part

pub returns-in-Some-clause-told : goal.returns-in-Some-clause-told
returns-in-Some-clause-told g c start fs at =
    let p = c.args.self.now in
    let now = g.E.Write.contents p.writer.now in
    cut_told (lines_of p.shown) start now fs OutFault.NoMemory (cut_of (lines_of p.shown) start fs now p.failed.now.items p.fault p.tally p.begun _ c.in-Some.is at)
