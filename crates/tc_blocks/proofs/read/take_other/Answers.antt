use Rattle.std.{proofs.{Common.{List, subst, sym}, lemmas.Result.IfOk-weaker}, specs.Result.IfOk}
use Rattle.tc_blocks.{specs.{Inside.{IsFound, IsNoEntryLine, IsNote}, Met.AreMet, Text.{IsLine, format_of}, declared.{header.Kind.Kind, line.Line.Line}}, proofs.NextLines.line_of_note}
use Rattle.tc_blocks.proofs.read.take_other.Goals as goal

pub returns-in-Evidence : goal.returns-in-Evidence
returns-in-Evidence c =
    let n = c.args.behaviours in
    let text = c.args.text.now in
    let met = c.args.met.now in
    subst (λ (k : Kind). IfOk c.take_note.result (λ found. (before : List Line) → AreMet met before → IsFound (IsLine k n before) text found)) (sym c.in-Evidence.is)
    (IfOk-weaker c.take_note.result (λ found. (before : List Line) → AreMet met before → IsFound (IsNote n before) text found)
    (λ found. (before : List Line) → AreMet met before → IsFound (IsLine Kind.Evidence n before) text found)
    (λ found is before kept. line_of_note n before text (subst (λ (k : Kind). IsNoEntryLine (format_of k) text) c.in-Evidence.is c.requires.no_entry) found (is before kept)) c.take_note.ensures)
