use Rattle.std.proofs.{Common.{List, arith}, lemmas.Result.IfOk-weaker}
use Rattle.tc_blocks.{specs.{Inside.{IsFound, IsNote, IsSaidBy}, Met.AreMet, declared.line.Line.Line}, proofs.NextLines.{note_of_naming, note_of_said}}
use Rattle.tc_blocks.proofs.note.take_note.Goals as goal

pub returns-in-Some : goal.returns-in-Some
returns-in-Some c = λ before kept.
    let named = c.in-Some.ensures in
    let low = c.ranges.behaviours.fits in
    note_of_naming c.args.behaviours before c.args.text.now c.in-Some.naming c.in-Some.rest.now (omega (arith, low)) named.spelled named.fits named.less named.only c.name_run.result (c.name_run.ensures before kept)

pub returns-in-None : goal.returns-in-None
returns-in-None c =
    let n = c.args.behaviours in
    let text = c.args.text.now in
    IfOk-weaker c.take_said_line.result (IsFound (IsSaidBy n) text) (λ found. (before : List Line) → AreMet c.args.met.now before → IsFound (IsNote n before) text found) (λ found is before kept. note_of_said n before text c.in-None.ensures.only found is) c.take_said_line.ensures
