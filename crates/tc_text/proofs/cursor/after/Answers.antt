use Rattle.std.proofs.{Common.arith, lemmas.List.{length-take-le, take-append-drop, take_all, take_more_same}}
use Rattle.tc_text.proofs.cursor.after.Goals as goal

pub loop-place-preserved : goal.loop-place-preserved
loop-place-preserved c = grind (arith, take_more_same, length-take-le)

pub returns : goal.returns
returns c = grind (arith, take_all, length-take-le, take-append-drop)
