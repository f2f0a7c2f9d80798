use Rattle.std.proofs.Common.{◌∙◌, sym}
use Rattle.tc_blocks.proofs.Lemmas.Notes.{plain_take}
use Rattle.tc_blocks.proofs.note.cut_plain.Goals as goal

pub loop-place-preserved : goal.loop-place-preserved
loop-place-preserved c = plain_take c.args.text.now c.loop-place.place 0 c.loop-place-test.true c.loop-place.invariant (sym c.is_plain.ensures ∙ c.if-not-is_plain.false)
