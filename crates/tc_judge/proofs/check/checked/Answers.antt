use Rattle.std.proofs.Common.{◌∙◌, sym}
use Rattle.tc_judge.proofs.Judging.{blocks_checked, names_lacking}
use Rattle.tc_judge.proofs.check.checked.Goals as goal

pub returns-then-not-name_blocks : goal.returns-then-not-name_blocks
returns-then-not-name_blocks g c text are = names_lacking g.K.Keeps.keeps c.args.choice.now text c.args.blocks.now are (sym c.name_blocks.ensures ∙ c.if-not-name_blocks.true)

pub returns : goal.returns
returns g c text are =
    rw c.silent.ensures
    (blocks_checked g.K.Keeps.keeps c.args.choice.now c.as_slice.result.now text c.in_ok-out.out.items c.checked_status.result c.args.blocks.now c.as_slice.ensures.value are
    (sym c.name_blocks.ensures ∙ c.if-not-name_blocks.false) c.in_ok-out.ensures c.checked_status.ensures)
