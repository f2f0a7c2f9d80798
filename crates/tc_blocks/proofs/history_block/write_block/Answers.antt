use Rattle.std.proofs.{Common.arith, lemmas.Grind.common_steps}
use Rattle.tc_blocks.proofs.history_block.write_block.Goals as goal

pub returns-clause-err : goal.returns-clause-err
returns-clause-err c = grind (arith, common_steps)
