use Rattle.std.proofs.{Common.false, lemmas.List.get_or-replicate}
use Rattle.tc_blocks.proofs.met.MetRuns.none.Goals as goal

pub returns : goal.returns
returns c b d few = get_or-replicate 256 b false d few
