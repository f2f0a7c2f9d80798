use Rattle.std.proofs.{Common.arith, lemmas.Grind.common_steps}
use Rattle.tc_reader.proofs.campaign.Campaign.take_first.Goals as goal

pub returns : goal.returns
returns c = grind (arith, common_steps)
