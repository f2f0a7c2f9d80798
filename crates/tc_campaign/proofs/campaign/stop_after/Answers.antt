use Rattle.std.proofs.Common.{rules}
use Rattle.tc_campaign.proofs.campaign.stop_after.Goals as goal

pub returns-else-is_met-clause-better : goal.returns-else-is_met-clause-better
returns-else-is_met-clause-better c = search rules
