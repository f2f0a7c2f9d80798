use Rattle.std.proofs.Common.{rules}
use Rattle.tc_campaign.proofs.campaign.finish.Goals as goal

pub returns-clause-refused : goal.returns-clause-refused
returns-clause-refused g c = search rules
