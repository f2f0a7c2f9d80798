use Rattle.tc_campaign.proofs.Rightness.{if_cut, if_ended}
use Rattle.tc_campaign.proofs.campaign.run_campaign_with.Goals as goal

pub returns-clause-ended : goal.returns-clause-ended
returns-clause-ended g c = if_ended _ _ _ _ _ c.requires.names _ _ _ c.run_all.ensures

pub returns-clause-cut : goal.returns-clause-cut
returns-clause-cut g c = if_cut _ _ _ _ _ c.requires.names _ _ _ c.run_all.ensures
