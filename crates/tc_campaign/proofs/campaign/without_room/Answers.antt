use Rattle.std.proofs.Common.{rules}
use Rattle.tc_campaign.proofs.Lemmas.Keeping.{unrun_run}
use Rattle.tc_campaign.proofs.campaign.without_room.Goals as goal

pub returns-clause-run : goal.returns-clause-run
returns-clause-run g c stop_on threads = unrun_run g.B.Callable.outcome c.new-2.result _ (search rules) c.args.cases.items stop_on threads c.ending_without_room.ensures
