use Rattle.tc_campaign.proofs.campaign.run_campaign.Goals as goal

pub returns-in-Err : goal.returns-in-Err
returns-in-Err g c = record { run = c.without_room.ensures.run c.args.stop_on c.args.threads }
