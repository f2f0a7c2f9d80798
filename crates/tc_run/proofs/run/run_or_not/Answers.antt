use Rattle.tc_run.{specs.Inside.worker_limit, proofs.Running.untold}
use Rattle.tc_run.proofs.run.run_or_not.Goals as goal

pub returns-in-Err-clause-run : goal.returns-in-Err-clause-run
returns-in-Err-clause-run g c = c.without_room.ensures.run c.args.options.now.stop_on worker_limit

pub returns-in-Err-clause-told : goal.returns-in-Err-clause-told
returns-in-Err-clause-told g c = untold _ _ _ _ c.without_room.ensures.none
