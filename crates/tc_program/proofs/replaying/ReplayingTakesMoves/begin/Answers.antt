use Rattle.tc_program.proofs.Replays.{played_none}
use Rattle.tc_program.proofs.replaying.ReplayingTakesMoves.begin.Goals as goal

pub returns : goal.returns
returns c = played_none c.args.behaviours _ c.in_ok-state.ensures.behaviours c.in_ok-state.ensures.opening c.new-out.ensures.items
