use Rattle.tc_program.proofs.Replays.{played_more}
use Rattle.tc_program.proofs.replaying.ReplayingTakesMoves.take.Goals as goal

pub returns : goal.returns
returns c n moves before =
    let played = c.in_ok-reply.ensures in
    played_more n moves c.args.self.now _ c.args.one c.in_ok-reply.reply before played.behaviours played.stands c.in_ok-append_reply.ensures
