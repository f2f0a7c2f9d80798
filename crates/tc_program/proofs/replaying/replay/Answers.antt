use Rattle.tc_command.specs.declared.task.Task.TheVariants.{Replay}
use Rattle.tc_answer.proofs.Lemmas.Giving.{made_of}
use Rattle.tc_program.proofs.Doing.{lent_does}
use Rattle.tc_program.proofs.replaying.replay.Goals as goal

pub returns : goal.returns
returns g c explains =
    lent_does (Replay explains) _ _ _ c.in_ok-text.text.items c.as_slice.result.now c.write_answer.result c.as_slice.ensures.value c.in_ok-text.ensures.fits c.in_ok-text.ensures.all
    (c.write_answer.ensures (Replay explains) c.as_slice.result.now (made_of _ _ c.replay_text.result c.replay_text.ensures.done c.replay_text.ensures.refused))
