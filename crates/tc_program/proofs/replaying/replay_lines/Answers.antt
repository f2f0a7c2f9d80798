use Rattle.tc_program.proofs.Replays.{all_played}
use Rattle.tc_program.proofs.replaying.replay_lines.Goals as goal

pub returns-clause-done : goal.returns-clause-done
returns-clause-done c =
    all_played c.args.text.now c.append_verdict.new.out.items c.in_ok-replaying.replaying c.overall-verdict.result c.in_ok-replaying.ensures.ok c.overall-verdict.ensures c.in_ok-append_verdict.ensures.ok
