use Rattle.std.proofs.Common.{◌∙◌, refl}
use Rattle.tc_judge.proofs.Judging.{summary_kept}
use Rattle.tc_judge.proofs.judged.Recorded.summary.Goals as goal

pub returns : goal.returns
returns c b is =
    let all = is.1 refl in
    summary_kept b c.args.self.now.playing c.as_slice-entries.result.now c.in_ok-summary.summary is.0 (c.as_slice-entries.ensures.value ∙ all.0) c.args.self.now.said all.1
    c.in_ok-summary.ensures
