use Rattle.std.{proofs.Common.{◌≡◌, map, take}, specs.List.flat_map}
use Rattle.tc_judge.specs.Inside.{judged_report}
use Rattle.tc_judge.proofs.report.text_report.Given as goal

abbrev pub invariant-loop-block : goal.invariant-loop-block
invariant-loop-block l =
    (l.out.items ≡ flat_map judged_report (take l.block-index l.blocks)) × (l.verdicts.items ≡ map (λ j. j.verdict) (take l.block-index l.blocks))
