use Rattle.tc_judge.proofs.Counting.{counted_judged}
use Rattle.tc_judge.proofs.judged.judge_text.Goals as goal

pub returns-clause-judged : goal.returns-clause-judged
returns-clause-judged g c =
    let read = c.in_ok-judging.ensures in
    counted_judged g.K.Keeps.keeps c.args.last c.args.text.now c.in_ok-judging.judging.blocks.items c.in_ok-counted.field-0.items
    (record { blocks = read.ok.0; evidence = read.ok.1; holds = read.only }) c.in_ok-counted.ensures
