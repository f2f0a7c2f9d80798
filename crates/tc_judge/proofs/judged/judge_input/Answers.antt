use Rattle.std.proofs.Common.{rules, List, ℕ, false}
use Rattle.tc_blocks.specs.Prelude.{IsReadIn}
use Rattle.tc_judge.{specs.Inside.AreJudgedIn, proofs.Counting.counted_judged}
use Rattle.tc_judge.proofs.judged.judge_input.Goals as goal

pub returns-in_ok-counted-in-Ok-Ok-clause-judged : goal.returns-in_ok-counted-in-Ok-Ok-clause-judged
returns-in_ok-counted-in-Ok-Ok-clause-judged g c =
    let input = g.R.Read.remaining c.args.reader.now in
    let blocks = c.in-Ok-Ok.field-0-0.blocks.items in
    let all : IsReadIn c.limit_of.result input (λ (text : List ℕ). AreJudgedIn g.K.Keeps.keeps false text blocks) = search rules in
    let read = rw c.limit_of.ensures.is at all in (
      read.0,
      read.1,
      read.2,
      counted_judged g.K.Keeps.keeps c.args.choice.now.last read.0 blocks c.in_ok-counted-in-Ok-Ok.field-0.items read.3 c.in_ok-counted-in-Ok-Ok.ensures,
    )
