use Rattle.std.{proofs.Common.{rules, ◌≡◌, ◌∙◌, map, sym}}
use Rattle.tc_judge.proofs.Counting.{last_values}
use Rattle.tc_judge.proofs.judged.counted.Goals as goal

pub returns : goal.returns
returns g c =
    let given : c.in_ok-collect.field-0.items ≡ map (λ e. e.1) c.loop-block.last.entries = search rules in
    rw c.if-not-last.false (given ∙ last_values g.B.Named.name_in c.args.blocks.items _ _ (sym c.loop-block.invariant.2 ∙ c.in-None.ensures.steps.0) c.loop-block.invariant.3)
