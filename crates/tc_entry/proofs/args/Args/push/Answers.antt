use Rattle.std.proofs.Common.{arith}
use Rattle.tc_entry.proofs.Padded.{one_more}
use Rattle.tc_entry.proofs.args.Args.push.Goals as goal

pub invariant_of-self : goal.invariant_of-self
invariant_of-self c =
    let kept = c.self.invariant in
    let more = one_more _ _ 4 c.args.comp _ (grind (arith, c.if-at-ge-ARGUMENTS.false)) kept.1 kept.2 in
    (grind (arith, c.if-at-ge-ARGUMENTS.false), more.0, more.1)
