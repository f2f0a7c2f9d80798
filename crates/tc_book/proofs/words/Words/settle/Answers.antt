use Rattle.std.proofs.Common.{◌≡◌, arith, subst}
use Rattle.tc_rules.specs.Prelude.{past_of}
use Rattle.tc_book.{specs.Inside.Words.WordsLag, proofs.Settling.all_agree}
use Rattle.tc_book.proofs.words.Words.settle.Goals as goal

pub returns-clause-agreeing : goal.returns-clause-agreeing
returns-clause-agreeing c =
    let is : c.loop-b.b ≡ c.args.table.now.behaviours = omega (arith, c.behaviours-b-end.ensures.is, c.loop-b-test.false, c.loop-b.auto.b-end) in
    all_agree c.args.table.now.behaviours (past_of c.args.table.now) c.loop-b.self
    (subst (λ k. WordsLag c.args.table.now.behaviours (past_of c.args.table.now) c.loop-b.self k) is c.loop-b.invariant.0)
