use Rattle.tc_rules.specs.Prelude.{past_of}
use Rattle.tc_book.specs.{Inside.Words.WordsLag, Words.StayClosed}
use Rattle.tc_book.proofs.words.Words.settle.Given as goal

abbrev pub invariant-loop-b : goal.invariant-loop-b
invariant-loop-b l = WordsLag l.table.behaviours (past_of l.table) l.self l.b × StayClosed l.initial.self l.self
