use Rattle.std.proofs.Common.{◌≡◌, ◌++◌, ℕ, List}
use Rattle.tc_rules.specs.Prelude.{Entry, late}
use Rattle.tc_book.specs.Inside.Merging.{Has}
use Rattle.tc_book.proofs.merging.add_all_late.Given as goal

-- those of the runs passed so far
abbrev pub invariant-loop-entries : goal.invariant-loop-entries
invariant-loop-entries l = (log : ℕ → List Entry) → Has l.logs log → l.all.items ≡ l.initial.all.items ++ late log l.entries-index
