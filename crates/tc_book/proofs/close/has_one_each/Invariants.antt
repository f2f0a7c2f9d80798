use Rattle.std.proofs.Common.{◌≡◌, ℕ, ◌<◌, count_by}
use Rattle.tc_book.specs.Inside.{is_left_of}
use Rattle.tc_book.proofs.close.has_one_each.Given as goal

abbrev pub invariant-loop-run : goal.invariant-loop-run
invariant-loop-run l = (b : ℕ) → b < l.run → count_by (is_left_of b) l.lefts ≡ 1
