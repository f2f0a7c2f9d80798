use Rattle.std.proofs.Common.{◌≡◌, ℕ, None, length}
use Rattle.tc_book.specs.Inside.{start_at}
use Rattle.tc_book.proofs.starts.no_starts.Given as goal

-- that many runs so far, none of them started
abbrev pub invariant-loop : goal.invariant-loop
invariant-loop l = (length l.starts.items ≡ l.counter) × ((b : ℕ) → start_at l.starts.items b ≡ None)
