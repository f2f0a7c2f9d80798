use Rattle.std.proofs.Common.{◌≡◌, ℕ, [], length, slice_index_or}
use Rattle.tc_book.proofs.parts.no_parts.Given as goal

-- that many parts so far, all of them empty
abbrev pub invariant-loop : goal.invariant-loop
invariant-loop l = (length l.parts.items ≡ l.counter) × ((b : ℕ) → slice_index_or l.parts.items b [] ≡ [])
