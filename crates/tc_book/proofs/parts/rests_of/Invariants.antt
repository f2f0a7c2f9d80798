use Rattle.std.proofs.Common.{◌≡◌, ℕ, ◌<◌, [], length, slice_index_or}
use Rattle.tc_book.proofs.parts.rests_of.Given as goal

-- so far all of each part is left
abbrev pub invariant-loop-part : goal.invariant-loop-part
invariant-loop-part l = (length l.rests.items ≡ l.part-index) × ((b : ℕ) (d : _) → b < l.part-index → (slice_index_or l.rests.items b d).now ≡ slice_index_or l.parts b [])
