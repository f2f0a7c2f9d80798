use Rattle.std.proofs.Common.{ℕ, List, Option, ◌≡◌, ◌++◌, length}
use Rattle.tc_blocks.specs.Inside.{IsConsumed}
use Rattle.tc_blocks.proofs.source.skip.Given as goal

abbrev pub invariant-loop-count : goal.invariant-loop-count
invariant-loop-count g l = record {
  goes : (input : Option (List ℕ)) (text : List ℕ) → IsConsumed input (g.R.Read.remaining l.fn.reader) text l.fn.extent
      → (rest : List ℕ) × IsConsumed input (g.R.Read.remaining l.reader) (text ++ rest) l.extent;
  room : length l.room ≡ length l.fn.room;
  limit : l.extent.limit ≡ l.fn.extent.limit;
}

abbrev pub decreases-loop-count : goal.decreases-loop-count
decreases-loop-count g l = l.extent.left
