use Rattle.std.proofs.Common.{ℕ, ◌≢◌, ◌<◌, ◌≤◌, length, slice_index}
use Rattle.tc_blocks.proofs.source.whole_lines.Given as goal

abbrev pub invariant-loop-end : goal.invariant-loop-end
invariant-loop-end l = record {
  within : l.end ≤ length l.text;
  last : (place : ℕ) → l.end ≤ place → place < length l.text → slice_index l.text place ≢ 10;
}

abbrev pub decreases-loop-end : goal.decreases-loop-end
decreases-loop-end l = l.end
