use Rattle.std.proofs.Common.{◌≡◌, ◌++◌, ◌+◌, false, length}
use Rattle.tc_entry.specs.Inside.{behind}
use Rattle.tc_entry.proofs.pattern.behind_any.Given as goal

-- the places so far and those of the rest are those of all
abbrev pub invariant-loop-place : goal.invariant-loop-place
invariant-loop-place l =
    (l.after.items ++ behind l.reached l.rest ≡ behind false l.fn.places) × (length l.after.items + length l.rest ≡ length l.fn.places)

abbrev pub decreases-loop-place : goal.decreases-loop-place
decreases-loop-place l = length l.rest
