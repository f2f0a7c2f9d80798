use Rattle.std.proofs.Common.{◌≡◌, ◌++◌, ◌+◌, false, length}
use Rattle.tc_entry.specs.Inside.{passed}
use Rattle.tc_entry.proofs.pattern.behind_byte.Given as goal

-- the places so far and those of the rest are those of the name
abbrev pub invariant-loop-b : goal.invariant-loop-b
invariant-loop-b l =
    (l.after.items ++ passed l.reached l.byte l.bytes l.rest ≡ passed false l.byte l.fn.name l.fn.places)
    × (length l.after.items + length l.bytes ≡ length l.fn.name)

abbrev pub decreases-loop-b : goal.decreases-loop-b
decreases-loop-b l = length l.bytes
