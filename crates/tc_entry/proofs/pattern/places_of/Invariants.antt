use Rattle.std.proofs.Common.{◌≡◌, ◌+◌, length}
use Rattle.tc_entry.specs.{Inside.any_of, Name.matches}
use Rattle.tc_entry.proofs.pattern.places_of.Given as goal

-- the rest of the pattern matches what follows a place exactly if the pattern matches the name
abbrev pub invariant-loop-byte : goal.invariant-loop-byte
invariant-loop-byte l =
    (any_of (matches l.bytes) l.places.items l.name ≡ matches l.fn.pattern l.name) × (length l.places.items ≡ length l.name + 1)

abbrev pub decreases-loop-byte : goal.decreases-loop-byte
decreases-loop-byte l = length l.bytes
