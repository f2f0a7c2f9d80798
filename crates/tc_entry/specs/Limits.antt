-- The limits of a test case, and which components a group names.
use Rattle.std.specs.Prelude.{ℕ, ◌≤◌, ◌==◌, not, Bool}
use Rattle.tc_entry.specs.declared.op.Group.{Group}

-- a number of behaviours: a test case has one at least
abbrev pub IsBehaviours : ℕ → Type 0
IsBehaviours n = (1 ≤ n) × (n ≤ 256)

-- component c is of the group: All is all parallel components, that is all except the main one, 0
abbrev pub is_of : Group → ℕ → Bool
is_of (Group.One d) c = d.0 == c
is_of Group.All c = not (c == 0)
