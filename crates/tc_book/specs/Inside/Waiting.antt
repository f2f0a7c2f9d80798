-- How many runs of a case have a condition to wait on.
use Rattle.std.specs.{Prelude.{ℕ, length}, Arc.arc_value}
use Rattle.tc_book.specs.declared.shared.Shared.{Shared}

-- how many runs have a condition, on which they wait and are woken
abbrev pub waiting_places : Shared → ℕ
waiting_places s = length (arc_value s.held).changed.of_runs.items
