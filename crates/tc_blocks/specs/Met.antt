-- The runs that lines are about, as they are kept.
use Rattle.std.specs.Prelude.{ℕ, ◌≡◌, ◌<◌, Bool, List, slice_index_or}
use Rattle.tc_blocks.specs.{Line.is_met, declared.{line.Line.Line, met.MetRuns.MetRuns}}

-- of the runs that a test case may have, these are the ones that some line is about
abbrev pub AreMet : MetRuns → List Line → Type 0
AreMet m lines = (b : ℕ) (d : Bool) → b < 256 → slice_index_or m.met b d ≡ is_met b lines
