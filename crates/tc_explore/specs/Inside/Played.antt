-- The course in which these runs, one after the other, make their next calls.
use Rattle.std.specs.Prelude.{ℕ, nat_lt, if◌then◌else◌, Option, Some, None, List, [], ◌∷◌, length, reverse}
use Rattle.tc_rules.specs.Prelude.{Case, Entry, Op, Run, entry_made}
use Rattle.tc_step.specs.Prelude.{ScriptView}
use Rattle.tc_course.specs.Prelude.{turn}

-- what run b calls next, if there is such a run
abbrev pub turn_within : List ScriptView → List Entry → ℕ → Option Op
turn_within scripts past b = if nat_lt b (length scripts) then turn scripts past b else None

-- the entries after this call, if there is one
abbrev pub made_if : ℕ → List Entry → Run → Option Op → List Entry
made_if n past run (Some op) = entry_made n past run op ∷ past
made_if n past run None = past

-- the run makes its next call, if it has one
abbrev pub made_next : List ScriptView → Run → List Entry → List Entry
made_next scripts run past = made_if (length scripts) past run (turn_within scripts past run.0)

-- so do these, the first of them first
abbrev pub played : List ScriptView → List Entry → List Run → List Entry
played scripts past [] = past
played scripts past (run ∷ calls) = played scripts (made_next scripts run past) calls

-- the case after these calls
abbrev pub case_of : List ScriptView → List Run → Case
case_of scripts calls = record { behaviours = length scripts; history = reverse (played scripts [] calls); room = 0 }
