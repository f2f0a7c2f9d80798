-- How far a search goes: the limits on its states and on their memory.
use Rattle.std.specs.Prelude.{ℕ, ◌≡◌, List, length, ◌+◌, ◌*◌, ◌/◌, min, nat_lt, if◌then◌else◌, [], ◌∷◌}
use Rattle.tc_step.specs.Prelude.{ScriptView}
use Rattle.tc_course.specs.declared.found.Limit.{Limit}

-- one more than the steps of the scripts together
abbrev pub room_of : List ScriptView → ℕ
room_of [] = 1
room_of (script ∷ scripts) = room_of scripts + length script.steps

-- How many bytes a state keeps, at most. Of each call it keeps two, as a behaviour carries out its steps and its end. Its key
-- has up to 64 for each behaviour, with four arguments, and 24 for each component, which some step creates. And there are the
-- places in two lists and a table.
abbrev pub state_bytes : List ScriptView → ℕ
state_bytes scripts = 256 + 66 * length scripts + 26 * room_of scripts

-- how many states have room in 512 MiB, which a machine of 1 GiB can give
abbrev pub most_kept : List ScriptView → ℕ
most_kept scripts = 536870912 / state_bytes scripts

-- how many states a search looks at, at most
abbrev pub most_states : List ScriptView → ℕ → ℕ
most_states scripts limit = min limit (most_kept scripts)

-- the limit that it meets then
abbrev pub limit_met : List ScriptView → ℕ → Limit
limit_met scripts limit = if nat_lt (most_kept scripts) limit then Limit.Memory else Limit.States

-- a search that was given this limit on its states has looked at as many as it may, and met this limit
pub record IsAtLimit (scripts : List ScriptView) (given states : ℕ) (met : Limit) : Type 0 where
  pub as_many : states ≡ most_states scripts given
  pub which : met ≡ limit_met scripts given
