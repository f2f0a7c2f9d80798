-- Whole inputs and outputs, their faults, and the readers and writers for tests.
use Rattle.std.specs.{Prelude.{ℕ, ◌≡◌, ◌≤◌, List, Option, IfSome, length, take, codes}, Io.KnownBytes.Appends}
use Rattle.tc_verdict.specs.Prelude.{memory_text}
use Rattle.tc_stream.specs.declared.input.InputFault.{InputFault}

-- the input was read whole: a text of at most that many bytes, which is what the input holds if that is known; and this
-- is so of it
abbrev pub IsRead : ℕ → Option (List ℕ) → (List ℕ → Type 0) → Type 0
IsRead limit input Holds = (text : List ℕ) × (length text ≤ limit) × IfSome input (λ given. text ≡ given) × Holds text

-- known bytes grow by the first n of bs, for some n
abbrev pub AppendsPrefix : Option (List ℕ) → Option (List ℕ) → List ℕ → Type 0
AppendsPrefix old new bs = (n : ℕ) × (n ≤ length bs) × Appends old new (take n bs)

-- why an input was refused
abbrev pub input_text : InputFault → List ℕ
input_text InputFault.TooLong = codes "input too long"
input_text InputFault.Read = codes "read fault"
input_text InputFault.NoMemory = memory_text

-- why an output did not go out
abbrev pub write_text : List ℕ
write_text = codes "write fault"
