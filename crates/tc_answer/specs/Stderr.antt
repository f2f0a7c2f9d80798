-- What the streams that are written hold, a line on standard error, and what came of a task that is refused.
use Rattle.std.specs.{Prelude.{ℕ, ◌≡◌, ◌⊎◌, List, Option, Result, Ok, Err}, Io.KnownBytes.Appends}
use Rattle.tc_stream.specs.Prelude.{AppendsPrefix}
use Rattle.tc_answer.specs.{Fault.run_fault_line, declared.{fault.RunFault.RunFault, outcome.Outcome.Outcome, reply.Answer.Answer}}

-- by this answer the text was printed whole, or a prefix of it if the writer failed; there is no other fault
abbrev pub IsTold : Option (List ℕ) → Option (List ℕ) → List ℕ → Result (Unit {0}) RunFault → Type 0
IsTold untold told text (Ok done) = Appends untold told text
IsTold untold told text (Err RunFault.Write) = AppendsPrefix untold told text
IsTold untold told text (Err fault) = ⊥

-- the status is 3, and this text was printed, or, if memory ran out for it, the line that says so
abbrev pub IsPrintedRefusal : Option (List ℕ) → Option (List ℕ) → List ℕ → Outcome → Type 0
IsPrintedRefusal untold told text outcome =
    (outcome.status ≡ 3) × (IsTold untold told text outcome.told ⊎ IsTold untold told (run_fault_line RunFault.NoMemory) outcome.told)

-- the bytes on the output before and after, and those on standard error before and after, if they are known
pub record Streams : Type 0 where
  pub before : Option (List ℕ)
  pub after : Option (List ℕ)
  pub untold : Option (List ℕ)
  pub told : Option (List ℕ)

-- the answer was written and printed, and the status is its; or the writer failed, and took a prefix, and that is printed
abbrev pub GivesAnswer : Answer → Streams → Outcome → Type 0
GivesAnswer a s outcome =
    (Appends s.before s.after a.out × IsTold s.untold s.told a.told outcome.told × (outcome.status ≡ a.status))
    ⊎ (AppendsPrefix s.before s.after a.out × IsPrintedRefusal s.untold s.told (run_fault_line RunFault.Write) outcome)

-- what two writers held before and after: first the output, and then standard error
abbrev pub held_streams : {W E : Type 0} → (W → Option (List ℕ)) → W → W → (E → Option (List ℕ)) → E → E → Streams
held_streams contents w w' lines e e' = record { before = contents w; after = contents w'; untold = lines e; told = lines e' }
