-- What `serve` writes, prints and ends with.
use Rattle.std.specs.{Prelude.{ℕ, ◌≡◌, Bool, false, true, if◌then◌else◌, List, Option, Result, Ok, Err}, Io.KnownBytes.Keeps}
use Rattle.tc_report.specs.Prelude.{verdict_status}
use Rattle.tc_serve.specs.{declared.service.{ServeFault.ServeFault, Ending.Ending, Served.Served}, Prelude.{IsServiceEnd, refused_line_text}}
use Rattle.tc_answer.specs.{declared.{fault.RunFault.RunFault, outcome.Outcome.Outcome}, Prelude.{run_fault_line, Streams, IsPrintedRefusal}}

-- the line of a fault that ended a service
abbrev pub service_line : ServeFault → List ℕ
service_line (ServeFault.Line n why) = refused_line_text n why
service_line ServeFault.TooLong = run_fault_line RunFault.TooLong
service_line ServeFault.Read = run_fault_line RunFault.Read
service_line ServeFault.Write = run_fault_line RunFault.Write
service_line ServeFault.NoMemory = run_fault_line RunFault.NoMemory

-- The outcome of a service that ended so. The status is 3 if a line was refused or a fault ended it, and otherwise that of the worst
-- verdict. If standard error has taken all so far, the line of its fault is printed, and otherwise nothing more.
abbrev pub IsServiceStatus : Bool → Result Served ServeFault → Option (List ℕ) → Option (List ℕ) → Outcome → Type 0
IsServiceStatus taken (Ok served) untold told outcome = Keeps untold told
    × (outcome ≡ record { status = if served.refused then 3 else verdict_status served.worst; told = if taken then Ok tt else Err RunFault.Write })
IsServiceStatus true (Err fault) untold told outcome = IsPrintedRefusal untold told (service_line fault) outcome
IsServiceStatus false (Err fault) untold told outcome = Keeps untold told × (outcome ≡ record { status = 3; told = Err RunFault.Write })

-- the input was served, line by line, until it or the service ended, and that was settled
pub record Serves (input : Option (List ℕ)) (s : Streams) (outcome : Outcome) : Type 0 where
  pub left : Option (List ℕ)
  pub between : Option (List ℕ)
  pub ending : Ending
  pub served : IsServiceEnd input left s.before s.after s.untold between ending
  pub settled : IsServiceStatus ending.told ending.outcome between s.told outcome
